-- The key of an Application's number: which number it is found to be.
use Rattle.std.proofs.Common.{◌≡◌, ◌≢◌, ℕ, zero, suc, ◌+◌, ◌<◌, ◌≤◌, Bool, true, false, List, Some, None, arith, refl, sym, inl, inr, ◌∙◌}
use Rattle.std.proofs.lemmas.Bool.{cases_eq, false_from_ne_true}
use Rattle.std.proofs.lemmas.Fmt.{decimal_injective}
use Rattle.std.proofs.lemmas.Slice.Eq.{bytes_eq-Decides}
use Rattle.std.specs.Fmt.{decimal}
use Rattle.std.specs.List.{find, range_with_len}
use Rattle.std.specs.Str.{bytes_eq}
use Rattle.applications.specs.WeightKeys.{app_of_key}

unspelled : (key : List ℕ) (number : ℕ) → key ≢ decimal number → bytes_eq key (decimal number) ≡ false
unspelled key number other = false_from_ne_true (bytes_eq key (decimal number)) (λ same. other ((bytes_eq-Decides key (decimal number)).0 same))

-- the first number that passes a test
found_in : (test : ℕ → Bool) (number count first : ℕ) → test number ≡ true → ((other : ℕ) → other < number → test other ≡ false) → first ≤ number → number < first + count
    → find test (range_with_len first count) ≡ Some number
found_in test number zero first passes fail after before = absurd (omega (arith, after, before))
found_in test number (suc count) first passes fail after before =
    elim (cases_eq first number) [
      | inl same ↦ rw (same, passes) refl
      | inr other ↦ rw (fail first (omega (arith, after, other))) (found_in test number count (first + 1) passes fail (omega (arith, after, other)) (omega (arith, before)))
    ]

none_in : (test : ℕ → Bool) (count first : ℕ) → ((number : ℕ) → first ≤ number → number < first + count → test number ≡ false) → find test (range_with_len first count) ≡ None
none_in test zero first fail = refl
none_in test (suc count) first fail =
    rw (fail first (omega arith) (omega arith)) (none_in test count (first + 1) (λ number after before. fail number (omega (arith, after)) (omega (arith, before))))

pub app_found : (key : List ℕ) (number : ℕ) → key ≡ decimal number → 1 ≤ number → number ≤ 15 → app_of_key key ≡ Some number
unfolding app_of_key
app_found key number is from within =
    found_in (λ other. bytes_eq key (decimal other)) number 15 1 ((bytes_eq-Decides key (decimal number)).1 is)
    (λ other below. unspelled key other (λ too. omega (arith, below, decimal_injective other number (omega (arith, below, within)) (omega (arith, within)) (sym too ∙ is))))
    from (omega (arith, within))

pub app_none : (key : List ℕ) → ((number : ℕ) → 1 ≤ number → number ≤ 15 → key ≢ decimal number) → app_of_key key ≡ None
unfolding app_of_key
app_none key none = none_in (λ number. bytes_eq key (decimal number)) 15 1 (λ number from before. unspelled key number (none number from (omega (arith, before))))

-- a key that spells 0 spells no number of an Application
pub zero_none : (key : List ℕ) (number : ℕ) → key ≡ decimal number → number < 1 → app_of_key key ≡ None
zero_none key number is small =
    app_none key (λ other from within same. omega (arith, small, from, decimal_injective number other (omega (arith, small)) (omega (arith, within)) (sym is ∙ same)))
