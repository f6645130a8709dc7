-- The text of a number of eleven bits writes exactly that number.
use Rattle.std.proofs.Common.{◌≡◌, ◌<◌, ◌≤◌, ◌∙◌, ◌⊎◌, ℕ, zero, suc, ◌+◌, ◌*◌, ◌/◌, ◌%◌, ◌^◌, nat_lt, true, false, ℤ, pos, List, [], ◌∷◌, ◌++◌, refl, sym, ap, inl, inr, arith}
use Rattle.std.specs.Prelude.{◌+ℤ◌, length}
use Rattle.std.specs.Fmt.{signed_decimal}
use Rattle.std.specs.List.{AllByRecursion}
use Rattle.std.proofs.Math.Nat.{one-le-pow}
use Rattle.std.proofs.lemmas.Bool.{cases_lt}
use Rattle.std.proofs.lemmas.Bool.Decides.{nat_tests}
use Rattle.std.proofs.lemmas.Fmt.{decimal_digit}
use Rattle.std.proofs.lemmas.Int.{ints}
use Rattle.observables.specs.declared.scientific.Scientific.{Scientific}
use Rattle.observables.specs.Scientific.{scientific, pointed, number_from, IsShortest, WritesExactly, ScientificIsExact}

one : (d : ℕ) (e : ℤ) → d < 10 → scientific d e ≡ (48 + d) ∷ 101 ∷ signed_decimal e
unfolding scientific
one d e below =
    let t : nat_lt d 10 ≡ true = grind (arith, nat_tests) in
    rw (t, decimal_digit d below) refl

two : (d : ℕ) (e : ℤ) → 10 ≤ d → d < 100 → scientific d e ≡ (48 + d / 10) ∷ 46 ∷ (48 + d % 10) ∷ 101 ∷ signed_decimal (e +ℤ pos 1)
unfolding scientific
two d e above below =
    let f : nat_lt d 10 ≡ false = grind (arith, nat_tests) in
    let t : nat_lt d 100 ≡ true = grind (arith, nat_tests) in
    rw (f, t, decimal_digit (d / 10) (omega arith), decimal_digit (d % 10) (omega arith)) refl

three : (d : ℕ) (e : ℤ) → 100 ≤ d → d < 1000
    → scientific d e ≡ (48 + d / 100) ∷ 46 ∷ (48 + d / 10 % 10) ∷ (48 + d % 10) ∷ 101 ∷ signed_decimal (e +ℤ pos 2)
unfolding scientific
three d e above below =
    let f : nat_lt d 10 ≡ false = grind (arith, nat_tests) in
    let g : nat_lt d 100 ≡ false = grind (arith, nat_tests) in
    let t : nat_lt d 1000 ≡ true = grind (arith, nat_tests) in
    rw (f, g, t, decimal_digit (d / 100) (omega arith), decimal_digit (d / 10 % 10) (omega arith), decimal_digit (d % 10) (omega arith)) refl

four : (d : ℕ) (e : ℤ) → 1000 ≤ d → d < 10000
    → scientific d e ≡ (48 + d / 1000) ∷ 46 ∷ (48 + d / 100 % 10) ∷ (48 + d / 10 % 10) ∷ (48 + d % 10) ∷ 101 ∷ signed_decimal (e +ℤ pos 3)
unfolding scientific
four d e above below =
    let f : nat_lt d 10 ≡ false = grind (arith, nat_tests) in
    let g : nat_lt d 100 ≡ false = grind (arith, nat_tests) in
    let h : nat_lt d 1000 ≡ false = grind (arith, nat_tests) in
    rw (f, g, h, decimal_digit (d / 1000) (omega arith), decimal_digit (d / 100 % 10) (omega arith), decimal_digit (d / 10 % 10) (omega arith), decimal_digit (d % 10) (omega arith)) refl

grows : (d p : ℕ) → 1 ≤ p → d ≤ d * p
grows d zero none = absurd (omega (arith, none))
grows d (suc p) some = omega arith

module _ (mantissa : ℕ) (exponent : ℤ) (shown : Scientific) (small : mantissa < 2048) (is : IsShortest mantissa exponent shown) where
  -- zeros make no number smaller
  fits : shown.digits < 10000
  fits =
      let more : 1 ≤ 10 ^ is.zeros = one-le-pow is.zeros 10 (omega arith) in
      omega (arith, grows shown.digits (10 ^ is.zeros) more, is.same, small)

  power_is : (n : ℕ) → (shown.exponent +ℤ pos n ≡ exponent +ℤ pos (is.zeros + n)) ⊎ (mantissa ≡ 0)
  power_is n = elim is.power [ inl same ↦ inl (omega (arith, ints, same)) | inr none ↦ inr none ]

  writes : (first : ℕ) (more : List ℕ) → scientific shown.digits shown.exponent ≡ (48 + first) ∷ (pointed more ++ 101 ∷ signed_decimal (shown.exponent +ℤ pos (length more)))
      → first < 10 → AllByRecursion (λ digit. digit < 10) more → number_from first more ≡ shown.digits → WritesExactly (scientific shown.digits shown.exponent) mantissa exponent
  writes first more text one_digit digits number = record {
    first = first;
    more = more;
    power = shown.exponent +ℤ pos (length more);
    zeros = is.zeros;
    text_is = text;
    one_digit = one_digit;
    digits = digits;
    number = ap (λ (n : ℕ). n * 10 ^ is.zeros) number ∙ is.same;
    scale = power_is (length more);
  }

  zero_more : (e : ℤ) → e +ℤ pos 0 ≡ e
  zero_more e = omega (arith, ints)

  abbrev d : ℕ
  d = shown.digits

  pub exact : WritesExactly (scientific shown.digits shown.exponent) mantissa exponent
  exact = elim (cases_lt d 10) [
    | inl below ↦ writes d [] (one d shown.exponent below ∙ ap (λ (e : ℤ). (48 + d) ∷ 101 ∷ signed_decimal e) (sym (zero_more shown.exponent))) below tt refl
    | inr above ↦ elim (cases_lt d 100) [
      | inl below ↦ writes (d / 10) (d % 10 ∷ []) (two d shown.exponent above below) (omega arith) (omega arith, tt) (omega arith)
      | inr over ↦ elim (cases_lt d 1000) [
        | inl below ↦ writes (d / 100) (d / 10 % 10 ∷ d % 10 ∷ []) (three d shown.exponent over below) (omega arith) (omega arith, (omega arith, tt)) (omega arith)
        | inr most ↦ writes (d / 1000) (d / 100 % 10 ∷ d / 10 % 10 ∷ d % 10 ∷ []) (four d shown.exponent most fits) (omega (arith, fits)) (omega arith, (omega arith, (omega arith, tt))) (omega arith)
      ]
    ]
  ]

pub is_exact : ScientificIsExact
is_exact mantissa exponent shown small is = exact mantissa exponent shown small is
