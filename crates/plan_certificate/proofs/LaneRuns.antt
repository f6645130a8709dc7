-- When sets of lanes share none.
use Rattle.std.proofs.Common.{◌≡◌, ℕ, ◌+◌, ◌≤◌, ◌&&◌, Bool, true, false, sym, ap, ◌∙◌, inl, inr, arith}
use Rattle.std.proofs.lemmas.Bool.{cases_Bool, cases_lt, eqb-true, eq-eqb, or_cases}
use Rattle.std.proofs.lemmas.Bool.Decides.{nat_tests}
use Rattle.std.specs.Cmp.{nat_cmp_total}
use Rattle.std.specs.FinSet as set
use Rattle.std.specs.FinSet.{contains-empty, contains-union, contains-intersection, len-empty, empty_of_len, same_set, nat_cmp-IsAntisymmetric}
use Rattle.std.specs.Ordering.{nat_cmp}
use Rattle.field_tables.specs.LaneSets.{Lanes, run_of, is_disjoint}
use Rattle.field_tables.specs.LaneBytes.{contains-run_of}

abbrev pub Apart : Lanes → Lanes → Type 0
Apart s t = (q : ℕ) → set.contains s q ≡ true → set.contains t q ≡ true → ⊥

both : (s t : Lanes) (q : ℕ) → set.contains (set.intersection s t) q ≡ (set.contains s q && set.contains t q)
both s t q = contains-intersection nat_cmp_total s t q

pub apart_at : (s t : Lanes) → is_disjoint s t ≡ true → Apart s t
apart_at s t none q in_s in_t =
    let empty : set.intersection s t ≡ set.empty = empty_of_len (set.intersection s t) (eqb-true _ _ none) in
    let held : set.contains (set.intersection s t) q ≡ true = both s t q ∙ (λ i. in_s i && in_t i) in
    let not_held : set.contains (set.intersection s t) q ≡ false = ap (λ (u : Lanes). set.contains u q) empty ∙ contains-empty nat_cmp q in
    absurd (let no = sym not_held ∙ held in cc)

neither : (b c : Bool) → (b ≡ true → c ≡ true → ⊥) → (b && c) ≡ false
neither b c never =
    elim (cases_Bool b) [
      | inl one ↦ elim (cases_Bool c) [
        | inl other ↦ absurd (never one other)
        | inr not_other ↦ (λ i. one i && not_other i)
      ]
      | inr not_one ↦ ap (λ x. x && c) not_one
    ]

pub apart_from : (s t : Lanes) → Apart s t → is_disjoint s t ≡ true
apart_from s t apart =
    let empty : set.intersection s t ≡ set.empty =
    same_set nat_cmp_total nat_cmp-IsAntisymmetric (set.intersection s t) set.empty (λ q. both s t q ∙ neither (set.contains s q) (set.contains t q) (apart q) ∙ sym (contains-empty nat_cmp q)) in
    eq-eqb _ _ (ap set.len empty ∙ len-empty nat_cmp)

pub disjoint_back : (s t : Lanes) → is_disjoint s t ≡ true → is_disjoint t s ≡ true
disjoint_back s t none = apart_from t s (λ q in_t in_s. apart_at s t none q in_s in_t)

pub disjoint_union : (s t u : Lanes) → is_disjoint s t ≡ true → is_disjoint s u ≡ true → is_disjoint s (set.union t u) ≡ true
disjoint_union s t u from_t from_u =
    apart_from s (set.union t u) (λ q in_s in_union.
    elim (or_cases (set.contains t q) (set.contains u q) (sym (contains-union nat_cmp_total t u q) ∙ in_union)) [
      | inl in_t ↦ apart_at s t from_t q in_s in_t
      | inr in_u ↦ apart_at s u from_u q in_s in_u
    ])

pub disjoint_none : (s : Lanes) → is_disjoint s set.empty ≡ true
disjoint_none s = apart_from s set.empty (λ q in_s in_none. let none = sym (contains-empty nat_cmp q) ∙ in_none in absurd (let wrong = none in cc))

-- of two runs that share no lane, the one that doesn't begin lower begins past the other
pub runs_apart : (first count later others : ℕ) → is_disjoint (run_of first count) (run_of later others) ≡ true → 1 ≤ others → first ≤ later → first + count ≤ later
runs_apart first count later others none some from =
    elim (cases_lt later (first + count)) [
      | inl within ↦
          let in_first : set.contains (run_of first count) later ≡ true = contains-run_of first count later ∙ grind (arith, nat_tests) in
          let in_later : set.contains (run_of later others) later ≡ true = contains-run_of later others later ∙ grind (arith, nat_tests) in
          absurd (apart_at (run_of first count) (run_of later others) none later in_first in_later)
      | inr past ↦ omega (arith, past)
    ]
