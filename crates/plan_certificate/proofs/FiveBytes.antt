-- Bounds that are kept in five bytes.
use Rattle.std.proofs.Common.{◌≡◌, ◌≢◌, ℕ, ◌+◌, ◌-◌, ◌*◌, ◌/◌, ◌%◌, ◌<◌, ◌≤◌, ◌==◌, Bool, true, false, cond, eqb, List, [], Option, Some, None, length, map, replicate, set, get_or, refl, sym, subst, ap, ◌∙◌, inl, inr, arith}
use Rattle.std.proofs.Common.{get_or-set_same, get_or-set_other}
use Rattle.std.proofs.Math.ListN.{length-replicate, length-set}
use Rattle.std.proofs.lemmas.Bool.{cases_eq, eq-eqb, ne_eqb}
use Rattle.std.proofs.lemmas.List.{ext_get_or, get_or-replicate}
use Rattle.std.proofs.lemmas.List.FromFn.{get_or-map-range_with_len, length-map-range_with_len}
use Rattle.plan_certificate.specs.Bounds.{AreBounds, IsStated, bound_at, bound_of, bounds_of, potential_at}

abbrev Bound : Type 0
Bound = Option ℕ

-- ---- one of them

pub none_by : (text : List ℕ) (low high : ℕ) → high ≡ 0 → bound_of text low high ≡ None
none_by text low high is = ap (λ (b : Bool). cond b None (cond (eqb high 1) (Some (potential_at text low)) (Some (low + 4294967296 * (high - 2))))) (eq-eqb high 0 is)

pub stated_by : (text : List ℕ) (low high : ℕ) → high ≡ 1 → bound_of text low high ≡ Some (potential_at text low)
stated_by text low high is =
    ap (λ (b : Bool). cond b None (cond (eqb high 1) (Some (potential_at text low)) (Some (low + 4294967296 * (high - 2))))) (ne_eqb high 0 (λ other. omega (arith, is, other)))
    ∙ ap (λ (b : Bool). cond b (Some (potential_at text low)) (Some (low + 4294967296 * (high - 2)))) (eq-eqb high 1 is)

pub number_by : (text : List ℕ) (low high : ℕ) → high ≢ 0 → high ≢ 1 → bound_of text low high ≡ Some (low + 4294967296 * (high - 2))
number_by text low high some small =
    ap (λ (b : Bool). cond b None (cond (eqb high 1) (Some (potential_at text low)) (Some (low + 4294967296 * (high - 2))))) (ne_eqb high 0 some)
    ∙ ap (λ (b : Bool). cond b (Some (potential_at text low)) (Some (low + 4294967296 * (high - 2)))) (ne_eqb high 1 small)

-- where there is none, the upper byte says so
none_says : (text : List ℕ) (low high : ℕ) → bound_of text low high ≡ None → high ≡ 0
none_says text low high none = elim (cases_eq high 0) [
  | inl is ↦ is
  | inr other ↦ elim (cases_eq high 1) [
    | inl large ↦ absurd (let wrong : Some (potential_at text low) ≡ None = sym (stated_by text low high large) ∙ none in cc)
    | inr small ↦ absurd (let wrong : Some (low + 4294967296 * (high - 2)) ≡ None = sym (number_by text low high other small) ∙ none in cc)
  ]
]

-- ---- all of them

pub length_bounds : (text lows highs : List ℕ) → length (bounds_of text lows highs) ≡ 2304
unfolding bounds_of
length_bounds text lows highs = length-map-range_with_len (bound_at text lows highs) 0 2304

pub bound_is : (text lows highs : List ℕ) (place : ℕ) → place < 2304 → get_or (bounds_of text lows highs) place None ≡ bound_of text (get_or lows place 0) (get_or highs place 0)
unfolding bounds_of
bound_is text lows highs place below = get_or-map-range_with_len (bound_at text lows highs) 0 2304 place place None below (omega arith)

abbrev NoneIn : List ℕ → Type 0
NoneIn highs = (place : ℕ) → place < 2304 → get_or highs place 0 ≡ 0

no_bounds : (text lows highs : List ℕ) → NoneIn highs → bounds_of text lows highs ≡ replicate 2304 None
no_bounds text lows highs none =
    let nothing : List Bound = replicate 2304 None in
    ext_get_or None (bounds_of text lows highs) nothing
    (length_bounds text lows highs ∙ sym (length-replicate {A = Bound} 2304 None))
    (λ i inside.
    let below : i < 2304 = omega (arith, inside, length_bounds text lows highs) in
    bound_is text lows highs i below ∙ none_by text (get_or lows i 0) (get_or highs i 0) (none i below) ∙ sym (get_or-replicate {A = Bound} 2304 i None None below))

none_there : (text lows highs : List ℕ) → bounds_of text lows highs ≡ replicate 2304 None → NoneIn highs
none_there text lows highs nothing place below =
    none_says text (get_or lows place 0) (get_or highs place 0)
    (sym (bound_is text lows highs place below) ∙ ap (λ (bounds : List Bound). get_or bounds place None) nothing ∙ get_or-replicate {A = Bound} 2304 place None None below)

none_stated : (text lows highs : List ℕ) → NoneIn highs → (place : ℕ) → place < 2304 → get_or highs place 0 ≡ 1 → IsStated text (get_or lows place 0)
none_stated text lows highs none place below is = absurd (omega (arith, none place below, is))

blank_highs : NoneIn (replicate 2304 0)
blank_highs place below = get_or-replicate {A = ℕ} 2304 place 0 0 below

pub blank_bounds : bounds_of [] (replicate 2304 0) (replicate 2304 0) ≡ replicate 2304 None
blank_bounds = no_bounds [] (replicate 2304 0) (replicate 2304 0) blank_highs

pub blank_are : AreBounds [] (replicate 2304 0) (replicate 2304 0)
blank_are = record {
  low = length-replicate {A = ℕ} 2304 0;
  high = length-replicate {A = ℕ} 2304 0;
  stated = none_stated [] (replicate 2304 0) (replicate 2304 0) blank_highs;
}

-- with another text
module _ (old text lows highs : List ℕ) (are : AreBounds old lows highs) (nothing : bounds_of old lows highs ≡ replicate 2304 None) where
  pub none_of_other : bounds_of text lows highs ≡ replicate 2304 None
  none_of_other = no_bounds text lows highs (none_there old lows highs nothing)

  pub are_of_other : AreBounds text lows highs
  are_of_other = record { low = are.low; high = are.high; stated = none_stated text lows highs (none_there old lows highs nothing) }

-- one more
module _ (text lows highs : List ℕ) (place low high : ℕ) (are : AreBounds text lows highs) (below : place < 2304) where
  abbrev new_lows : List ℕ
  new_lows = set lows place low

  abbrev new_highs : List ℕ
  new_highs = set highs place high

  low_there : get_or new_lows place 0 ≡ low
  low_there = get_or-set_same lows place low 0 (omega (arith, below, are.low))

  high_there : get_or new_highs place 0 ≡ high
  high_there = get_or-set_same highs place high 0 (omega (arith, below, are.high))

  pub bounds_set : (potential : ℕ) → bound_of text low high ≡ Some potential → bounds_of text new_lows new_highs ≡ set (bounds_of text lows highs) place (Some potential)
  bounds_set potential is =
      let old = bounds_of text lows highs in
      let after : List Bound = set old place (Some potential) in
      ext_get_or None (bounds_of text new_lows new_highs) after
      (length_bounds text new_lows new_highs ∙ sym (length-set old place (Some potential) ∙ length_bounds text lows highs))
      (λ i inside.
      let within : i < 2304 = omega (arith, inside, length_bounds text new_lows new_highs) in
      elim (cases_eq i place) [
        | inl same ↦
            subst (λ (n : ℕ). get_or (bounds_of text new_lows new_highs) n None ≡ get_or after n None) (sym same)
            (bound_is text new_lows new_highs place below ∙ (λ j. bound_of text (low_there j) (high_there j)) ∙ is
            ∙ sym (get_or-set_same old place (Some potential) None (omega (arith, below, length_bounds text lows highs))))
        | inr differs ↦
            bound_is text new_lows new_highs i within
            ∙ (λ j. bound_of text (get_or-set_other lows place i low 0 differs j) (get_or-set_other highs place i high 0 differs j))
            ∙ sym (bound_is text lows highs i within)
            ∙ sym (get_or-set_other old place i (Some potential) None differs)
      ])

  pub are_set : (high ≡ 1 → IsStated text low) → AreBounds text new_lows new_highs
  are_set stated = record {
    low = length-set lows place low ∙ are.low;
    high = length-set highs place high ∙ are.high;
    stated = λ other within is. elim (cases_eq other place) [
      | inl same ↦
          let here : high ≡ 1 = sym high_there ∙ ap (λ (n : ℕ). get_or new_highs n 0) (sym same) ∙ is in
          subst (IsStated text) (sym low_there ∙ ap (λ (n : ℕ). get_or new_lows n 0) (sym same)) (stated here)
      | inr differs ↦
          let before = sym (get_or-set_other highs place other high 0 differs) ∙ is in
          subst (IsStated text) (sym (get_or-set_other lows place other low 0 differs)) (are.stated other within before)
    ];
  }
