-- What a plan that isn't refused is: no control twice, each supported and permitted.
use Rattle.std.proofs.Common.{◌≡◌, ◌≢◌, ℕ, zero, suc, ◌<◌, ◌≤◌, ◌&&◌, ◌||◌, not, if◌then◌else◌, Bool, true, false, cond, nat_lt, List, [], ◌∷◌, length, filter, find, count_by, Option, Some, None, slice_get, arith, refl, sym, ap, subst, ◌∙◌}
use Rattle.std.proofs.lemmas.Bool.{eq-eqb, ltb-false}
use Rattle.std.proofs.lemmas.List.Sums.{length-filter}
use Rattle.lane_controls.specs.declared.link_test.TestFault.{TestFault}
use Rattle.lane_controls.specs.declared.link_test.TestFault.TheVariants as fault
use Rattle.lane_controls.specs.declared.test_plan.Change.{Change}
use Rattle.lane_controls.specs.declared.test_plan.Switch.{Switch}
use Rattle.lane_controls.specs.declared.test_plan.TestPlan.{TestPlan}
use Rattle.lane_controls.specs.Capabilities.{reports, supports_both_sides}
use Rattle.lane_controls.specs.TestOperations.{is_among}
use Rattle.lane_controls.specs.TestPlans.{address, allows, forbidden, incapability, incapability_by, incapability_of_results, loops_both, repeated, shares_byte, supports}
use Rattle.lane_controls.proofs.ByteLaws.{itself}
use Rattle.lane_controls.proofs.ElsewhereLaws.{differ}

-- ---- none is found

pub none_passes : {X : Type 0} (test : X → Bool) (xs : List X) (i : ℕ) (x : X) → find test xs ≡ None → slice_get xs i ≡ Some x → test x ≡ false
none_passes test [] i x none is = absurd cc
none_passes {X} test (one ∷ more) i x none is = go (test one) refl none i is (λ n rest. none_passes test more n x rest)
  where
    go : (b : Bool) → test one ≡ b → cond b (Some one) (find test more) ≡ None → (i : ℕ) → slice_get (one ∷ more) i ≡ Some x
        → ((n : ℕ) → find test more ≡ None → slice_get more n ≡ Some x → test x ≡ false) → test x ≡ false
    go true e none i is rec = absurd cc
    go false e none zero is rec = let same : one ≡ x = cc in ap test (sym same) ∙ e
    go false e none (suc i) is rec = rec i none is

pub not_not : (b : Bool) → not b ≡ false → b ≡ true
not_not true e = refl
not_not false e = absurd cc

pub each_allowed : (plan : TestPlan) (up i : ℕ) (switch : Switch) → forbidden plan up ≡ None → slice_get plan.switches.items i ≡ Some switch → allows plan up switch ≡ true
each_allowed plan up i switch none is = not_not (allows plan up switch) (none_passes (λ (s : Switch). not (allows plan up s)) plan.switches.items i switch none is)

module _ (capabilities : List ℕ) (plan : TestPlan) where
  all_supported : (found : Option Switch) → incapability_by found capabilities plan ≡ None → found ≡ None
  all_supported (Some switch) none = absurd cc
  all_supported None none = refl

  pub each_supported : (i : ℕ) (switch : Switch) → incapability capabilities plan ≡ None → slice_get plan.switches.items i ≡ Some switch → supports capabilities switch ≡ true
  each_supported i switch none is =
      not_not (supports capabilities switch)
      (none_passes (λ (s : Switch). not (supports capabilities s)) plan.switches.items i switch (all_supported (find (λ (s : Switch). not (supports capabilities s)) plan.switches.items) none) is)

  reported_by : (b : Bool) (other : Option TestFault) → cond (not b) (Some fault.UnsupportedResults) other ≡ None → b ≡ true
  reported_by true other none = refl
  reported_by false other none = absurd cc

  results_of : (found : Option Switch) → incapability_by found capabilities plan ≡ None → incapability_of_results capabilities plan ≡ None
  results_of (Some switch) none = absurd cc
  results_of None none = none

  pub results_reported : incapability capabilities plan ≡ None → reports capabilities plan.results ≡ true
  results_reported none =
      reported_by (reports capabilities plan.results) (if loops_both plan.switches.items && not (supports_both_sides capabilities) then Some fault.LoopbacksOnBothSides else None)
      (results_of (find (λ (s : Switch). not (supports capabilities s)) plan.switches.items) none)

-- ---- no two share a byte

module _ {X : Type 0} (p : X → Bool) where
  one_more : (n : ℕ) (c : Bool) (x : X) (xs : List X) → n ≤ length (filter p xs) → n ≤ length (cond c (x ∷ filter p xs) (filter p xs))
  one_more n true x xs some = omega (arith, some)
  one_more n false x xs some = some

  once : (xs : List X) (j : ℕ) (b : X) → slice_get xs j ≡ Some b → p b ≡ true → 1 ≤ length (filter p xs)
  once [] j b is hit = absurd cc
  once (x ∷ xs) zero b is hit =
      let same : x ≡ b = cc in
      subst (λ (c : Bool). 1 ≤ length (cond c (x ∷ filter p xs) (filter p xs))) (sym (ap p same ∙ hit)) (omega arith)
  once (x ∷ xs) (suc j) b is hit = one_more 1 (p x) x xs (once xs j b is hit)

  twice : (xs : List X) (i j : ℕ) (a b : X) → i < j → slice_get xs i ≡ Some a → p a ≡ true → slice_get xs j ≡ Some b → p b ≡ true → 2 ≤ length (filter p xs)
  twice [] i j a b below ia pa jb pb = absurd cc
  twice (x ∷ xs) i zero a b below ia pa jb pb = absurd (omega (arith, below))
  twice (x ∷ xs) zero (suc j) a b below ia pa jb pb =
      let same : x ≡ a = cc in
      let rest : 1 ≤ length (filter p xs) = once xs j b jb pb in
      subst (λ (c : Bool). 2 ≤ length (cond c (x ∷ filter p xs) (filter p xs))) (sym (ap p same ∙ pa)) (omega (arith, rest))
  twice (x ∷ xs) (suc i) (suc j) a b below ia pa jb pb = one_more 2 (p x) x xs (twice xs i j a b (omega (arith, below)) ia pa jb pb)

pub differs : (switches : List Switch) (i j : ℕ) (a b : Switch) → repeated switches ≡ None → i < j → slice_get switches i ≡ Some a → slice_get switches j ≡ Some b → address a ≢ address b
differs switches i j a b none below ia jb same =
    let both : 2 ≤ length (filter (shares_byte a) switches) = twice (shares_byte a) switches i j a b below ia (itself (address a)) jb (eq-eqb (address a) (address b) same) in
    let few : count_by (shares_byte a) switches ≤ 1 = ltb-false 1 (count_by (shares_byte a) switches) (none_passes (λ (s : Switch). nat_lt 1 (count_by (shares_byte s) switches)) switches i a none ia) in
    let counted : length (filter (shares_byte a) switches) ≡ count_by (shares_byte a) switches = length-filter (shares_byte a) switches in
    omega (arith, both, few, counted)

-- ---- what was switched stands before what comes next

-- each is of the plan, before this place
abbrev pub AllBelow : List Switch → ℕ → List Change → Type 0
AllBelow switches n [] = Unit {0}
AllBelow switches n (change ∷ more) = ((i : ℕ) × (i < n) × (slice_get switches i ≡ Some change.switch)) × AllBelow switches n more

pub weaken : (switches : List Switch) (n m : ℕ) (on : List Change) → n ≤ m → AllBelow switches n on → AllBelow switches m on
weaken switches n m [] most below = tt
weaken switches n m (change ∷ more) most ((i, under, is), below) = ((i, omega (arith, under, most), is), weaken switches n m more most below)

pub clear : (switches : List Switch) (n : ℕ) (on : List Change) (switch : Switch) → repeated switches ≡ None → AllBelow switches n on → slice_get switches n ≡ Some switch → is_among on (address switch) ≡ false
clear switches n [] switch none below is = refl
clear switches n (change ∷ more) switch none ((i, under, at), below) is =
    let apart = differ (address change.switch) (address switch) (differs switches i n change.switch switch none under at is) in
    ap (λ (b : Bool). b || is_among more (address switch)) apart ∙ clear switches n more switch none below is
