-- What is kept of controls that are on, and that are left on: none twice.
use Rattle.std.proofs.Common.{◌≡◌, ◌≢◌, ◌⊎◌, ℕ, inl, inr, ◌||◌, Bool, true, false, nat_eq, List, [], ◌∷◌, Option, Some, None, slice_get, refl, sym, subst, ◌∙◌}
use Rattle.std.proofs.lemmas.Bool.{eqb-false}
use Rattle.bus_model.specs.declared.operation.Step.{Step}
use Rattle.paged_memory.specs.PageAddressing.{History}
use Rattle.lane_controls.specs.declared.link_test.TestStage.{TestStage}
use Rattle.lane_controls.specs.declared.test_plan.Change.{Change}
use Rattle.lane_controls.specs.declared.link_test.LinkTest.{LinkTest}
use Rattle.lane_controls.specs.declared.test_plan.TestPlan.{TestPlan}
use Rattle.lane_controls.specs.declared.test_plan.Switch.{Switch}
use Rattle.lane_controls.specs.TestPlans.{address, repeated}
use Rattle.lane_controls.specs.TestOperations.{is_among, is_of}
use Rattle.lane_controls.specs.LinkTests.{down_by, next_up, up_by}
use Rattle.lane_controls.specs.TestSteps.{AllShowOther, IsTried}
use Rattle.lane_controls.proofs.TestInvariants.{AreDistinct, AreNotOn, IsParted}
use Rattle.lane_controls.proofs.TestPlanLaws.{AllBelow, clear}
use Rattle.lane_controls.proofs.ElsewhereLaws.{IsAt, differ}

abbrev pub IsPartedTest : History → LinkTest → Type 0
IsPartedTest history test = IsParted test.stage history test

pub neither : (x y : Bool) → (x || y) ≡ false → (x ≡ false) × (y ≡ false)
neither true y e = absurd cc
neither false y e = (refl, e)

pub turned : (a b : ℕ) → nat_eq a b ≡ false → nat_eq b a ≡ false
turned a b e = differ b a (λ same. eqb-false a b e (sym same))

-- a change one isn't among these if they aren't this one
pub not_among : (change : Change) (on left : List Change) → AreNotOn (change ∷ on) left → is_among left (address change.switch) ≡ false
not_among change on [] none = refl
not_among change on (one ∷ more) (apart, none) =
    let (other, rest) = neither (is_of (address one.switch) change) (is_among on (address one.switch)) apart in
    (λ i. turned (address change.switch) (address one.switch) other i || is_among more (address change.switch)) ∙ not_among change on more none

pub fewer_on : (change : Change) (on left : List Change) → AreNotOn (change ∷ on) left → AreNotOn on left
fewer_on change on [] none = tt
fewer_on change on (one ∷ more) (apart, none) = ((neither (is_of (address one.switch) change) (is_among on (address one.switch)) apart).1, fewer_on change on more none)

-- no control stands there
pub no_control : (x : ℕ) (left : List Change) → ((switch : Switch) → address switch ≢ x) → is_among left x ≡ false
no_control x [] other = refl
no_control x (change ∷ more) other = (λ i. differ (address change.switch) x (other change.switch) i || is_among more x) ∙ no_control x more other

module _ (plan : TestPlan) (history : History) (x : ℕ) (step : Step) (is_at : IsAt x step history) where
  pub shows_still : (left : List Change) → is_among left x ≡ false → AllShowOther plan history left → AllShowOther plan (step ∷ history) left
  shows_still [] none show = tt
  shows_still (change ∷ more) none ((now, read, other, tried), show) =
      let (apart, rest) = neither (is_of x change) (is_among more x) none in
      let nothing = is_at (address change.switch) (λ same. eqb-false (address change.switch) x apart (sym same)) in
      let still : (plan.tries ≡ 0) ⊎ IsTried (step ∷ history) change = elim tried [ inl none ↦ inl none | inr gave ↦ inr (gave.0, nothing.stored ∙ gave.1) ] in
      ((now, nothing.read ∙ read, other, still), shows_still more rest show)

module _ (history : History) where
  pub down_parted : (on : List Change) (test : LinkTest) → test.on.items ≡ on → AreDistinct test.on.items → AreNotOn test.on.items test.still_on.items → AllShowOther test.plan history test.still_on.items → IsPartedTest history (down_by on test)
  down_parted [] test e distinct apart show = record { in_hand = tt; tried = tt; on = distinct; left = apart; show = show }
  down_parted (change ∷ on) test e distinct apart show =
      let d : AreDistinct (change ∷ on) = subst AreDistinct e distinct in
      let a : AreNotOn (change ∷ on) test.still_on.items = subst (λ (l : List Change). AreNotOn l test.still_on.items) e apart in
      record { in_hand = (not_among change on test.still_on.items a, d.0); tried = inl refl; on = d.1; left = fewer_on change on test.still_on.items a; show = show }

  -- nothing is left on
  pub none_on : (on left : List Change) → left ≡ [] → AreNotOn on left
  none_on on left none = subst (AreNotOn on) (sym none) tt

  pub none_shows : (plan : TestPlan) (left : List Change) → left ≡ [] → AllShowOther plan history left
  none_shows plan left none = subst (AllShowOther plan history) (sym none) tt

  up_parted : (next : Option Switch) (test : LinkTest) → slice_get test.plan.switches.items test.next_switch ≡ next → AreDistinct test.on.items → test.still_on.items ≡ []
      → repeated test.plan.switches.items ≡ None → AllBelow test.plan.switches.items test.next_switch test.on.items → IsPartedTest history (up_by next test)
  up_parted None test e distinct none apart below = record { in_hand = tt; tried = tt; on = distinct; left = none_on test.on.items test.still_on.items none; show = none_shows test.plan test.still_on.items none }
  up_parted (Some switch) test e distinct none apart below = record {
    in_hand = (none, clear test.plan.switches.items test.next_switch test.on.items switch apart below e);
    tried = tt;
    on = distinct;
    left = none_on test.on.items test.still_on.items none;
    show = none_shows test.plan test.still_on.items none;
  }

  pub next_up_parted : (test : LinkTest) → AreDistinct test.on.items → test.still_on.items ≡ [] → repeated test.plan.switches.items ≡ None → AllBelow test.plan.switches.items test.next_switch test.on.items
      → IsPartedTest history (next_up test)
  next_up_parted test distinct none apart below = up_parted (slice_get test.plan.switches.items test.next_switch) test refl distinct none apart below

-- nothing came of the step
module _ (history : History) (test : LinkTest) (step : Step) where
  pub stays : (now : TestStage) → test.stage ≡ now → IsParted now (step ∷ history) test → IsPartedTest (step ∷ history) test
  stays now e parted = subst (λ (s : TestStage). IsParted s (step ∷ history) test) (sym e) parted
