-- Results are read only while all is on, and as often as the plan says if there is no fault.
use Rattle.std.proofs.Common.{◌≡◌, ◌≢◌, ℕ, zero, suc, ◌+◌, ◌<◌, ◌≤◌, Bool, true, false, cond, if◌then◌else◌, nat_eq, nat_lt, List, [], ◌∷◌, Option, Some, None, slice_get, arith, refl, sym, ap, subst, inl, inr, ◌∙◌}
use Rattle.bus_model.specs.declared.device.Dev.TheVariants.{A0}
use Rattle.bus_model.specs.declared.operation.Op.TheVariants.{Fetch}
use Rattle.bus_model.specs.declared.operation.Reply.{Reply}
use Rattle.bus_model.specs.declared.operation.Reply.TheVariants.{Bytes, Done, Refused}
use Rattle.bus_model.specs.declared.operation.Step.{Step}
use Rattle.paged_memory.specs.PageAddressing.{History}
use Rattle.paged_memory.proofs.KnownPageLaws.{step_of}
use Rattle.lane_controls.specs.declared.link_test.LinkTest.{LinkTest}
use Rattle.lane_controls.specs.declared.link_test.TestFault.{TestFault}
use Rattle.lane_controls.specs.declared.link_test.TestStage.{TestStage}
use Rattle.lane_controls.specs.declared.link_test.TestStage.TheVariants as stage
use Rattle.lane_controls.specs.declared.test_plan.Change.{Change}
use Rattle.lane_controls.specs.declared.test_plan.Switch.{Switch}
use Rattle.lane_controls.specs.declared.test_plan.TestPlan.{TestPlan}
use Rattle.std.proofs.lemmas.Bool.{cases_eq, ltb-false}
use Rattle.lane_controls.specs.LinkTests.{down_by, failing, next_down, next_up, off_with, up_by}
use Rattle.lane_controls.specs.TestAccounts.{AllOn, IsOn, WereOn, at_least_one, measurements, wanted_measurements}
use Rattle.lane_controls.specs.TestHistories.{is_measurement}
use Rattle.lane_controls.specs.TestOperations.{refused}
use Rattle.lane_controls.specs.TestPlans.{address}
use Rattle.lane_controls.proofs.ControlLaws.{within}
use Rattle.lane_controls.proofs.ElsewhereLaws.{IsAt}
use Rattle.lane_controls.proofs.TestOrder.{IsInTurn}
use Rattle.lane_controls.proofs.TestPlanLaws.{differs}

-- ---- what is known at each stage

-- those before this place are on
abbrev pub AllOnUpTo : TestPlan → History → ℕ → Type 0
AllOnUpTo plan history n = (i : ℕ) (switch : Switch) → i < n → slice_get plan.switches.items i ≡ Some switch → IsOn history switch

-- those before the one in hand are
abbrev pub AllOnBefore : TestPlan → History → ℕ → Type 0
AllOnBefore plan history n = (i : ℕ) (switch : Switch) → i + 1 < n → slice_get plan.switches.items i ≡ Some switch → IsOn history switch

abbrev pub AreOn : TestStage → History → LinkTest → Type 0
AreOn stage.Advertised history test = Unit {0}
AreOn stage.Capabilities history test = Unit {0}
AreOn stage.Paths history test = Unit {0}
AreOn (stage.Unread switch) history test = AllOnBefore test.plan history test.next_switch
AreOn (stage.Found change) history test = AllOnBefore test.plan history test.next_switch
AreOn (stage.Switched change) history test = AllOnBefore test.plan history test.next_switch
AreOn (stage.Again change now) history test = AllOnBefore test.plan history test.next_switch
AreOn stage.Selecting history test = AllOn test.plan history
AreOn stage.Clearing history test = AllOn test.plan history
AreOn stage.Resting history test = AllOn test.plan history
AreOn stage.Reading history test = AllOn test.plan history
AreOn stage.Collecting history test = AllOn test.plan history
AreOn (stage.Down change) history test = Unit {0}
AreOn (stage.Restore change now) history test = Unit {0}
AreOn stage.Over history test = Unit {0}

abbrev pub IsCounted : TestStage → History → LinkTest → Type 0
IsCounted stage.Advertised history test = measurements history ≡ 0
IsCounted stage.Capabilities history test = measurements history ≡ 0
IsCounted stage.Paths history test = measurements history ≡ 0
IsCounted (stage.Unread switch) history test = measurements history ≡ 0
IsCounted (stage.Found change) history test = measurements history ≡ 0
IsCounted (stage.Switched change) history test = measurements history ≡ 0
IsCounted (stage.Again change now) history test = measurements history ≡ 0
IsCounted stage.Selecting history test = (measurements history ≡ 0) × (test.rounds ≡ test.plan.rounds)
IsCounted stage.Clearing history test = measurements history + at_least_one test.rounds ≡ wanted_measurements test.plan
IsCounted stage.Resting history test = measurements history + at_least_one test.rounds ≡ wanted_measurements test.plan
IsCounted stage.Reading history test = measurements history + at_least_one test.rounds ≡ wanted_measurements test.plan
IsCounted stage.Collecting history test = measurements history + at_least_one test.rounds ≡ wanted_measurements test.plan + 1
IsCounted (stage.Down change) history test = test.fault ≡ None → measurements history ≡ wanted_measurements test.plan
IsCounted (stage.Restore change now) history test = test.fault ≡ None → measurements history ≡ wanted_measurements test.plan
IsCounted stage.Over history test = test.fault ≡ None → measurements history ≡ wanted_measurements test.plan

pub record IsMeasuring (now : TestStage) (history : History) (test : LinkTest) : Type 0 where
  pub on : AreOn now history test
  pub count : IsCounted now history test
  pub were : WereOn test.plan history

abbrev pub IsMeasuringTest : History → LinkTest → Type 0
IsMeasuringTest history test = IsMeasuring test.stage history test

-- ---- steps

pub quiet : (x count : ℕ) (reply : Reply) → nat_eq count 64 ≡ false → is_measurement (Fetch A0 x count) reply ≡ false
quiet x count (Bytes bytes) e = e
quiet x count Done e = refl
quiet x count Refused e = refl

module _ (plan : TestPlan) (history : History) (step : Step) where
  pub were_quiet : is_measurement step.op step.reply ≡ false → WereOn plan history → WereOn plan (step ∷ history)
  were_quiet none were = (λ (is : is_measurement step.op step.reply ≡ true). let t : true ≡ false = sym is ∙ none in absurd cc, were)

  pub count_quiet : is_measurement step.op step.reply ≡ false → measurements (step ∷ history) ≡ measurements history
  count_quiet none = ap (λ (b : Bool). cond b (measurements history + 1) (measurements history)) none

  on_still : (x : ℕ) (switch : Switch) → IsAt x step history → x ≢ address switch → IsOn history switch → IsOn (step ∷ history) switch
  on_still x switch is_at apart (now, read, same) = (now, (is_at (address switch) apart).read ∙ read, same)

  -- where no control stands
  pub all_on_aside : (x : ℕ) → IsAt x step history → ((switch : Switch) → x ≢ address switch) → AllOn plan history → AllOn plan (step ∷ history)
  all_on_aside x is_at apart all i switch at = on_still x switch is_at (apart switch) (all i switch at)

pub below_controls : (x : ℕ) → x < 144 → (switch : Switch) → x ≢ address switch
below_controls x low switch same = let from : 144 ≤ address switch = (within switch.control).0 in absurd (omega (arith, from, low, same))

pub above_controls : (switch : Switch) → 192 ≢ address switch
above_controls switch same = let to : address switch < 184 = (within switch.control).1 in absurd (omega (arith, to, same))

within_list : (xs : List Switch) (n i : ℕ) (x : Switch) → slice_get xs n ≡ None → slice_get xs i ≡ Some x → i < n
within_list [] n i x none is = absurd cc
within_list (one ∷ more) zero i x none is = absurd cc
within_list (one ∷ more) (suc n) zero x none is = omega arith
within_list (one ∷ more) (suc n) (suc i) x none is = let rest : i < n = within_list more n i x none is in omega (arith, rest)

-- ---- from one control to the next

module _ (history : History) where
  up_measuring : (next : Option Switch) (test : LinkTest) → slice_get test.plan.switches.items test.next_switch ≡ next → AllOnUpTo test.plan history test.next_switch
      → measurements history ≡ 0 → WereOn test.plan history → IsMeasuringTest history (up_by next test)
  up_measuring None test e all none were = record {
    on = λ i switch is. all i switch (within_list test.plan.switches.items test.next_switch i switch e is) is;
    count = (none, refl);
    were = were;
  }
  up_measuring (Some switch) test e all none were = record { on = λ i other below is. all i other (omega (arith, below)) is; count = none; were = were }

  pub next_up_measuring : (test : LinkTest) → AllOnUpTo test.plan history test.next_switch → measurements history ≡ 0 → WereOn test.plan history → IsMeasuringTest history (next_up test)
  next_up_measuring test all none were = up_measuring (slice_get test.plan.switches.items test.next_switch) test refl all none were

  pub down_measuring : (on : List Change) (test : LinkTest) → (test.fault ≡ None → measurements history ≡ wanted_measurements test.plan) → WereOn test.plan history → IsMeasuringTest history (down_by on test)
  down_measuring [] test count were = record { on = tt; count = count; were = were }
  down_measuring (change ∷ on) test count were = record { on = tt; count = count; were = were }

  pub failed_measuring : (why : TestFault) (test : LinkTest) → WereOn test.plan history → IsMeasuringTest history (next_down (failing why test))
  failed_measuring why test were = down_measuring test.on.items (failing why test) (λ (none : Some why ≡ None). absurd cc) were

  pub off_measuring : (change : Change) (why : TestFault) (test : LinkTest) → WereOn test.plan history → IsMeasuringTest history (off_with change why test)
  off_measuring change why test were = record { on = tt; count = λ (none : Some why ≡ None). absurd cc; were = were }

  pub refused_measuring : (why : TestFault) (test : LinkTest) → WereOn test.plan history → IsMeasuringTest history (refused why test)
  refused_measuring why test were = record { on = tt; count = λ (none : Some why ≡ None). absurd cc; were = were }

  -- with the one in hand, all so far are on
  pub with_in_hand : (test : LinkTest) (switch : Switch) → IsInTurn test switch → AllOnBefore test.plan history test.next_switch → IsOn history switch → AllOnUpTo test.plan history test.next_switch
  with_in_hand test switch turn before on i other below is =
      elim (cases_eq i turn.place) [
        | inl here ↦
            let same : Some other ≡ Some switch = sym is ∙ ap (λ n. slice_get test.plan.switches.items n) here ∙ turn.is in
            let other_is : switch ≡ other = cc in
            subst (IsOn history) other_is on
        | inr apart ↦ before i other (omega (arith, below, turn.next, apart)) is
      ]

  pub before_kept : (test : LinkTest) (switch : Switch) (step : Step) → IsInTurn test switch → IsAt (address switch) step history → AllOnBefore test.plan history test.next_switch
      → AllOnBefore test.plan (step ∷ history) test.next_switch
  before_kept test switch step turn is_at before i other below is =
      on_still test.plan history step (address switch) other is_at
      (λ same. differs test.plan.switches.items i turn.place other switch turn.apart (omega (arith, below, turn.next)) is turn.is (sym same)) (before i other below is)

-- ---- rounds

pub some_rounds : (m : ℕ) → 1 ≤ m → at_least_one m ≡ m
some_rounds m some = go (nat_lt 1 m) refl
  where
    go : (b : Bool) → nat_lt 1 m ≡ b → (if b then m else 1) ≡ m
    go true e = refl
    go false e = let few : m ≤ 1 = ltb-false 1 m e in omega (arith, few, some)

pub last_round : (m : ℕ) → nat_lt 1 m ≡ false → at_least_one m ≡ 1
last_round m e = ap (λ (b : Bool). cond b m 1) e

-- ---- steps that read no results

module _ (history : History) (test : LinkTest) where
  pub stays : (now : TestStage) (step : Step) → test.stage ≡ now → IsMeasuring now (step ∷ history) test → IsMeasuringTest (step ∷ history) test
  stays now step e measuring = subst (λ (s : TestStage). IsMeasuring s (step ∷ history) test) (sym e) measuring

  module _ (x count : ℕ) (reply : Reply) (e : nat_eq count 64 ≡ false) where
    pub were_read : WereOn test.plan history → WereOn test.plan (step_of (Fetch A0 x count) reply ∷ history)
    were_read were = were_quiet test.plan history (step_of (Fetch A0 x count) reply) (quiet x count reply e) were

    pub count_read : measurements (step_of (Fetch A0 x count) reply ∷ history) ≡ measurements history
    count_read = count_quiet test.plan history (step_of (Fetch A0 x count) reply) (quiet x count reply e)
