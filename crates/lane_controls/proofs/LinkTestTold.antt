-- What a link test was told is what happened, and how it ends.
use Rattle.std.proofs.Common.{◌≡◌, ◌≢◌, ℕ, ◌+◌, ◌≤◌, ◌&&◌, ◌||◌, Bool, true, false, nat_lt, List, ◌∷◌, None, arith, refl, sym, ap, subst}
use Rattle.std.proofs.lemmas.Bool.{le-ltb}
use Rattle.bus_model.specs.declared.operation.Op.{Op}
use Rattle.bus_model.specs.declared.operation.Reply.{Reply}
use Rattle.conversations.specs.declared.event.Event.TheVariants.{Waited, Lacked, Asked}
use Rattle.conversations.specs.declared.next.Next.{Next}
use Rattle.conversations.specs.declared.next.Next.TheVariants.{Do, Wait, End}
use Rattle.conversations.specs.Events.{Events, made, steps_of}
use Rattle.conversations.specs.Wanted.{IfDo, IfEnd, IsWait}
use Rattle.paged_memory.specs.declared.page_addressing.PageAddressing.{PageAddressing}
use Rattle.paged_memory.specs.declared.page_addressing.PageAddressing.TheVariants.{BankAndPage, PageAlone}
use Rattle.paged_memory.specs.KnownPages.{IsApart}
use Rattle.lane_controls.specs.declared.test_plan.Change.{Change}
use Rattle.lane_controls.specs.declared.link_test.LinkTest.{LinkTest}
use Rattle.lane_controls.specs.declared.test_plan.TestPlan.{TestPlan}
use Rattle.lane_controls.specs.declared.link_test.TestStage.{TestStage}
use Rattle.lane_controls.specs.declared.link_test.TestStage.TheVariants as stage
use Rattle.lane_controls.specs.declared.test_plan.Switch.{Switch}
use Rattle.lane_controls.specs.declared.link_test.TestEnd.{TestEnd}
use Rattle.lane_controls.specs.ByteHistories.{read_at, store_at}
use Rattle.lane_controls.specs.TestPlans.{address, restored, switched}
use Rattle.lane_controls.specs.TestOperations.{end_of, is_among, wants, wants_at}
use Rattle.lane_controls.specs.LinkTests.{after, rested, rested_at, stopped_by, test_after}
use Rattle.lane_controls.specs.TestAccounts.{AllAccounted, EachIsWanted, GoesOn, HasEnded, IsTold, LeavesNothing, WereOn, is_named, measurements, wanted_measurements}
use Rattle.lane_controls.proofs.TestInvariants.{IsSound}
use Rattle.lane_controls.proofs.ControlLaws.{within}
use Rattle.lane_controls.proofs.ElsewhereLaws.{differ}
use Rattle.lane_controls.proofs.LinkTestLaws.{IsSoundTest}
use Rattle.lane_controls.proofs.LinkTestParted.{parted}
use Rattle.lane_controls.proofs.PartedLaws.{IsPartedTest}
use Rattle.lane_controls.proofs.MeasuringLaws.{IsCounted, IsMeasuringTest}
use Rattle.lane_controls.proofs.TestMeasuring.{measuring}
use Rattle.lane_controls.specs.ResultSets.{code_of}
use Rattle.lane_controls.proofs.LinkTestPlans.{plan_kept, rested_plan, stopped_plan}
use Rattle.lane_controls.proofs.LinkTestTurns.{sound}

-- ---- one event more

module _ (events : Events) (test : LinkTest) (told : IsTold events test) where
  pub told_step : (op : Op) (reply : Reply) → wants test ≡ Do op → IsTold (made op reply ∷ events) (after test reply)
  told_step op reply asks = record {
    is = subst (λ (plan : TestPlan). after test reply ≡ after (test_after plan events) reply) (sym (plan_kept test reply)) (ap (λ (t : LinkTest). after t reply) told.is);
    each = subst (λ (plan : TestPlan). EachIsWanted plan (made op reply ∷ events)) (sym (plan_kept test reply)) (subst (λ (t : LinkTest). wants t ≡ Do op) told.is asks, told.each);
  }

  pub told_wait : (time : ℕ) → wants test ≡ Wait time → IsTold (Waited time ∷ events) (rested test)
  told_wait time asks = record {
    is = subst (λ (plan : TestPlan). rested test ≡ rested (test_after plan events)) (sym (rested_plan test)) (ap (λ (t : LinkTest). rested t) told.is);
    each = subst (λ (plan : TestPlan). EachIsWanted plan (Waited time ∷ events)) (sym (rested_plan test)) (subst (λ (t : LinkTest). wants t ≡ Wait time) told.is asks, told.each);
  }

  pub told_asked : (number : ℕ) → IsTold (Asked number ∷ events) (stopped_by number test)
  told_asked number = record {
    is = subst (λ (plan : TestPlan). stopped_by number test ≡ stopped_by number (test_after plan events)) (sym (stopped_plan number test)) (ap (λ (t : LinkTest). stopped_by number t) told.is);
    each = subst (λ (plan : TestPlan). EachIsWanted plan events) (sym (stopped_plan number test)) told.each;
  }

  pub told_lack : (page : ℕ) → IsTold (Lacked page ∷ events) test
  told_lack page = record { is = told.is; each = told.each }

  -- ---- what is known then

  pub sound_now : IsSoundTest (steps_of events) test
  sound_now = subst (λ (t : LinkTest). IsSoundTest (steps_of events) t) (sym told.is) (sound test.plan events told.each)

  measuring_now : IsMeasuringTest (steps_of events) test
  measuring_now = subst (λ (t : LinkTest). IsMeasuringTest (steps_of events) t) (sym told.is) (measuring test.plan events told.each)

  pub were_on : WereOn test.plan (steps_of events)
  were_on = measuring_now.were

  pub leaves_nothing : LeavesNothing test.plan events (is_named test.stage test)
  leaves_nothing = record { steps = sound_now.kept.steps; accounted = sound_now.kept.accounted; on = were_on }

  pub goes_on : GoesOn test.plan events
  goes_on = subst (λ (t : LinkTest). LeavesNothing test.plan events (λ a. is_named t.stage t a)) told.is leaves_nothing

  over : test.stage ≡ stage.Over → IsSound stage.Over (steps_of events) test
  over e = subst (λ (s : TestStage). IsSound s (steps_of events) test) e sound_now

  pub measured : test.stage ≡ stage.Over → test.fault ≡ None → measurements (steps_of events) ≡ wanted_measurements test.plan
  measured e = subst (λ (s : TestStage). IsCounted s (steps_of events) test) e measuring_now.count

  pub ended : test.stage ≡ stage.Over → HasEnded test.plan events (end_of test)
  ended e = record {
    leaves = record {
      steps = (over e).kept.steps;
      accounted = subst (λ (on : List Change). AllAccounted test.plan (steps_of events) (λ a. is_among on a || is_among test.still_on.items a)) (over e).at (over e).kept.accounted;
      on = were_on;
    };
    made = (over e).kept.left_right;
    shows = (subst (λ (t : LinkTest). IsPartedTest (steps_of events) t) (sym told.is) (parted test.plan events told.each)).show;
    measured = measured e;
  }

-- ---- after a wait comes no wait

once_at : (now : TestStage) (test : LinkTest) → IsWait (wants_at now test) → ¬ (IsWait (wants (rested_at now test)))
once_at stage.Advertised test waits again = waits
once_at stage.Capabilities test waits again = waits
once_at stage.Paths test waits again = waits
once_at (stage.Unread switch) test waits again = waits
once_at (stage.Found change) test waits again = waits
once_at (stage.Switched change) test waits again = waits
once_at (stage.Again change now) test waits again = waits
once_at stage.Selecting test waits again = waits
once_at stage.Resting test waits again = again
once_at stage.Clearing test waits again = waits
once_at stage.Reading test waits again = waits
once_at stage.Collecting test waits again = waits
once_at (stage.Down change) test waits again = waits
once_at (stage.Restore change now) test waits again = waits
once_at stage.Over test waits again = waits

pub once : (test : LinkTest) → IsWait (wants test) → ¬ (IsWait (wants (rested test)))
once test waits = once_at test.stage test waits

-- ---- the selection is left alone

read_apart : (x : ℕ) (by : PageAddressing) → 144 ≤ x → IsApart by (read_at x)
read_apart x BankAndPage from = record { not_selecting = refl; not_reading_back = ap (λ (b : Bool). b && false) (let other : 126 ≢ x = omega (arith, from) in differ 126 x other) }
read_apart x PageAlone from = record { not_selecting = refl; not_reading_back = ap (λ (b : Bool). b && true) (let other : 127 ≢ x = omega (arith, from) in differ 127 x other) }

store_apart : (x byte : ℕ) (by : PageAddressing) → 128 ≤ x → IsApart by (store_at x byte)
store_apart x byte BankAndPage from = record { not_selecting = ap (λ (b : Bool). b && nat_lt 126 (x + 1)) (le-ltb x 128 from); not_reading_back = refl }
store_apart x byte PageAlone from = record { not_selecting = ap (λ (b : Bool). b && nat_lt 127 (x + 1)) (le-ltb x 128 from); not_reading_back = refl }

from_control : (switch : Switch) → 144 ≤ address switch
from_control switch = (within switch.control).0

later : (switch : Switch) → 128 ≤ address switch
later switch = let from : 144 ≤ address switch = from_control switch in omega (arith, from)

apart_at : (now : TestStage) (test : LinkTest) (by : PageAddressing) → IfDo (wants_at now test) (IsApart by)
apart_at stage.Advertised test BankAndPage = record { not_selecting = refl; not_reading_back = refl }
apart_at stage.Advertised test PageAlone = record { not_selecting = refl; not_reading_back = refl }
apart_at stage.Capabilities test BankAndPage = record { not_selecting = refl; not_reading_back = refl }
apart_at stage.Capabilities test PageAlone = record { not_selecting = refl; not_reading_back = refl }
apart_at stage.Paths test BankAndPage = record { not_selecting = refl; not_reading_back = refl }
apart_at stage.Paths test PageAlone = record { not_selecting = refl; not_reading_back = refl }
apart_at (stage.Unread switch) test by = read_apart (address switch) by (from_control switch)
apart_at (stage.Found change) test by = store_apart (address change.switch) (switched change.switch change.original) by (later change.switch)
apart_at (stage.Switched change) test by = read_apart (address change.switch) by (from_control change.switch)
apart_at (stage.Again change now) test by = store_apart (address change.switch) (switched change.switch now) by (later change.switch)
apart_at stage.Selecting test by = store_apart 128 (code_of test.plan.results) by (omega arith)
apart_at stage.Resting test by = tt
apart_at stage.Clearing test BankAndPage = record { not_selecting = refl; not_reading_back = refl }
apart_at stage.Clearing test PageAlone = record { not_selecting = refl; not_reading_back = refl }
apart_at stage.Collecting test BankAndPage = record { not_selecting = refl; not_reading_back = refl }
apart_at stage.Collecting test PageAlone = record { not_selecting = refl; not_reading_back = refl }
apart_at stage.Reading test BankAndPage = record { not_selecting = refl; not_reading_back = refl }
apart_at stage.Reading test PageAlone = record { not_selecting = refl; not_reading_back = refl }
apart_at (stage.Down change) test by = read_apart (address change.switch) by (from_control change.switch)
apart_at (stage.Restore change now) test by = store_apart (address change.switch) (restored change now) by (later change.switch)
apart_at stage.Over test by = tt

pub apart : (test : LinkTest) (by : PageAddressing) → IfDo (wants test) (IsApart by)
apart test by = apart_at test.stage test by

-- ---- what is wanted next

if_do : (next : Next TestEnd) (P : Type 0) → P → IfDo next (λ (op : Op). P)
if_do (Do op) P p = p
if_do (Wait time) P p = tt
if_do (End end) P p = tt

pub goes_on_if : (events : Events) (test : LinkTest) (next : Next TestEnd) → IsTold events test → IfDo next (λ (op : Op). GoesOn test.plan events)
goes_on_if events test next told = if_do next (GoesOn test.plan events) (goes_on events test told)

ends_at : (events : Events) (test : LinkTest) (now : TestStage) → test.stage ≡ now → IsTold events test → IfEnd (wants_at now test) (λ end. HasEnded test.plan events end)
ends_at events test stage.Advertised e told = tt
ends_at events test stage.Capabilities e told = tt
ends_at events test stage.Paths e told = tt
ends_at events test (stage.Unread switch) e told = tt
ends_at events test (stage.Found change) e told = tt
ends_at events test (stage.Switched change) e told = tt
ends_at events test (stage.Again change now) e told = tt
ends_at events test stage.Selecting e told = tt
ends_at events test stage.Resting e told = tt
ends_at events test stage.Clearing e told = tt
ends_at events test stage.Reading e told = tt
ends_at events test stage.Collecting e told = tt
ends_at events test (stage.Down change) e told = tt
ends_at events test (stage.Restore change now) e told = tt
ends_at events test stage.Over e told = ended events test told e

pub ends_if : (events : Events) (test : LinkTest) (next : Next TestEnd) → next ≡ wants test → IsTold events test → IfEnd next (λ end. HasEnded test.plan events end)
ends_if events test next is told = subst (λ (n : Next TestEnd). IfEnd n (λ end. HasEnded test.plan events end)) (sym is) (ends_at events test test.stage refl told)
