-- What holds of a link test whatever happens: what may still be on is named, and results are read only while all is on. Steps stand
-- with the newest first. (docs/lanes.md; this project's own)
use Rattle.std.specs.Prelude.{◌≡◌, ◌⊎◌, ℕ, ◌+◌, ◌<◌, ◌≤◌, nat_lt, ◌==◌, ◌||◌, Bool, true, false, List, [], ◌∷◌, ◌++◌, Some, None, if◌then◌else◌, slice_get}
use Rattle.conversations.specs.declared.event.Event.TheVariants.{Made, Waited, Lacked, Asked}
use Rattle.conversations.specs.declared.next.Next.TheVariants.{Do, Wait}
use Rattle.conversations.specs.Events.{Events, steps_of}
use Rattle.paged_memory.specs.PageAddressing.{EachStep, History}
use Rattle.lane_controls.specs.declared.link_test.LinkTest.{LinkTest}
use Rattle.lane_controls.specs.declared.link_test.TestEnd.{TestEnd}
use Rattle.lane_controls.specs.declared.link_test.TestStage.{TestStage}
use Rattle.lane_controls.specs.declared.link_test.TestStage.TheVariants as stage
use Rattle.lane_controls.specs.declared.test_plan.Change.{Change}
use Rattle.lane_controls.specs.declared.test_plan.Switch.{Switch}
use Rattle.lane_controls.specs.declared.test_plan.TestPlan.{TestPlan}
use Rattle.lane_controls.specs.ByteHistories.{last_read, stores_at}
use Rattle.lane_controls.specs.LinkTests.{stop, test_after}
use Rattle.lane_controls.specs.TestHistories.{is_measurement}
use Rattle.lane_controls.specs.TestOperations.{is_among, is_of, wants}
use Rattle.lane_controls.specs.TestPlans.{address, restored, switched}
use Rattle.lane_controls.specs.TestSteps.{AllMade, AllShowOther, IsTestStep, WasMade}

-- ---- what may still be on

-- since it was stored last, it was read with the bits that it had before
pub record IsBack (plan : TestPlan) (history : History) (a : ℕ) : Type 0 where
  pub change : Change
  pub right : WasMade plan history change
  pub of : address change.switch ≡ a
  pub now : ℕ
  pub read : last_read a history ≡ Some now
  pub same : restored change now ≡ now

-- nothing was stored there, or it is named, or it is as before
abbrev pub IsAccounted : TestPlan → History → Bool → ℕ → Type 0
IsAccounted plan history named a = (stores_at a history ≡ 0) ⊎ ((named ≡ true) ⊎ IsBack plan history a)

abbrev pub IsControl : ℕ → Type 0
IsControl a = (144 ≤ a) × (a < 184)

abbrev pub AllAccounted : TestPlan → History → (ℕ → Bool) → Type 0
AllAccounted plan history named = (a : ℕ) → IsControl a → IsAccounted plan history (named a) a

-- ---- what is named

-- what the stage is about may be on
abbrev pub is_in_hand : TestStage → ℕ → Bool
is_in_hand stage.Advertised a = false
is_in_hand stage.Capabilities a = false
is_in_hand stage.Paths a = false
is_in_hand (stage.Unread switch) a = false
is_in_hand (stage.Found change) a = false
is_in_hand (stage.Switched change) a = is_of a change
is_in_hand (stage.Again change now) a = is_of a change
is_in_hand stage.Selecting a = false
is_in_hand stage.Clearing a = false
is_in_hand stage.Resting a = false
is_in_hand stage.Reading a = false
is_in_hand stage.Collecting a = false
is_in_hand (stage.Down change) a = is_of a change
is_in_hand (stage.Restore change now) a = is_of a change
is_in_hand stage.Over a = false

abbrev pub is_named : TestStage → LinkTest → ℕ → Bool
is_named now test a = is_in_hand now a || (is_among test.on.items a || is_among test.still_on.items a)

-- what is in hand, what is on, and what couldn't be switched off
abbrev pub change_in_hand : TestStage → List Change
change_in_hand stage.Advertised = []
change_in_hand stage.Capabilities = []
change_in_hand stage.Paths = []
change_in_hand (stage.Unread switch) = []
change_in_hand (stage.Found change) = []
change_in_hand (stage.Switched change) = change ∷ []
change_in_hand (stage.Again change now) = change ∷ []
change_in_hand stage.Selecting = []
change_in_hand stage.Clearing = []
change_in_hand stage.Resting = []
change_in_hand stage.Reading = []
change_in_hand stage.Collecting = []
change_in_hand (stage.Down change) = change ∷ []
change_in_hand (stage.Restore change now) = change ∷ []
change_in_hand stage.Over = []

abbrev pub changes_of : LinkTest → List Change
changes_of test = (change_in_hand test.stage ++ test.on.items) ++ test.still_on.items

-- ---- what was on

-- it was last read with the bits that the plan wants
abbrev pub IsOn : History → Switch → Type 0
IsOn history switch = (now : ℕ) × (last_read (address switch) history ≡ Some now) × (switched switch now ≡ now)

abbrev pub AllOn : TestPlan → History → Type 0
AllOn plan history = (i : ℕ) (switch : Switch) → slice_get plan.switches.items i ≡ Some switch → IsOn history switch

-- each time that results were read, all was on
abbrev pub WereOn : TestPlan → History → Type 0
WereOn plan [] = Unit {0}
WereOn plan (step ∷ before) = (is_measurement step.op step.reply ≡ true → AllOn plan before) × WereOn plan before

-- how often they were read
abbrev pub measurements : History → ℕ
measurements [] = 0
measurements (step ∷ before) = if is_measurement step.op step.reply then measurements before + 1 else measurements before

abbrev pub at_least_one : ℕ → ℕ
at_least_one rounds = if nat_lt 1 rounds then rounds else 1

abbrev pub wanted_measurements : TestPlan → ℕ
wanted_measurements plan = at_least_one plan.rounds

-- ---- events

-- the caller said that it is to stop
abbrev pub was_stopped : Events → Bool
was_stopped [] = false
was_stopped (Made step ∷ before) = was_stopped before
was_stopped (Waited time ∷ before) = was_stopped before
was_stopped (Lacked page ∷ before) = was_stopped before
was_stopped (Asked number ∷ before) = number == stop || was_stopped before

-- what was switched is switched off, or all of that is done
abbrev pub IsEnding : TestStage → Type 0
IsEnding stage.Advertised = ⊥
IsEnding stage.Capabilities = ⊥
IsEnding stage.Paths = ⊥
IsEnding (stage.Unread switch) = ⊥
IsEnding (stage.Found change) = ⊥
IsEnding (stage.Switched change) = ⊥
IsEnding (stage.Again change now) = ⊥
IsEnding stage.Selecting = ⊥
IsEnding stage.Clearing = ⊥
IsEnding stage.Resting = ⊥
IsEnding stage.Reading = ⊥
IsEnding stage.Collecting = ⊥
IsEnding (stage.Down change) = Unit {0}
IsEnding (stage.Restore change now) = Unit {0}
IsEnding stage.Over = Unit {0}

-- each is what was wanted
abbrev pub EachIsWanted : TestPlan → Events → Type 0
EachIsWanted plan [] = Unit {0}
EachIsWanted plan (Made step ∷ before) = (wants (test_after plan before) ≡ Do step.op) × EachIsWanted plan before
EachIsWanted plan (Waited time ∷ before) = (wants (test_after plan before) ≡ Wait time) × EachIsWanted plan before
EachIsWanted plan (Lacked page ∷ before) = EachIsWanted plan before
EachIsWanted plan (Asked number ∷ before) = EachIsWanted plan before

pub record IsTold (events : Events) (test : LinkTest) : Type 0 where
  pub is : test ≡ test_after test.plan events
  pub each : EachIsWanted test.plan events

-- whatever happened: each step is one that a test may make, each control that was stored is named or as before, and results were read
-- only while all was on
pub record LeavesNothing (plan : TestPlan) (events : Events) (named : ℕ → Bool) : Type 0 where
  pub steps : EachStep (IsTestStep plan) (steps_of events)
  pub accounted : AllAccounted plan (steps_of events) named
  pub on : WereOn plan (steps_of events)

-- at the end those are named that are left: each was stored, was to be as before, and shows other bits; and without a fault results
-- were read as often as the plan says
pub record HasEnded (plan : TestPlan) (events : Events) (end : TestEnd) : Type 0 where
  pub leaves : LeavesNothing plan events (is_among end.still_on.items)
  pub made : AllMade plan (steps_of events) end.still_on.items
  pub shows : AllShowOther plan (steps_of events) end.still_on.items
  pub measured : end.fault ≡ None → measurements (steps_of events) ≡ wanted_measurements plan

-- in the middle those that may be on
abbrev pub GoesOn : TestPlan → Events → Type 0
GoesOn plan events = LeavesNothing plan events (λ a. is_named (test_after plan events).stage (test_after plan events) a)
