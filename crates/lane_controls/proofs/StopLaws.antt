-- A link test that was stopped switches nothing on any more.
use Rattle.std.proofs.Common.{◌≡◌, ℕ, ◌-◌, ◌||◌, Bool, true, false, if◌then◌else◌, nat_eq, nat_lt, List, [], ◌∷◌, length, slice_index, refl, sym, subst}
use Rattle.bus_model.specs.declared.operation.Reply.{Reply}
use Rattle.bus_model.specs.declared.operation.Reply.TheVariants.{Bytes, Done, Refused}
use Rattle.conversations.specs.declared.event.Event.TheVariants.{Made, Waited, Lacked, Asked}
use Rattle.conversations.specs.Events.{Events}
use Rattle.lane_controls.specs.declared.link_test.LinkTest.{LinkTest}
use Rattle.lane_controls.specs.declared.link_test.TestFault.TheVariants as fault
use Rattle.lane_controls.specs.declared.link_test.TestStage.{TestStage}
use Rattle.lane_controls.specs.declared.link_test.TestStage.TheVariants as stage
use Rattle.lane_controls.specs.declared.test_plan.Change.{Change}
use Rattle.lane_controls.specs.declared.test_plan.TestPlan.{TestPlan}
use Rattle.lane_controls.specs.LinkTests.{after_at, down_by, failing, leave_on, next_down, rested_at, stop, stopped, stopped_at, test_after}
use Rattle.lane_controls.specs.TestAccounts.{IsEnding, was_stopped}
use Rattle.lane_controls.specs.TestPlans.{restored}

down_ends : (on : List Change) (test : LinkTest) → IsEnding (down_by on test).stage
down_ends [] test = tt
down_ends (change ∷ on) test = tt

module _ (test : LinkTest) where
  same : (now : TestStage) → test.stage ≡ now → IsEnding now → IsEnding test.stage
  same now e ends = subst IsEnding (sym e) ends

  left_ends : (change : Change) (room : Bool) → test.stage ≡ stage.Down change → IsEnding (if room then next_down (record test { still_on = record { items = change ∷ test.still_on.items } }) else test).stage
  left_ends change true e = down_ends test.on.items (record test { still_on = record { items = change ∷ test.still_on.items } })
  left_ends change false e = same (stage.Down change) e tt

  read_ends : (change : Change) (byte : ℕ) (b more : Bool) → test.stage ≡ stage.Down change
      → IsEnding (if b then next_down test else (if more then record test { stage = stage.Restore change byte; tries = test.tries - 1 } else leave_on change test)).stage
  read_ends change byte true more e = down_ends test.on.items test
  read_ends change byte false true e = tt
  read_ends change byte false false e = left_ends change (nat_lt (length test.still_on.items) 16) e

  still_ending : (now : TestStage) (reply : Reply) → test.stage ≡ now → IsEnding now → IsEnding (after_at now test reply).stage
  still_ending stage.Advertised reply e ends = absurd ends
  still_ending stage.Capabilities reply e ends = absurd ends
  still_ending stage.Paths reply e ends = absurd ends
  still_ending (stage.Unread switch) reply e ends = absurd ends
  still_ending (stage.Found change) reply e ends = absurd ends
  still_ending (stage.Switched change) reply e ends = absurd ends
  still_ending (stage.Again change now) reply e ends = absurd ends
  still_ending stage.Selecting reply e ends = absurd ends
  still_ending stage.Clearing reply e ends = absurd ends
  still_ending stage.Resting reply e ends = absurd ends
  still_ending stage.Reading reply e ends = absurd ends
  still_ending stage.Collecting reply e ends = absurd ends
  still_ending (stage.Down change) (Bytes bytes) e ends = let byte = slice_index bytes.items 0 in read_ends change byte (nat_eq (restored change byte) byte) (nat_lt 0 test.tries) e
  still_ending (stage.Down change) Done e ends = same (stage.Down change) e tt
  still_ending (stage.Down change) Refused e ends = same (stage.Down change) e tt
  still_ending (stage.Restore change now) reply e ends = tt
  still_ending stage.Over reply e ends = same stage.Over e tt

  rest_ending : (now : TestStage) → test.stage ≡ now → IsEnding now → IsEnding (rested_at now test).stage
  rest_ending stage.Advertised e ends = absurd ends
  rest_ending stage.Capabilities e ends = absurd ends
  rest_ending stage.Paths e ends = absurd ends
  rest_ending (stage.Unread switch) e ends = absurd ends
  rest_ending (stage.Found change) e ends = absurd ends
  rest_ending (stage.Switched change) e ends = absurd ends
  rest_ending (stage.Again change now) e ends = absurd ends
  rest_ending stage.Selecting e ends = absurd ends
  rest_ending stage.Clearing e ends = absurd ends
  rest_ending stage.Resting e ends = absurd ends
  rest_ending stage.Reading e ends = absurd ends
  rest_ending stage.Collecting e ends = absurd ends
  rest_ending (stage.Down change) e ends = same (stage.Down change) e tt
  rest_ending (stage.Restore change now) e ends = same (stage.Restore change now) e tt
  rest_ending stage.Over e ends = same stage.Over e tt

  stopped_ends : (now : TestStage) → test.stage ≡ now → IsEnding (stopped_at now test).stage
  stopped_ends stage.Advertised e = down_ends test.on.items (failing fault.Stopped test)
  stopped_ends stage.Capabilities e = down_ends test.on.items (failing fault.Stopped test)
  stopped_ends stage.Paths e = down_ends test.on.items (failing fault.Stopped test)
  stopped_ends (stage.Unread switch) e = down_ends test.on.items (failing fault.Stopped test)
  stopped_ends (stage.Found change) e = down_ends test.on.items (failing fault.Stopped test)
  stopped_ends (stage.Switched change) e = tt
  stopped_ends (stage.Again change now) e = tt
  stopped_ends stage.Selecting e = down_ends test.on.items (failing fault.Stopped test)
  stopped_ends stage.Clearing e = down_ends test.on.items (failing fault.Stopped test)
  stopped_ends stage.Resting e = down_ends test.on.items (failing fault.Stopped test)
  stopped_ends stage.Reading e = down_ends test.on.items (failing fault.Stopped test)
  stopped_ends stage.Collecting e = down_ends test.on.items (failing fault.Stopped test)
  stopped_ends (stage.Down change) e = same (stage.Down change) e tt
  stopped_ends (stage.Restore change now) e = same (stage.Restore change now) e tt
  stopped_ends stage.Over e = same stage.Over e tt

  asked_ends : (b before : Bool) → (b || before) ≡ true → (before ≡ true → IsEnding test.stage) → IsEnding (if b then stopped test else test).stage
  asked_ends true before is earlier = stopped_ends test.stage refl
  asked_ends false before is earlier = earlier is

pub stops : (plan : TestPlan) (events : Events) → was_stopped events ≡ true → IsEnding (test_after plan events).stage
stops plan [] is = absurd cc
stops plan (Made step ∷ before) is = let test = test_after plan before in still_ending test test.stage step.reply refl (stops plan before is)
stops plan (Waited time ∷ before) is = let test = test_after plan before in rest_ending test test.stage refl (stops plan before is)
stops plan (Lacked page ∷ before) is = stops plan before is
stops plan (Asked number ∷ before) is = asked_ends (test_after plan before) (nat_eq number stop) (was_stopped before) is (stops plan before)
