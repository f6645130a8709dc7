-- A link test keeps its plan.
use Rattle.std.proofs.Common.{◌≡◌, ℕ, ◌-◌, Bool, true, false, if◌then◌else◌, nat_eq, nat_lt, List, [], ◌∷◌, length, Option, Some, None, slice_index, slice_get, refl}
use Rattle.bus_model.specs.declared.operation.Reply.{Reply}
use Rattle.bus_model.specs.declared.operation.Reply.TheVariants.{Bytes, Done, Refused}
use Rattle.lane_controls.specs.declared.link_test.TestFault.{TestFault}
use Rattle.lane_controls.specs.Capabilities.{has_diagnostics}
use Rattle.lane_controls.specs.declared.test_plan.Change.{Change}
use Rattle.lane_controls.specs.declared.link_test.LinkTest.{LinkTest}
use Rattle.lane_controls.specs.declared.link_test.TestStage.{TestStage}
use Rattle.lane_controls.specs.declared.link_test.TestStage.TheVariants as stage
use Rattle.lane_controls.specs.declared.test_plan.Switch.{Switch}
use Rattle.lane_controls.specs.declared.link_test.TestFault.TheVariants as fault
use Rattle.lane_controls.specs.TestPlans.{restored, switched, up_lanes, forbidden, incapability}
use Rattle.lane_controls.specs.TestOperations.{refused, joined}
use Rattle.lane_controls.specs.LinkTests.{after, after_at, down_by, failing, is_on, leave_on, next_down, next_up, off_with, rested, rested_at, stop, stopped, stopped_at, stopped_by, up_by, admitted_by, capable_by}

down_plan : (on : List Change) (test : LinkTest) → (down_by on test).plan ≡ test.plan
down_plan [] test = refl
down_plan (change ∷ on) test = refl

up_plan : (next : Option Switch) (test : LinkTest) → (up_by next test).plan ≡ test.plan
up_plan None test = refl
up_plan (Some switch) test = refl

next_up_plan : (test : LinkTest) → (next_up test).plan ≡ test.plan
next_up_plan test = up_plan (slice_get test.plan.switches.items test.next_switch) test

advertised_plan : (has : Bool) (test : LinkTest) → (if has then record test { stage = stage.Capabilities } else refused fault.NoDiagnostics test).plan ≡ test.plan
advertised_plan true test = refl
advertised_plan false test = refl

capable_plan : (why : Option TestFault) (test : LinkTest) → (capable_by why test).plan ≡ test.plan
capable_plan None test = refl
capable_plan (Some why) test = refl

admitted_plan : (found : Option Switch) (test : LinkTest) → (admitted_by found test).plan ≡ test.plan
admitted_plan None test = next_up_plan test
admitted_plan (Some switch) test = refl

found_plan : (b : Bool) (switch : Switch) (byte : ℕ) (test : LinkTest) → (if b then next_up test else record test { stage = stage.Found (record { switch = switch; original = byte }) }).plan ≡ test.plan
found_plan true switch byte test = next_up_plan test
found_plan false switch byte test = refl

on_plan : (room : Bool) (change : Change) (test : LinkTest) → (if room then next_up (record test { on = record { items = change ∷ test.on.items } }) else off_with change (fault.TooMany change.switch.control) test).plan ≡ test.plan
on_plan true change test = next_up_plan (record test { on = record { items = change ∷ test.on.items } })
on_plan false change test = refl

back_plan : (b more : Bool) (change : Change) (byte : ℕ) (test : LinkTest)
    → (if b then is_on change test else (if more then record test { stage = stage.Again change byte; tries = test.tries - 1 } else off_with change (fault.NotSwitched change.switch.control) test)).plan ≡ test.plan
back_plan true more change byte test = on_plan (nat_lt (length test.on.items) 16) change test
back_plan false true change byte test = refl
back_plan false false change byte test = refl

left_plan : (room : Bool) (change : Change) (test : LinkTest) → (if room then next_down (record test { still_on = record { items = change ∷ test.still_on.items } }) else test).plan ≡ test.plan
left_plan true change test = down_plan test.on.items (record test { still_on = record { items = change ∷ test.still_on.items } })
left_plan false change test = refl

off_plan : (b more : Bool) (change : Change) (byte : ℕ) (test : LinkTest)
    → (if b then next_down test else (if more then record test { stage = stage.Restore change byte; tries = test.tries - 1 } else leave_on change test)).plan ≡ test.plan
off_plan true more change byte test = down_plan test.on.items test
off_plan false true change byte test = refl
off_plan false false change byte test = left_plan (nat_lt (length test.still_on.items) 16) change test

collected_plan : (more : Bool) (bytes : List ℕ) (test : LinkTest)
    → (if more then record test { stage = stage.Resting; rounds = test.rounds - 1; flags = joined test.flags bytes } else next_down (record test { flags = joined test.flags bytes })).plan ≡ test.plan
collected_plan true bytes test = refl
collected_plan false bytes test = down_plan test.on.items (record test { flags = joined test.flags bytes })

plan_at : (now : TestStage) (test : LinkTest) (reply : Reply) → (after_at now test reply).plan ≡ test.plan
plan_at stage.Advertised test (Bytes bytes) = advertised_plan (has_diagnostics (slice_index bytes.items 0)) test
plan_at stage.Advertised test Done = refl
plan_at stage.Advertised test Refused = refl
plan_at stage.Capabilities test (Bytes bytes) = capable_plan (incapability bytes.items test.plan) test
plan_at stage.Capabilities test Done = refl
plan_at stage.Capabilities test Refused = refl
plan_at stage.Paths test (Bytes bytes) = admitted_plan (forbidden test.plan (up_lanes bytes.items)) test
plan_at stage.Paths test Done = refl
plan_at stage.Paths test Refused = refl
plan_at (stage.Unread switch) test (Bytes bytes) = let byte = slice_index bytes.items 0 in found_plan (nat_eq (switched switch byte) byte) switch byte test
plan_at (stage.Unread switch) test Done = refl
plan_at (stage.Unread switch) test Refused = refl
plan_at (stage.Found change) test reply = refl
plan_at (stage.Switched change) test (Bytes bytes) = let byte = slice_index bytes.items 0 in back_plan (nat_eq (switched change.switch byte) byte) (nat_lt 0 test.tries) change byte test
plan_at (stage.Switched change) test Done = refl
plan_at (stage.Switched change) test Refused = refl
plan_at (stage.Again change now) test reply = refl
plan_at stage.Selecting test (Bytes bytes) = refl
plan_at stage.Selecting test Done = refl
plan_at stage.Selecting test Refused = refl
plan_at stage.Clearing test (Bytes bytes) = refl
plan_at stage.Clearing test Done = refl
plan_at stage.Clearing test Refused = refl
plan_at stage.Resting test reply = refl
plan_at stage.Reading test (Bytes bytes) = refl
plan_at stage.Reading test Done = refl
plan_at stage.Reading test Refused = refl
plan_at stage.Collecting test (Bytes bytes) = collected_plan (nat_lt 1 test.rounds) bytes.items test
plan_at stage.Collecting test Done = refl
plan_at stage.Collecting test Refused = refl
plan_at (stage.Down change) test (Bytes bytes) = let byte = slice_index bytes.items 0 in off_plan (nat_eq (restored change byte) byte) (nat_lt 0 test.tries) change byte test
plan_at (stage.Down change) test Done = refl
plan_at (stage.Down change) test Refused = refl
plan_at (stage.Restore change now) test reply = refl
plan_at stage.Over test reply = refl

pub plan_kept : (test : LinkTest) (reply : Reply) → (after test reply).plan ≡ test.plan
plan_kept test reply = plan_at test.stage test reply

rested_plan_at : (now : TestStage) (test : LinkTest) → (rested_at now test).plan ≡ test.plan
rested_plan_at stage.Advertised test = refl
rested_plan_at stage.Capabilities test = refl
rested_plan_at stage.Paths test = refl
rested_plan_at (stage.Unread switch) test = refl
rested_plan_at (stage.Found change) test = refl
rested_plan_at (stage.Switched change) test = refl
rested_plan_at (stage.Again change now) test = refl
rested_plan_at stage.Selecting test = refl
rested_plan_at stage.Resting test = refl
rested_plan_at stage.Clearing test = refl
rested_plan_at stage.Reading test = refl
rested_plan_at stage.Collecting test = refl
rested_plan_at (stage.Down change) test = refl
rested_plan_at (stage.Restore change now) test = refl
rested_plan_at stage.Over test = refl

pub rested_plan : (test : LinkTest) → (rested test).plan ≡ test.plan
rested_plan test = rested_plan_at test.stage test

stopped_plan_at : (now : TestStage) (test : LinkTest) → (stopped_at now test).plan ≡ test.plan
stopped_plan_at stage.Advertised test = down_plan test.on.items (failing fault.Stopped test)
stopped_plan_at stage.Capabilities test = down_plan test.on.items (failing fault.Stopped test)
stopped_plan_at stage.Paths test = down_plan test.on.items (failing fault.Stopped test)
stopped_plan_at (stage.Unread switch) test = down_plan test.on.items (failing fault.Stopped test)
stopped_plan_at (stage.Found change) test = down_plan test.on.items (failing fault.Stopped test)
stopped_plan_at (stage.Switched change) test = refl
stopped_plan_at (stage.Again change now) test = refl
stopped_plan_at stage.Selecting test = down_plan test.on.items (failing fault.Stopped test)
stopped_plan_at stage.Resting test = down_plan test.on.items (failing fault.Stopped test)
stopped_plan_at stage.Clearing test = down_plan test.on.items (failing fault.Stopped test)
stopped_plan_at stage.Collecting test = down_plan test.on.items (failing fault.Stopped test)
stopped_plan_at stage.Reading test = down_plan test.on.items (failing fault.Stopped test)
stopped_plan_at (stage.Down change) test = refl
stopped_plan_at (stage.Restore change now) test = refl
stopped_plan_at stage.Over test = refl

stopped_plan_by : (b : Bool) (test : LinkTest) → (if b then stopped test else test).plan ≡ test.plan
stopped_plan_by true test = stopped_plan_at test.stage test
stopped_plan_by false test = refl

pub stopped_plan : (number : ℕ) (test : LinkTest) → (stopped_by number test).plan ≡ test.plan
stopped_plan number test = stopped_plan_by (nat_eq number stop) test
