-- A link test as it comes along: what a reply, time and its caller make of it. (docs/lanes.md; this project's own)
use Rattle.std.specs.Prelude.{ℕ, ◌+◌, ◌-◌, ◌==◌, nat_lt, List, [], ◌∷◌, length, Option, Some, None, if◌then◌else◌, slice_index, slice_get}
use Rattle.arrayvec.specs.ArrayVec.{ArrayVec}
use Rattle.bus_model.specs.declared.operation.Reply.{Reply}
use Rattle.bus_model.specs.declared.operation.Reply.TheVariants.{Bytes, Done, Refused}
use Rattle.conversations.specs.declared.event.Event.TheVariants.{Made, Waited, Lacked, Asked}
use Rattle.conversations.specs.Events.{Events}
use Rattle.lane_controls.specs.declared.link_test.LinkTest.{LinkTest}
use Rattle.lane_controls.specs.declared.link_test.TestFault.{TestFault}
use Rattle.lane_controls.specs.declared.link_test.TestFault.TheVariants as fault
use Rattle.lane_controls.specs.declared.link_test.TestStage.{TestStage}
use Rattle.lane_controls.specs.declared.link_test.TestStage.TheVariants as stage
use Rattle.lane_controls.specs.declared.test_plan.Change.{Change}
use Rattle.lane_controls.specs.declared.test_plan.Switch.{Switch}
use Rattle.lane_controls.specs.declared.test_plan.TestPlan.{TestPlan}
use Rattle.lane_controls.specs.Capabilities.{has_diagnostics}
use Rattle.lane_controls.specs.TestOperations.{begun, joined, refused}
use Rattle.lane_controls.specs.TestPlans.{forbidden, incapability, restored, switched, up_lanes}

-- ---- from one control to the next

-- the newest that is on is to be switched off
abbrev pub down_by : List Change → LinkTest → LinkTest
down_by [] test = record test { stage = stage.Over }
down_by (change ∷ on) test = record test { stage = stage.Down change; on = record { items = on }; tries = test.plan.tries }

abbrev pub next_down : LinkTest → LinkTest
next_down test = down_by test.on.items test

abbrev pub failing : TestFault → LinkTest → LinkTest
failing fault test = record test { fault = Some fault }

-- once all are on, results are selected
abbrev pub up_by : Option Switch → LinkTest → LinkTest
up_by None test = record test { stage = stage.Selecting; rounds = test.plan.rounds }
up_by (Some switch) test = record test { stage = stage.Unread switch; next_switch = test.next_switch + 1; tries = test.plan.tries }

abbrev pub next_up : LinkTest → LinkTest
next_up test = up_by (slice_get test.plan.switches.items test.next_switch) test

-- ---- before anything is stored

abbrev pub advertised : ℕ → LinkTest → LinkTest
advertised byte test = if has_diagnostics byte then record test { stage = stage.Capabilities } else refused fault.NoDiagnostics test

abbrev pub capable_by : Option TestFault → LinkTest → LinkTest
capable_by None test = record test { stage = stage.Paths }
capable_by (Some fault) test = refused fault test

abbrev pub capable : List ℕ → LinkTest → LinkTest
capable bytes test = capable_by (incapability bytes test.plan) test

abbrev pub admitted_by : Option Switch → LinkTest → LinkTest
admitted_by None test = next_up test
admitted_by (Some switch) test = refused (fault.NotPermitted switch.control) test

abbrev pub admitted : List ℕ → LinkTest → LinkTest
admitted states test = admitted_by (forbidden test.plan (up_lanes states)) test

-- ---- what is in hand

-- this one is to be switched off
abbrev pub off_with : Change → TestFault → LinkTest → LinkTest
off_with change fault test = record test { stage = stage.Down change; tries = test.plan.tries; fault = Some fault }

-- ---- what a byte that was read says

abbrev pub found : Switch → ℕ → LinkTest → LinkTest
found switch byte test = if switched switch byte == byte then next_up test else record test { stage = stage.Found (record { switch = switch; original = byte }) }

abbrev pub is_on : Change → LinkTest → LinkTest
is_on change test =
    if nat_lt (length test.on.items) 16 then next_up (record test { on = record { items = change ∷ test.on.items } })
    else off_with change (fault.TooMany change.switch.control) test

abbrev pub read_up : Change → ℕ → LinkTest → LinkTest
read_up change byte test =
    if switched change.switch byte == byte then is_on change test
    else (if nat_lt 0 test.tries then record test { stage = stage.Again change byte; tries = test.tries - 1 } else off_with change (fault.NotSwitched change.switch.control) test)

abbrev pub leave_on : Change → LinkTest → LinkTest
leave_on change test = if nat_lt (length test.still_on.items) 16 then next_down (record test { still_on = record { items = change ∷ test.still_on.items } }) else test

abbrev pub read_down : Change → ℕ → LinkTest → LinkTest
read_down change byte test =
    if restored change byte == byte then next_down test
    else (if nat_lt 0 test.tries then record test { stage = stage.Restore change byte; tries = test.tries - 1 } else leave_on change test)

abbrev pub measured : ArrayVec ℕ → LinkTest → LinkTest
measured bytes test = record test { stage = stage.Collecting; results = bytes }

-- the flags that were set since they were cleared
abbrev pub collected : List ℕ → LinkTest → LinkTest
collected bytes test =
    if nat_lt 1 test.rounds then record test { stage = stage.Resting; rounds = test.rounds - 1; flags = joined test.flags bytes }
    else next_down (record test { flags = joined test.flags bytes })

-- ---- what a reply makes of it

abbrev pub selected : Reply → LinkTest → LinkTest
selected (Bytes bytes) test = test
selected Done test = record test { stage = stage.Clearing }
selected Refused test = test

abbrev pub if_read : Reply → (ArrayVec ℕ → LinkTest) → LinkTest → LinkTest
if_read (Bytes bytes) next test = next bytes
if_read Done next test = test
if_read Refused next test = test

abbrev pub after_at : TestStage → LinkTest → Reply → LinkTest
after_at stage.Advertised test reply = if_read reply (λ bytes. advertised (slice_index bytes.items 0) test) test
after_at stage.Capabilities test reply = if_read reply (λ bytes. capable bytes.items test) test
after_at stage.Paths test reply = if_read reply (λ bytes. admitted bytes.items test) test
after_at (stage.Unread switch) test reply = if_read reply (λ bytes. found switch (slice_index bytes.items 0) test) test
after_at (stage.Found change) test reply = record test { stage = stage.Switched change }
after_at (stage.Switched change) test reply = if_read reply (λ bytes. read_up change (slice_index bytes.items 0) test) test
after_at (stage.Again change now) test reply = record test { stage = stage.Switched change }
after_at stage.Selecting test reply = selected reply test
after_at stage.Clearing test reply = if_read reply (λ bytes. record test { stage = stage.Resting }) test
after_at stage.Resting test reply = test
after_at stage.Reading test reply = if_read reply (λ bytes. measured bytes test) test
after_at stage.Collecting test reply = if_read reply (λ bytes. collected bytes.items test) test
after_at (stage.Down change) test reply = if_read reply (λ bytes. read_down change (slice_index bytes.items 0) test) test
after_at (stage.Restore change now) test reply = record test { stage = stage.Down change }
after_at stage.Over test reply = test

abbrev pub after : LinkTest → Reply → LinkTest
after test reply = after_at test.stage test reply

abbrev pub rested_at : TestStage → LinkTest → LinkTest
rested_at stage.Resting test = record test { stage = stage.Reading }
rested_at stage.Advertised test = test
rested_at stage.Capabilities test = test
rested_at stage.Paths test = test
rested_at (stage.Unread switch) test = test
rested_at (stage.Found change) test = test
rested_at (stage.Switched change) test = test
rested_at (stage.Again change now) test = test
rested_at stage.Selecting test = test
rested_at stage.Clearing test = test
rested_at stage.Reading test = test
rested_at stage.Collecting test = test
rested_at (stage.Down change) test = test
rested_at (stage.Restore change now) test = test
rested_at stage.Over test = test

-- the time has passed
abbrev pub rested : LinkTest → LinkTest
rested test = rested_at test.stage test

-- ---- a caller who ends it early

-- the number that says so
abbrev pub stop : ℕ
stop = 1

-- what may be on is switched off
abbrev pub stopped_at : TestStage → LinkTest → LinkTest
stopped_at stage.Advertised test = next_down (failing fault.Stopped test)
stopped_at stage.Capabilities test = next_down (failing fault.Stopped test)
stopped_at stage.Paths test = next_down (failing fault.Stopped test)
stopped_at (stage.Unread switch) test = next_down (failing fault.Stopped test)
stopped_at (stage.Found change) test = next_down (failing fault.Stopped test)
stopped_at (stage.Switched change) test = off_with change fault.Stopped test
stopped_at (stage.Again change now) test = off_with change fault.Stopped test
stopped_at stage.Selecting test = next_down (failing fault.Stopped test)
stopped_at stage.Clearing test = next_down (failing fault.Stopped test)
stopped_at stage.Resting test = next_down (failing fault.Stopped test)
stopped_at stage.Reading test = next_down (failing fault.Stopped test)
stopped_at stage.Collecting test = next_down (failing fault.Stopped test)
stopped_at (stage.Down change) test = test
stopped_at (stage.Restore change now) test = test
stopped_at stage.Over test = test

abbrev pub stopped : LinkTest → LinkTest
stopped test = stopped_at test.stage test

-- no other number matters
abbrev pub stopped_by : ℕ → LinkTest → LinkTest
stopped_by number test = if number == stop then stopped test else test

-- ---- as it is after these events

abbrev pub test_after : TestPlan → Events → LinkTest
test_after plan [] = begun plan
test_after plan (Made step ∷ before) = after (test_after plan before) step.reply
test_after plan (Waited time ∷ before) = rested (test_after plan before)
test_after plan (Lacked page ∷ before) = test_after plan before
test_after plan (Asked number ∷ before) = stopped_by number (test_after plan before)
