-- A link test switches the controls of its plan one after the other.
use Rattle.std.proofs.Common.{◌≡◌, ℕ, ◌+◌, ◌-◌, Bool, true, false, if◌then◌else◌, nat_eq, nat_lt, List, [], ◌∷◌, length, Option, Some, None, slice_index, slice_get, arith, refl, sym, subst}
use Rattle.bus_model.specs.declared.operation.Reply.{Reply}
use Rattle.bus_model.specs.declared.operation.Reply.TheVariants.{Bytes, Done, Refused}
use Rattle.conversations.specs.declared.event.Event.TheVariants.{Made, Waited, Lacked, Asked}
use Rattle.conversations.specs.Events.{Events}
use Rattle.lane_controls.specs.declared.link_test.LinkTest.{LinkTest}
use Rattle.lane_controls.specs.declared.link_test.TestFault.{TestFault}
use Rattle.lane_controls.specs.declared.link_test.TestFault.TheVariants as fault
use Rattle.lane_controls.specs.declared.link_test.TestStage.{TestStage}
use Rattle.lane_controls.specs.declared.link_test.TestStage.TheVariants as stage
use Rattle.lane_controls.specs.declared.test_plan.Change.{Change}
use Rattle.lane_controls.specs.declared.test_plan.Switch.{Switch}
use Rattle.lane_controls.specs.declared.test_plan.TestPlan.{TestPlan}
use Rattle.lane_controls.specs.Capabilities.{has_diagnostics}
use Rattle.lane_controls.specs.LinkTests.{admitted_by, after_at, capable_by, down_by, failing, is_on, leave_on, next_down, next_up, off_with, rested_at, stop, stopped, stopped_at, test_after, up_by}
use Rattle.lane_controls.specs.TestOperations.{begun_by, joined, refused}
use Rattle.lane_controls.specs.TestPlans.{forbidden, incapability, repeated, restored, switched, up_lanes}
use Rattle.lane_controls.proofs.TestPlanLaws.{AllBelow, weaken}

-- this one is in hand, and what is on comes before it
pub record IsInTurn (test : LinkTest) (switch : Switch) : Type 0 where
  pub apart : repeated test.plan.switches.items ≡ None
  pub place : ℕ
  pub next : test.next_switch ≡ place + 1
  pub is : slice_get test.plan.switches.items place ≡ Some switch
  pub below : AllBelow test.plan.switches.items place test.on.items

abbrev pub IsFirst : LinkTest → Type 0
IsFirst test = (repeated test.plan.switches.items ≡ None) × (test.on.items ≡ []) × (test.next_switch ≡ 0)

abbrev pub IsOrdered : TestStage → LinkTest → Type 0
IsOrdered stage.Advertised test = IsFirst test
IsOrdered stage.Capabilities test = IsFirst test
IsOrdered stage.Paths test = IsFirst test
IsOrdered (stage.Unread switch) test = IsInTurn test switch
IsOrdered (stage.Found change) test = IsInTurn test change.switch
IsOrdered (stage.Switched change) test = IsInTurn test change.switch
IsOrdered (stage.Again change now) test = IsInTurn test change.switch
IsOrdered stage.Selecting test = Unit {0}
IsOrdered stage.Clearing test = Unit {0}
IsOrdered stage.Resting test = Unit {0}
IsOrdered stage.Reading test = Unit {0}
IsOrdered stage.Collecting test = Unit {0}
IsOrdered (stage.Down change) test = Unit {0}
IsOrdered (stage.Restore change now) test = Unit {0}
IsOrdered stage.Over test = Unit {0}

abbrev pub IsOrderedTest : LinkTest → Type 0
IsOrderedTest test = IsOrdered test.stage test

-- ---- what comes next in turn

module _ (test : LinkTest) where
  pub below_first : IsFirst test → AllBelow test.plan.switches.items test.next_switch test.on.items
  below_first first = subst (AllBelow test.plan.switches.items test.next_switch) (sym first.1) tt

  pub below_next : (switch : Switch) → IsInTurn test switch → AllBelow test.plan.switches.items test.next_switch test.on.items
  below_next switch turn = weaken test.plan.switches.items turn.place test.next_switch test.on.items (omega (arith, turn.next)) turn.below

  pub below_on : (change : Change) → IsInTurn test change.switch → AllBelow test.plan.switches.items test.next_switch (change ∷ test.on.items)
  below_on change turn = ((turn.place, omega (arith, turn.next), turn.is), below_next change.switch turn)

  up_ordered : (next : Option Switch) → slice_get test.plan.switches.items test.next_switch ≡ next → repeated test.plan.switches.items ≡ None
      → AllBelow test.plan.switches.items test.next_switch test.on.items → IsOrderedTest (up_by next test)
  up_ordered None e apart below = tt
  up_ordered (Some switch) e apart below = record { apart = apart; place = test.next_switch; next = refl; is = e; below = below }

  next_ordered : repeated test.plan.switches.items ≡ None → AllBelow test.plan.switches.items test.next_switch test.on.items → IsOrderedTest (next_up test)
  next_ordered apart below = up_ordered (slice_get test.plan.switches.items test.next_switch) refl apart below

down_ordered : (on : List Change) (test : LinkTest) → IsOrderedTest (down_by on test)
down_ordered [] test = tt
down_ordered (change ∷ on) test = tt

-- ---- each turn

module _ (test : LinkTest) where
  stays : (now : TestStage) → test.stage ≡ now → IsOrdered now test → IsOrderedTest test
  stays now e ordered = subst (λ (s : TestStage). IsOrdered s test) (sym e) ordered

  advertised_by : (has : Bool) → IsFirst test → IsOrderedTest (if has then record test { stage = stage.Capabilities } else refused fault.NoDiagnostics test)
  advertised_by true first = first
  advertised_by false first = tt

  capable_ordered : (why : Option TestFault) → IsFirst test → IsOrderedTest (capable_by why test)
  capable_ordered None first = first
  capable_ordered (Some fault) first = tt

  admitted_ordered : (found : Option Switch) → IsFirst test → IsOrderedTest (admitted_by found test)
  admitted_ordered None first = next_ordered test first.0 (below_first test first)
  admitted_ordered (Some switch) first = tt

  found_ordered : (switch : Switch) (byte : ℕ) (b : Bool) → IsInTurn test switch → IsOrderedTest (if b then next_up test else record test { stage = stage.Found (record { switch = switch; original = byte }) })
  found_ordered switch byte true turn = next_ordered test turn.apart (below_next test switch turn)
  found_ordered switch byte false turn = record { apart = turn.apart; place = turn.place; next = turn.next; is = turn.is; below = turn.below }

  on_ordered : (change : Change) (room : Bool) → IsInTurn test change.switch
      → IsOrderedTest (if room then next_up (record test { on = record { items = change ∷ test.on.items } }) else off_with change (fault.TooMany change.switch.control) test)
  on_ordered change true turn = next_ordered (record test { on = record { items = change ∷ test.on.items } }) turn.apart (below_on test change turn)
  on_ordered change false turn = tt

  read_up_ordered : (change : Change) (byte : ℕ) (b more : Bool) → IsInTurn test change.switch
      → IsOrderedTest (if b then is_on change test else (if more then record test { stage = stage.Again change byte; tries = test.tries - 1 } else off_with change (fault.NotSwitched change.switch.control) test))
  read_up_ordered change byte true more turn = on_ordered change (nat_lt (length test.on.items) 16) turn
  read_up_ordered change byte false true turn = record { apart = turn.apart; place = turn.place; next = turn.next; is = turn.is; below = turn.below }
  read_up_ordered change byte false false turn = tt

  left_ordered : (change : Change) (room : Bool) → test.stage ≡ stage.Down change
      → IsOrderedTest (if room then next_down (record test { still_on = record { items = change ∷ test.still_on.items } }) else test)
  left_ordered change true e = down_ordered test.on.items (record test { still_on = record { items = change ∷ test.still_on.items } })
  left_ordered change false e = stays (stage.Down change) e tt

  read_down_ordered : (change : Change) (byte : ℕ) (b more : Bool) → test.stage ≡ stage.Down change
      → IsOrderedTest (if b then next_down test else (if more then record test { stage = stage.Restore change byte; tries = test.tries - 1 } else leave_on change test))
  read_down_ordered change byte true more e = down_ordered test.on.items test
  read_down_ordered change byte false true e = tt
  read_down_ordered change byte false false e = left_ordered change (nat_lt (length test.still_on.items) 16) e

  collected_ordered : (bytes : List ℕ) (more : Bool)
      → IsOrderedTest (if more then record test { stage = stage.Resting; rounds = test.rounds - 1; flags = joined test.flags bytes } else next_down (record test { flags = joined test.flags bytes }))
  collected_ordered bytes true = tt
  collected_ordered bytes false = down_ordered test.on.items (record test { flags = joined test.flags bytes })

  turn : (now : TestStage) (reply : Reply) → test.stage ≡ now → IsOrdered now test → IsOrderedTest (after_at now test reply)
  turn stage.Advertised (Bytes bytes) e ordered = advertised_by (has_diagnostics (slice_index bytes.items 0)) ordered
  turn stage.Advertised Done e ordered = stays stage.Advertised e ordered
  turn stage.Advertised Refused e ordered = stays stage.Advertised e ordered
  turn stage.Capabilities (Bytes bytes) e ordered = capable_ordered (incapability bytes.items test.plan) ordered
  turn stage.Capabilities Done e ordered = stays stage.Capabilities e ordered
  turn stage.Capabilities Refused e ordered = stays stage.Capabilities e ordered
  turn stage.Paths (Bytes bytes) e ordered = admitted_ordered (forbidden test.plan (up_lanes bytes.items)) ordered
  turn stage.Paths Done e ordered = stays stage.Paths e ordered
  turn stage.Paths Refused e ordered = stays stage.Paths e ordered
  turn (stage.Unread switch) (Bytes bytes) e ordered = let byte = slice_index bytes.items 0 in found_ordered switch byte (nat_eq (switched switch byte) byte) ordered
  turn (stage.Unread switch) Done e ordered = stays (stage.Unread switch) e ordered
  turn (stage.Unread switch) Refused e ordered = stays (stage.Unread switch) e ordered
  turn (stage.Found change) reply e ordered = record { apart = ordered.apart; place = ordered.place; next = ordered.next; is = ordered.is; below = ordered.below }
  turn (stage.Switched change) (Bytes bytes) e ordered = let byte = slice_index bytes.items 0 in read_up_ordered change byte (nat_eq (switched change.switch byte) byte) (nat_lt 0 test.tries) ordered
  turn (stage.Switched change) Done e ordered = stays (stage.Switched change) e ordered
  turn (stage.Switched change) Refused e ordered = stays (stage.Switched change) e ordered
  turn (stage.Again change now) reply e ordered = record { apart = ordered.apart; place = ordered.place; next = ordered.next; is = ordered.is; below = ordered.below }
  turn stage.Selecting (Bytes bytes) e ordered = stays stage.Selecting e tt
  turn stage.Selecting Done e ordered = tt
  turn stage.Selecting Refused e ordered = stays stage.Selecting e tt
  turn stage.Clearing (Bytes bytes) e ordered = tt
  turn stage.Clearing Done e ordered = stays stage.Clearing e tt
  turn stage.Clearing Refused e ordered = stays stage.Clearing e tt
  turn stage.Resting reply e ordered = stays stage.Resting e tt
  turn stage.Reading (Bytes bytes) e ordered = tt
  turn stage.Reading Done e ordered = stays stage.Reading e tt
  turn stage.Reading Refused e ordered = stays stage.Reading e tt
  turn stage.Collecting (Bytes bytes) e ordered = collected_ordered bytes.items (nat_lt 1 test.rounds)
  turn stage.Collecting Done e ordered = stays stage.Collecting e tt
  turn stage.Collecting Refused e ordered = stays stage.Collecting e tt
  turn (stage.Down change) (Bytes bytes) e ordered = let byte = slice_index bytes.items 0 in read_down_ordered change byte (nat_eq (restored change byte) byte) (nat_lt 0 test.tries) e
  turn (stage.Down change) Done e ordered = stays (stage.Down change) e tt
  turn (stage.Down change) Refused e ordered = stays (stage.Down change) e tt
  turn (stage.Restore change now) reply e ordered = tt
  turn stage.Over reply e ordered = stays stage.Over e tt

  rest : (now : TestStage) → test.stage ≡ now → IsOrdered now test → IsOrderedTest (rested_at now test)
  rest stage.Resting e ordered = tt
  rest stage.Advertised e ordered = stays stage.Advertised e ordered
  rest stage.Capabilities e ordered = stays stage.Capabilities e ordered
  rest stage.Paths e ordered = stays stage.Paths e ordered
  rest (stage.Unread switch) e ordered = stays (stage.Unread switch) e ordered
  rest (stage.Found change) e ordered = stays (stage.Found change) e ordered
  rest (stage.Switched change) e ordered = stays (stage.Switched change) e ordered
  rest (stage.Again change now) e ordered = stays (stage.Again change now) e ordered
  rest stage.Selecting e ordered = stays stage.Selecting e tt
  rest stage.Clearing e ordered = stays stage.Clearing e tt
  rest stage.Reading e ordered = stays stage.Reading e tt
  rest stage.Collecting e ordered = stays stage.Collecting e tt
  rest (stage.Down change) e ordered = stays (stage.Down change) e tt
  rest (stage.Restore change now) e ordered = stays (stage.Restore change now) e tt
  rest stage.Over e ordered = stays stage.Over e tt

  stopped_ordered : (now : TestStage) → test.stage ≡ now → IsOrderedTest (stopped_at now test)
  stopped_ordered stage.Advertised e = down_ordered test.on.items (failing fault.Stopped test)
  stopped_ordered stage.Capabilities e = down_ordered test.on.items (failing fault.Stopped test)
  stopped_ordered stage.Paths e = down_ordered test.on.items (failing fault.Stopped test)
  stopped_ordered (stage.Unread switch) e = down_ordered test.on.items (failing fault.Stopped test)
  stopped_ordered (stage.Found change) e = down_ordered test.on.items (failing fault.Stopped test)
  stopped_ordered (stage.Switched change) e = tt
  stopped_ordered (stage.Again change now) e = tt
  stopped_ordered stage.Selecting e = down_ordered test.on.items (failing fault.Stopped test)
  stopped_ordered stage.Clearing e = down_ordered test.on.items (failing fault.Stopped test)
  stopped_ordered stage.Resting e = down_ordered test.on.items (failing fault.Stopped test)
  stopped_ordered stage.Reading e = down_ordered test.on.items (failing fault.Stopped test)
  stopped_ordered stage.Collecting e = down_ordered test.on.items (failing fault.Stopped test)
  stopped_ordered (stage.Down change) e = stays (stage.Down change) e tt
  stopped_ordered (stage.Restore change now) e = stays (stage.Restore change now) e tt
  stopped_ordered stage.Over e = stays stage.Over e tt

  stopped_if : (b : Bool) → IsOrderedTest test → IsOrderedTest (if b then stopped test else test)
  stopped_if true ordered = stopped_ordered test.stage refl
  stopped_if false ordered = ordered

begun_ordered : (plan : TestPlan) (found : Option Switch) → repeated plan.switches.items ≡ found → IsOrderedTest (begun_by found plan)
begun_ordered plan None none = (none, refl, refl)
begun_ordered plan (Some switch) is = tt

pub ordered : (plan : TestPlan) (events : Events) → IsOrderedTest (test_after plan events)
ordered plan [] = begun_ordered plan (repeated plan.switches.items) refl
ordered plan (Made step ∷ before) = let test = test_after plan before in turn test test.stage step.reply refl (ordered plan before)
ordered plan (Waited time ∷ before) = let test = test_after plan before in rest test test.stage refl (ordered plan before)
ordered plan (Lacked page ∷ before) = ordered plan before
ordered plan (Asked number ∷ before) = stopped_if (test_after plan before) (nat_eq number stop) (ordered plan before)
