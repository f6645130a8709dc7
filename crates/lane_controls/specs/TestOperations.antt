-- What a link test keeps, and what it asks for at each stage. (docs/lanes.md; this project's own)
use Rattle.std.specs.Prelude.{ℕ, ◌==◌, Bool, List, [], ◌∷◌, Option, Some, None, slice_index}
use Rattle.std.specs.Int.RustNames.{bit_or}
use Rattle.std.specs.List.{list_any}
use Rattle.bus_model.specs.declared.device.Dev.TheVariants.{A0}
use Rattle.bus_model.specs.declared.operation.Op.{Op}
use Rattle.bus_model.specs.declared.operation.Op.TheVariants.{Fetch}
use Rattle.conversations.specs.declared.next.Next.{Next}
use Rattle.conversations.specs.declared.next.Next.TheVariants.{Do, Wait, End}
use Rattle.lane_controls.specs.declared.link_test.LinkTest.{LinkTest}
use Rattle.lane_controls.specs.declared.link_test.TestEnd.{TestEnd}
use Rattle.lane_controls.specs.declared.link_test.TestFault.{TestFault}
use Rattle.lane_controls.specs.declared.link_test.TestFault.TheVariants as fault
use Rattle.lane_controls.specs.declared.link_test.TestStage.{TestStage}
use Rattle.lane_controls.specs.declared.link_test.TestStage.TheVariants as stage
use Rattle.lane_controls.specs.declared.test_plan.Change.{Change}
use Rattle.lane_controls.specs.declared.test_plan.Switch.{Switch}
use Rattle.lane_controls.specs.declared.test_plan.TestPlan.{TestPlan}
use Rattle.lane_controls.specs.ByteHistories.{read_at, store_at}
use Rattle.lane_controls.specs.ResultSets.{code_of}
use Rattle.lane_controls.specs.TestPlans.{address, repeated, restored, switched}

-- ---- what is kept

-- eight bytes of flags
abbrev pub no_flags : List ℕ
no_flags = 0 ∷ 0 ∷ 0 ∷ 0 ∷ 0 ∷ 0 ∷ 0 ∷ 0 ∷ []

abbrev pub either : List ℕ → List ℕ → ℕ → ℕ
either flags bytes i = bit_or (slice_index flags i) (slice_index bytes i)

-- the flags that were set before or are now
abbrev pub joined : List ℕ → List ℕ → List ℕ
joined flags bytes =
    either flags bytes 0 ∷ either flags bytes 1 ∷ either flags bytes 2 ∷ either flags bytes 3 ∷ either flags bytes 4 ∷ either flags bytes 5 ∷ either flags bytes 6 ∷ either flags bytes 7 ∷ []

abbrev pub is_of : ℕ → Change → Bool
is_of byte change = address change.switch == byte

abbrev pub is_among : List Change → ℕ → Bool
is_among change byte = list_any (is_of byte) change

-- nothing was done yet
abbrev pub unbegun : TestPlan → LinkTest
unbegun plan = record {
  plan = plan;
  stage = stage.Advertised;
  next_switch = 0;
  on = record { items = [] };
  still_on = record { items = [] };
  tries = 0;
  rounds = 0;
  fault = None;
  results = record { items = [] };
  flags = no_flags;
}

-- it ends with a fault before anything was stored
abbrev pub refused : TestFault → LinkTest → LinkTest
refused fault test = record test { stage = stage.Over; fault = Some fault }

abbrev pub begun_by : Option Switch → TestPlan → LinkTest
begun_by None plan = unbegun plan
begun_by (Some switch) plan = refused (fault.Twice switch.control) (unbegun plan)

abbrev pub begun : TestPlan → LinkTest
begun plan = begun_by (repeated plan.switches.items) plan

-- ---- what is asked for

abbrev pub read_advertised : Op
read_advertised = Fetch A0 142 1

abbrev pub read_capabilities : Op
read_capabilities = Fetch A0 128 12

abbrev pub read_flags : Op
read_flags = Fetch A0 132 8

abbrev pub select_results : TestPlan → Op
select_results plan = store_at 128 (code_of plan.results)

abbrev pub read_paths : Op
read_paths = Fetch A0 128 4

abbrev pub read_results : Op
read_results = Fetch A0 192 64

abbrev pub end_of : LinkTest → TestEnd
end_of test = record { fault = test.fault; still_on = test.still_on }

abbrev pub wants_at : TestStage → LinkTest → Next TestEnd
wants_at stage.Advertised test = Do read_advertised
wants_at stage.Capabilities test = Do read_capabilities
wants_at stage.Paths test = Do read_paths
wants_at (stage.Unread switch) test = Do (read_at (address switch))
wants_at (stage.Found change) test = Do (store_at (address change.switch) (switched change.switch change.original))
wants_at (stage.Switched change) test = Do (read_at (address change.switch))
wants_at (stage.Again change now) test = Do (store_at (address change.switch) (switched change.switch now))
wants_at stage.Selecting test = Do (select_results test.plan)
wants_at stage.Clearing test = Do read_flags
wants_at stage.Resting test = Wait test.plan.period
wants_at stage.Reading test = Do read_results
wants_at stage.Collecting test = Do read_flags
wants_at (stage.Down change) test = Do (read_at (address change.switch))
wants_at (stage.Restore change now) test = Do (store_at (address change.switch) (restored change now))
wants_at stage.Over test = End (end_of test)

abbrev pub wants : LinkTest → Next TestEnd
wants test = wants_at test.stage test

-- the page that is needed
abbrev pub page_at : TestStage → Option ℕ
page_at stage.Advertised = Some 1
page_at stage.Capabilities = Some 19
page_at stage.Paths = Some 17
page_at (stage.Unread switch) = Some 19
page_at (stage.Found change) = Some 19
page_at (stage.Switched change) = Some 19
page_at (stage.Again change now) = Some 19
page_at stage.Selecting = Some 20
page_at stage.Clearing = Some 20
page_at stage.Resting = Some 20
page_at stage.Reading = Some 20
page_at stage.Collecting = Some 20
page_at (stage.Down change) = Some 19
page_at (stage.Restore change now) = Some 19
page_at stage.Over = None
