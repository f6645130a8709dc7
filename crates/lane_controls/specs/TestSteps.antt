-- Each step of a link test: which controls it may store, and what it knows of them. Steps stand with the newest first.
-- (docs/lanes.md; this project's own)
use Rattle.std.specs.Prelude.{◌≡◌, ◌≢◌, ◌⊎◌, ℕ, ◌<◌, true, List, [], ◌∷◌, Some, slice_get}
use Rattle.bus_model.specs.declared.operation.Op.{Op}
use Rattle.bus_model.specs.declared.operation.Op.TheVariants.{Fetch, Store}
use Rattle.bus_model.specs.declared.operation.Step.{Step}
use Rattle.paged_memory.specs.PageAddressing.{History}
use Rattle.lane_controls.specs.declared.test_plan.Change.{Change}
use Rattle.lane_controls.specs.declared.test_plan.Switch.{Switch}
use Rattle.lane_controls.specs.declared.test_plan.TestPlan.{TestPlan}
use Rattle.lane_controls.specs.ByteHistories.{last_read, last_stored, store_at, stores_at}
use Rattle.lane_controls.specs.Capabilities.{reports}
use Rattle.lane_controls.specs.TestHistories.{byte_before, capabilities_read, paths_read}
use Rattle.lane_controls.specs.TestOperations.{select_results}
use Rattle.lane_controls.specs.TestPlans.{address, allows, restored, supports, switched, up_lanes}

-- ---- one control

abbrev pub IsListed : TestPlan → Switch → Type 0
IsListed plan switch = (i : ℕ) × (slice_get plan.switches.items i ≡ Some switch)

-- each host lane that it concerns is one whose path isn't up, or is permitted
abbrev pub IsPermitted : TestPlan → History → Switch → Type 0
IsPermitted plan history switch = (states : List ℕ) × (paths_read history ≡ Some states) × (allows plan (up_lanes states) switch ≡ true)

-- the module advertises it
abbrev pub IsSupported : History → Switch → Type 0
IsSupported history switch = (capabilities : List ℕ) × (capabilities_read history ≡ Some capabilities) × (supports capabilities switch ≡ true)

-- it is of the plan, it was stored, and this was its byte before
pub record WasMade (plan : TestPlan) (history : History) (change : Change) : Type 0 where
  pub listed : IsListed plan change.switch
  pub permitted : IsPermitted plan history change.switch
  pub supported : IsSupported history change.switch
  pub stored : 0 < stores_at (address change.switch) history
  pub was : byte_before (address change.switch) history ≡ Some change.original

-- what was stored last was to give it the bits that it had before
abbrev pub IsTried : History → Change → Type 0
IsTried history change = (byte : ℕ) × (last_stored (address change.switch) history ≡ Some (restored change byte))

-- since its last store it was read, with other bits than it had before; and that store was to give those back, if there may be one
abbrev pub ShowsOther : TestPlan → History → Change → Type 0
ShowsOther plan history change = (now : ℕ) × (last_read (address change.switch) history ≡ Some now) × (restored change now ≢ now) × ((plan.tries ≡ 0) ⊎ IsTried history change)

abbrev pub AllMade : TestPlan → History → List Change → Type 0
AllMade plan history [] = Unit {0}
AllMade plan history (change ∷ more) = WasMade plan history change × AllMade plan history more

abbrev pub AllShowOther : TestPlan → History → List Change → Type 0
AllShowOther plan history [] = Unit {0}
AllShowOther plan history (change ∷ more) = ShowsOther plan history change × AllShowOther plan history more

-- ---- each step

abbrev pub IsFetching : Op → Type 0
IsFetching (Fetch dev offset count) = Unit {0}
IsFetching (Store dev offset bytes) = ⊥

-- results are selected that the module reports
abbrev pub SelectsResults : TestPlan → Step → History → Type 0
SelectsResults plan step before = (step.op ≡ select_results plan) × ((capabilities : List ℕ) × (capabilities_read before ≡ Some capabilities) × (reports capabilities plan.results ≡ true))

-- a control of the plan is switched that is supported, and whose lanes may be disturbed: but for the bits of its mask, the byte is as
-- it was read last
abbrev pub SwitchesOn : TestPlan → Step → History → Type 0
SwitchesOn plan step before = (switch : Switch) × (now : ℕ) × IsListed plan switch × IsPermitted plan before switch × IsSupported before switch × (last_read (address switch) before ≡ Some now)
    × (step.op ≡ store_at (address switch) (switched switch now))

-- one that was switched gets back the bits that it had, and keeps the others
abbrev pub SwitchesBack : TestPlan → Step → History → Type 0
SwitchesBack plan step before = (change : Change) × (now : ℕ) × WasMade plan before change × (last_read (address change.switch) before ≡ Some now)
    × (step.op ≡ store_at (address change.switch) (restored change now))

-- something is read, or results are selected, or a control is switched
abbrev pub IsTestStep : TestPlan → Step → History → Type 0
IsTestStep plan step before = IsFetching step.op ⊎ (SelectsResults plan step before ⊎ (SwitchesOn plan step before ⊎ SwitchesBack plan step before))
