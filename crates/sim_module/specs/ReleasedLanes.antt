-- What can hold down a lane of a kept path once provisioning has cleared its DPDeinit bit. (docs/module.md, "Kept paths"; this
-- project's own)
use Rattle.std.specs.Prelude.{◌≡◌, ◌||◌, ℕ, false, true, not, List, All, reverse}
use Rattle.bus_model.specs.declared.script.Directive.{Directive}
use Rattle.bus_model.specs.Runs.{IsFull, Ran, Seen}
use Rattle.bus_model.specs.ScriptedBus.{script_rules}
use Rattle.applications.specs.Advertised.{Advertised}
use Rattle.plan_certificate.specs.declared.path.Path.{Path}
use Rattle.field_tables.specs.LaneSets.{IsLane}
use Rattle.control_sets.specs.OutcomeAnswers.{Answer}
use Rattle.control_sets.specs.OutcomeOfProvisioning.{IsProvisioning}
use Rattle.control_sets.specs.Pages.{History}
use Rattle.control_sets.specs.PlanLanes.{is_taken, lanes_outside}
use Rattle.sim_module.specs.declared.module.SimModule.{SimModule}
use Rattle.sim_module.specs.ActiveSets.{IsAtRest}
use Rattle.sim_module.specs.DeinitBits.{AcceptsBits}
use Rattle.sim_module.specs.Down.{has_low_power, is_down, is_ready}
use Rattle.sim_module.specs.KeptPaths.{IsActivePath}
use Rattle.sim_module.specs.Lanes.{is_in_progress, lane_at}
use Rattle.sim_module.specs.Modules.{conduct}

-- no lane of a kept path has the status ConfigInProgress
abbrev pub AreQuiet : Advertised → List Path → SimModule → Type 0
AreQuiet advert kept sim = (lane : ℕ) → IsLane lane → is_taken advert kept lane ≡ true → is_in_progress (lane_at sim lane) ≡ false

-- whatever a script refuses, cuts or sets the pin to: if no apply is in progress and the kept paths are active, then once the
-- store of DPDeinit for all other lanes was accepted, a lane of theirs is down if and only if the module isn't ready or low
-- power is asked for
abbrev pub KeptLanesAreReleased : Type 0
KeptLanesAreReleased =
    (old new : Seen (List Directive × SimModule)) (history : History) (advert : Advertised) (kept : List Path) (control active : List ℕ) (answer : Answer)
    → IsAtRest active old.state.1 → AreQuiet advert kept old.state.1 → All (IsActivePath advert active) kept
    → Ran (script_rules conduct) old new (reverse history) → IsProvisioning control (lanes_outside advert kept) (IsFull new) history answer
    → AcceptsBits (lanes_outside advert kept) history
    → (lane : ℕ) → IsLane lane → is_taken advert kept lane ≡ true
    → is_down new.state.1 lane ≡ (not (is_ready new.state.1) || has_low_power new.state.1)
