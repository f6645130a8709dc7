-- Which DPDeinit bits provisioning leaves set in a module. (docs/module.md, "Kept paths"; this project's own)
use Rattle.std.specs.Prelude.{◌≡◌, ℕ, false, true, List, Ok, reverse}
use Rattle.std.specs.FinSet as set
use Rattle.bus_model.specs.declared.script.Directive.{Directive}
use Rattle.bus_model.specs.Runs.{IsFull, Ran, Seen}
use Rattle.bus_model.specs.ScriptedBus.{script_rules}
use Rattle.field_tables.specs.LaneSets.{IsLane, Lanes, byte_of}
use Rattle.applications.specs.Advertised.{Advertised}
use Rattle.plan_certificate.specs.declared.path.Path.{Path}
use Rattle.control_sets.specs.OutcomeAnswers.{Answer}
use Rattle.control_sets.specs.OutcomeOfProvisioning.{IsProvisioning}
use Rattle.control_sets.specs.OutcomeOperations.{set_deinit}
use Rattle.control_sets.specs.OutcomeSteps.{IsAccepted, Stands}
use Rattle.control_sets.specs.Pages.{History}
use Rattle.control_sets.specs.PlanLanes.{is_taken, lanes_outside}
use Rattle.sim_module.specs.declared.module.SimModule.{SimModule}
use Rattle.sim_module.specs.Modules.{conduct}

-- DPDeinit holds these lanes: a lane's bit is set if and only if the lane is one of them
abbrev pub DeinitHolds : Lanes → SimModule → Type 0
DeinitHolds lanes sim = (lane : ℕ) → IsLane lane → set.contains sim.deinit lane ≡ set.contains lanes lane

-- the store of DPDeinit for these lanes was accepted
abbrev pub AcceptsBits : Lanes → History → Type 0
AcceptsBits lanes history = Stands (IsAccepted (set_deinit (byte_of lanes))) history

-- whatever a script refuses or cuts: so the bits are after steps of provisioning, one of which stored them, whatever they answer
abbrev pub BitsFollowTheStore : Type 0
BitsFollowTheStore =
    (old new : Seen (List Directive × SimModule)) (history : History) (control : List ℕ) (lanes : Lanes) (answer : Answer)
    → Ran (script_rules conduct) old new (reverse history) → IsProvisioning control lanes (IsFull new) history answer → AcceptsBits lanes history
    → DeinitHolds lanes new.state.1

-- and after each success
abbrev pub BitsFollowSuccess : Type 0
BitsFollowSuccess =
    (old new : Seen (List Directive × SimModule)) (history : History) (control : List ℕ) (lanes : Lanes) (steps : ℕ)
    → Ran (script_rules conduct) old new (reverse history) → IsProvisioning control lanes (IsFull new) history (Ok steps) → DeinitHolds lanes new.state.1

-- so the bit of a lane of a kept path is clear
abbrev pub KeptBitsAreClear : Type 0
KeptBitsAreClear =
    (old new : Seen (List Directive × SimModule)) (history : History) (advert : Advertised) (kept : List Path) (control : List ℕ) (answer : Answer)
    → Ran (script_rules conduct) old new (reverse history) → IsProvisioning control (lanes_outside advert kept) (IsFull new) history answer
    → AcceptsBits (lanes_outside advert kept) history
    → (lane : ℕ) → IsLane lane → is_taken advert kept lane ≡ true → set.contains new.state.1.deinit lane ≡ false
