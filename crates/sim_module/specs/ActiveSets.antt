-- What a module's lanes hold after a success of provisioning, and after activation, waking up and going to sleep. (docs/module.md, "After provisioning";
-- this project's own)
use Rattle.std.specs.Prelude.{◌≡◌, ℕ, List, None, Ok, length, reverse}
use Rattle.bus_model.specs.declared.script.Directive.{Directive}
use Rattle.bus_model.specs.Runs.{IsFull, Ran, Seen}
use Rattle.bus_model.specs.ScriptedBus.{script_rules}
use Rattle.field_tables.specs.LaneSets.{IsLane, Lanes, every_lane}
use Rattle.control_sets.specs.OutcomeAnswers.{Answer}
use Rattle.control_sets.specs.OutcomeOfActivation.{IsActivation}
use Rattle.control_sets.specs.OutcomeOfPower.{IsPowerChange}
use Rattle.control_sets.specs.Pages.{History}
use Rattle.control_sets.specs.OutcomeOfProvisioning.{IsProvisioning}
use Rattle.control_sets.specs.declared.procedures.power.Power.{Power}
use Rattle.sim_module.specs.declared.module.SimModule.{SimModule}
use Rattle.sim_module.specs.Lanes.{active_bytes, lane_at}
use Rattle.sim_module.specs.Modules.{conduct}
use Rattle.sim_module.specs.Soundness.{IsSound}

-- no apply is in progress
abbrev pub HasNoApply : SimModule → Type 0
HasNoApply sim = (lane : ℕ) → IsLane lane → (lane_at sim lane).applying ≡ None

-- there are eight lanes, these control bytes are active, and no apply is in progress that would change them
pub record IsAtRest (control : List ℕ) (sim : SimModule) : Type 0 where
  pub eight : length sim.lanes ≡ 8
  pub none : HasNoApply sim
  pub active : active_bytes sim ≡ control

-- whatever a script refuses or cuts: if the steps on its bus, over a module that begins so, are a success of provisioning
-- control bytes on these lanes, the bytes are active afterwards, and stay so
abbrev pub ActiveIsPlannedOn : Lanes → (SimModule → Type 0) → Type 0
ActiveIsPlannedOn lanes Begins =
    (old new : Seen (List Directive × SimModule)) (history : History) (control : List ℕ) (steps : ℕ) → Begins old.state.1
    → Ran (script_rules conduct) old new (reverse history) → IsProvisioning control lanes (IsFull new) history (Ok steps)
    → IsAtRest control new.state.1

-- on all lanes, over a sound module
abbrev pub ActiveIsPlanned : Type 0
ActiveIsPlanned = ActiveIsPlannedOn every_lane IsSound

-- whatever a script refuses or cuts: if no apply is in progress, the steps of activation leave active what was, whatever
-- they activate and answer
abbrev pub ActivationLeavesActive : Type 0
ActivationLeavesActive =
    (old new : Seen (List Directive × SimModule)) (history : History) (control active : List ℕ) (lanes : Lanes) (answer : Answer) → IsAtRest active old.state.1
    → Ran (script_rules conduct) old new (reverse history) → IsActivation control lanes (IsFull new) history answer
    → IsAtRest active new.state.1

-- whatever a script refuses or cuts: if no apply is in progress, the steps of waking up or of going to sleep leave active what
-- was, whatever they answer
abbrev pub PowerLeavesActive : Type 0
PowerLeavesActive =
    (old new : Seen (List Directive × SimModule)) (history : History) (power : Power) (active : List ℕ) (answer : Answer) → IsAtRest active old.state.1
    → Ran (script_rules conduct) old new (reverse history) → IsPowerChange power (IsFull new) history answer
    → IsAtRest active new.state.1
