-- A module is sound after the steps of a run, whatever its script does.
use Rattle.std.proofs.Common.{List, [], ◌∷◌, sym, subst}
use Rattle.std.specs.List.{AllByRecursion}
use Rattle.bus_model.specs.declared.operation.Step.{Step}
use Rattle.bus_model.specs.declared.script.Directive.{Directive}
use Rattle.bus_model.specs.Keeping.{IsKeptBy}
use Rattle.bus_model.proofs.Histories.{AnyPin}
use Rattle.bus_model.proofs.ScriptRuns.{all_allow, steps_keep}
use Rattle.sim_module.specs.declared.module.SimModule.{SimModule}
use Rattle.sim_module.specs.Modules.{conduct}
use Rattle.sim_module.specs.Soundness.{IsSound, RunsLeaveSound}
use Rattle.sim_module.proofs.SoundModule.{sound_always}

-- each step keeps it
pub sound_by_each : (steps : List Step) → AllByRecursion (λ step. IsKeptBy conduct IsSound step.op) steps
sound_by_each [] = tt
sound_by_each (step ∷ steps) = (sound_always.operations step.op, sound_by_each steps)

pub runs_leave_sound : RunsLeaveSound
runs_leave_sound old new made sound ran =
    subst (λ (state : List Directive × SimModule). IsSound state.1) (sym ran.state)
    (steps_keep conduct AnyPin IsSound sound_always.time made (sound_by_each made) old.state (all_allow old.state.0) sound)
