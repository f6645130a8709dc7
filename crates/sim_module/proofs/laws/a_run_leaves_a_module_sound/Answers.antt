use Rattle.sim_module.proofs.SoundRuns.{runs_leave_sound}
use Rattle.sim_module.proofs.laws.a_run_leaves_a_module_sound.Goals as goal

pub returns : goal.returns
returns c = runs_leave_sound
