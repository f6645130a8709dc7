use Rattle.sim_module.proofs.SoundModule.{sound_always}
use Rattle.sim_module.proofs.laws.a_module_stays_sound.Goals as goal

pub returns : goal.returns
returns c = sound_always
