use Rattle.sim_module.proofs.RestingModule.{rest_start}
use Rattle.sim_module.proofs.SoundModule.{sound_start}
use Rattle.sim_module.proofs.laws.a_new_module_is_sound.Goals as goal

pub returns-clause-sound : goal.returns-clause-sound
returns-clause-sound c = sound_start

pub returns-clause-at_rest : goal.returns-clause-at_rest
returns-clause-at_rest c = rest_start
