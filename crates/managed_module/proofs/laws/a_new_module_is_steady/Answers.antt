use Rattle.managed_module.proofs.NewModules.{new_is_steady}
use Rattle.managed_module.proofs.laws.a_new_module_is_steady.Goals as goal

pub returns : goal.returns
returns c = new_is_steady
