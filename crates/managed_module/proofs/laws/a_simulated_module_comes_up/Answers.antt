use Rattle.managed_module.proofs.ManagedLaw.{managed_comes_up}
use Rattle.managed_module.proofs.laws.a_simulated_module_comes_up.Goals as goal

pub returns : goal.returns
returns c = managed_comes_up
