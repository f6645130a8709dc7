use Rattle.managed_module.proofs.NewProvisionable.{new_is_provisionable}
use Rattle.managed_module.proofs.laws.a_new_module_is_provisionable.Goals as goal

pub returns : goal.returns
returns c = new_is_provisionable
