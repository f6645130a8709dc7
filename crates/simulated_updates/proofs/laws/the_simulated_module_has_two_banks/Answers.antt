use Rattle.simulated_updates.proofs.Premises.{contents, two_banks}
use Rattle.simulated_updates.proofs.laws.the_simulated_module_has_two_banks.Goals as goal

pub returns-clause-banks : goal.returns-clause-banks
returns-clause-banks c = two_banks

pub returns-clause-contents : goal.returns-clause-contents
returns-clause-contents c = contents
