use Rattle.port_manager.proofs.WakingLaws.{told_again, told_if_vain}
use Rattle.port_manager.proofs.laws.a_module_is_not_given_up_unasked.Goals as goal

pub returns-clause-told : goal.returns-clause-told
returns-clause-told c = told_if_vain

pub returns-clause-again : goal.returns-clause-again
returns-clause-again c = told_again
