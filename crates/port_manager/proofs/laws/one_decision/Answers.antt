use Rattle.port_manager.proofs.OneDecision as decisions
use Rattle.port_manager.proofs.laws.one_decision.Goals as goal

pub returns : goal.returns
returns c wanted image one other is too = decisions.one_decision wanted image one other is too
