use Rattle.command_block.proofs.FewRounds.{few_rounds}
use Rattle.command_block.proofs.laws.refusals_cost_few_operations.Goals as goal

pub returns : goal.returns
returns c message timing own short each goes_on unsent = few_rounds message timing short own each goes_on unsent
