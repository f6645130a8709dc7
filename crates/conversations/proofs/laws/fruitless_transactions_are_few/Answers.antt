use Rattle.conversations.proofs.PausingLaws.{few_fruitless}
use Rattle.conversations.proofs.laws.fruitless_transactions_are_few.Goals as goal

pub returns : goal.returns
returns c patience own events wanted due idle adds are ends = few_fruitless patience ends own events wanted due idle are adds
