use Rattle.paged_memory.proofs.OneAnswer.{same_answer}
use Rattle.paged_memory.proofs.laws.one_answer.Goals as goal

pub returns : goal.returns
returns c = same_answer
