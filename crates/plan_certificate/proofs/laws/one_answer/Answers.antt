use Rattle.plan_certificate.proofs.OneAnswer.{same_answer}
use Rattle.plan_certificate.proofs.laws.one_answer.Goals as goal

pub returns : goal.returns
returns c = same_answer
