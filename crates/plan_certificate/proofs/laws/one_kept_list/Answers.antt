use Rattle.plan_certificate.proofs.OneKeptList.{same_kept_answer}
use Rattle.plan_certificate.proofs.laws.one_kept_list.Goals as goal

pub returns : goal.returns
returns c = same_kept_answer
