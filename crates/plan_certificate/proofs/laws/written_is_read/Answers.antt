use Rattle.std.proofs.Common.{Ok}
use Rattle.plan_certificate.proofs.OneAnswer.{same_answer}
use Rattle.plan_certificate.proofs.WrittenCertificates.{written_lines}
use Rattle.plan_certificate.proofs.laws.written_is_read.Goals as goal

pub returns : goal.returns
returns c = record {
  read = written_lines;
  alone = λ states certificate answer readable is. same_answer states _ answer (Ok certificate) is (written_lines states certificate readable);
}
