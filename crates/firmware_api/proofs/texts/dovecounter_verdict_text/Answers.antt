use Rattle.firmware_api.proofs.ShortTexts.{given_of_reasons}
use Rattle.firmware_api.proofs.texts.dovecounter_verdict_text.Goals as goal

pub returns-clause-short : goal.returns-clause-short
returns-clause-short c = λ is. c.put.ensures.short is (given_of_reasons c.args.reason c.reason_text.result c.reason_text.ensures)
