use Rattle.firmware_api.proofs.ShortTexts.{given_of_statuses}
use Rattle.firmware_api.proofs.texts.dovecounter_status_text.Goals as goal

pub returns-clause-short : goal.returns-clause-short
returns-clause-short c = λ is. c.put.ensures.short is (given_of_statuses c.args.status c.status_text.result c.status_text.ensures)
