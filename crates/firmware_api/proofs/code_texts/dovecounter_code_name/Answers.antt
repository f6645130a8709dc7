use Rattle.firmware_api.proofs.ShortNames.{given_of_codes}
use Rattle.firmware_api.proofs.code_texts.dovecounter_code_name.Goals as goal

pub returns-clause-short : goal.returns-clause-short
returns-clause-short c = λ is. c.put.ensures.short is (given_of_codes c.args.table c.args.code c.code_text.result c.code_text.ensures)
