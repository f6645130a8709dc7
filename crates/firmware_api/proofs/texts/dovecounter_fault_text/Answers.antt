use Rattle.firmware_api.proofs.ShortTexts.{given_of_procedure_faults}
use Rattle.firmware_api.proofs.texts.dovecounter_fault_text.Goals as goal

pub returns-clause-short : goal.returns-clause-short
returns-clause-short c = λ is. c.put.ensures.short is (given_of_procedure_faults c.args.code c.procedure_fault_text.result c.procedure_fault_text.ensures)
