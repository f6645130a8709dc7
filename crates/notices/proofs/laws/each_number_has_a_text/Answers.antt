use Rattle.std.proofs.Common.{refl}
use Rattle.notices.specs.Numbers.{procedure_faults, reasons, statuses}
use Rattle.notices.specs.Sentences.{sentences}
use Rattle.notices.proofs.laws.each_number_has_a_text.Goals as goal

pub returns-clause-statuses : goal.returns-clause-statuses
unfolding statuses sentences
returns-clause-statuses c = refl

pub returns-clause-procedure_faults : goal.returns-clause-procedure_faults
unfolding procedure_faults sentences
returns-clause-procedure_faults c = refl

pub returns-clause-reasons : goal.returns-clause-reasons
unfolding reasons sentences
returns-clause-reasons c = refl
