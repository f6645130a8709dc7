use Rattle.std.proofs.Common.{[], Some, ap, ◌∙◌}
use Rattle.saved_update.specs.declared.work.Work.{Work}
use Rattle.firmware_api.proofs.update.put_question.Goals as goal

pub returns : goal.returns
returns c = c.save.ensures [] c.question-work.ensures.of ∙ ap (λ (w : Work). Some w) c.question-work.ensures.value
