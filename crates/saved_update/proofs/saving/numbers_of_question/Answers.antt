use Rattle.std.proofs.Common.{ap, refl, arith}
use Rattle.saved_update.specs.declared.numbers.SavedStage.{SavedStage}
use Rattle.saved_update.proofs.Back.{question_saved}
use Rattle.saved_update.proofs.saving.numbers_of_question.Goals as goal

pub returns : goal.returns
returns c file of =
    question_saved _ c.args.question c.args.delivery.now file refl refl (omega (arith, ap (λ (s : SavedStage). s.header) c.stage_numbers-stage.ensures)) c.numbers_of_command-command.ensures.some c.numbers_of_command-command.ensures.same c.numbers_of-delivery.ensures of
