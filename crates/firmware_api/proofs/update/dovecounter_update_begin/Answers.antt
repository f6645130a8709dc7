use Rattle.std.proofs.Common.{Some, ap, ◌∙◌}
use Rattle.saved_update.specs.declared.work.Work.{Work}
use Rattle.firmware_api.proofs.update.dovecounter_update_begin.Goals as goal

pub returns : goal.returns
returns c file same = c.save.ensures file (c.update-work.ensures.of file same) ∙ ap (λ (w : Work). Some w) (c.update-work.ensures.value file same)
