use Rattle.std.proofs.Common.{ap, ◌∙◌}
use Rattle.saved_port.specs.declared.numbers.SavedWork.{SavedWork}
use Rattle.saved_port.specs.SavedPorts.{procedure_in}
use Rattle.saved_port.proofs.Back.{procedure_back}
use Rattle.saved_port.proofs.work.work_of_procedure.Goals as goal

pub returns : goal.returns
returns c known =
    ap (λ (w : SavedWork). procedure_in w) c.with_procedure.ensures
    ∙ procedure_back c.args.procedure.now c.save.result (c.save.ensures.same known.events known.told known.limit)
