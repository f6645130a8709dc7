use Rattle.std.proofs.Common.{ap, subst, sym, ◌∙◌}
use Rattle.command_block.specs.declared.message.Message.{Message}
use Rattle.command_block.specs.Deliveries.{begun_delivery}
use Rattle.saved_update.specs.declared.work.Work.{Work}
use Rattle.saved_update.specs.Works.{IsOf}
use Rattle.saved_update.proofs.Back.{begun_back, begun_of}
use Rattle.saved_update.proofs.work.Work.update.Goals as goal

pub returns-clause-value : goal.returns-clause-value
returns-clause-value c file same =
    begun_back file c.args.size c.args.held c.of-update.result c.new-durations.result c.of-first.result same c.of-update.ensures.value c.new-durations.ensures
    (c.of-first.ensures ∙ ap (λ (m : Message). begun_delivery m 0 0) c.message.ensures)

pub returns-clause-of : goal.returns-clause-of
returns-clause-of c file same = subst (λ (w : Work). IsOf file w) (sym (returns-clause-value c file same)) (begun_of file c.args.held)
