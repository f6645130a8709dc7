use Rattle.std.proofs.Common.{Some, ap, ◌∙◌}
use Rattle.control_sets.specs.Progress.{PatientProcedure}
use Rattle.control_sets.specs.SavedNumbers.{due_numbered, fault_in}
use Rattle.control_sets.proofs.SavedBack.{can, due_back, fault_back, same, saved_back}
use Rattle.control_sets.proofs.procedures.procedure.TaskList.save.Goals as goal

pub returns-clause-same : goal.returns-clause-same
returns-clause-same c events told limit =
    let procedure = c.args.procedure.now in
    let on = procedure.conversation.conversation in
    let list = on.conversation in
    saved_back _ on.doubts list.work on.selection list.fault procedure.conversation.due c.numbers_of_work-work.ensures c.numbers_of_selected-selection.ensures.same (ap fault_in c.of.ensures ∙ fault_back list.fault)
    (ap due_numbered c.number_of_due.ensures ∙ due_back procedure.conversation.due) (can procedure events told limit)
    ∙ ap (λ (p : PatientProcedure). Some p) (same procedure events told limit)
