use Rattle.saved_provisioning.proofs.SavedBack.{tasks_back}
use Rattle.saved_provisioning.proofs.saving.save_procedure.Goals as goal

pub returns : goal.returns
returns c =
    tasks_back c.args.tasks c.args.it.now c.requires.usual c.requires.tasks c.numbers_of_selected-selection.result.0 c.numbers_of_selected-selection.result.1 c.number_of-due.result
    c.numbers_of_selected-selection.ensures.same c.number_of-due.ensures
