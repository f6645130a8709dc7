use Rattle.std.proofs.Common.{◌≡◌, Some, sym, subst}
use Rattle.firmware_api.specs.declared.conversation.numbers.SavedConversation.{SavedConversation}
use Rattle.firmware_api.specs.declared.kept.Kept.TheVariants.{OfTasks}
use Rattle.firmware_api.specs.SavedConversations.{conversation_in}
use Rattle.firmware_api.proofs.SavedLaws.{tasks_back}
use Rattle.firmware_api.proofs.conversation.numbers.put_tasks.Goals as goal

pub returns : goal.returns
returns c events halves told limit =
    let procedure = c.args.procedure.now in
    subst (λ (saved : SavedConversation). conversation_in saved halves ≡ Some (OfTasks procedure)) (sym c.procedure_numbers.ensures)
    (let (own, adds, told_own) = told in
    tasks_back procedure c.save-numbers.result halves (c.save-numbers.ensures.same own told_own limit))
