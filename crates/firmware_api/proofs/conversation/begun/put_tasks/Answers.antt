use Rattle.std.proofs.Common.{Bool, [], refl, subst}
use Rattle.conversations.specs.declared.pausing.Patience.{Patience}
use Rattle.firmware_api.specs.KeptConversations.{Bringing}
use Rattle.firmware_api.specs.Patiences.{doubts}
use Rattle.firmware_api.specs.SavedConversations.{IsSavedAt}
use Rattle.firmware_api.proofs.BeginLaws.{tasks_put}
use Rattle.firmware_api.proofs.conversation.begun.put_tasks.Goals as goal

pub returns : goal.returns
returns c halves =
    let saved = c.put_tasks.new.saved in
    subst (λ (p : Patience). IsSavedAt (Bringing c.args.work (doubts c.args.patience.now) (doubts c.args.patience.now)) p [] saved halves) c.given.ensures
    (subst (λ (d : Bool). IsSavedAt (Bringing c.args.work d d) c.given.result [] saved halves) c.doubts-careful.ensures
    (tasks_put c.args.work c.doubts-careful.result c.given.result _ c.watchful-procedure.result saved halves c.watchful-procedure.ensures refl c.put_tasks.ensures))
