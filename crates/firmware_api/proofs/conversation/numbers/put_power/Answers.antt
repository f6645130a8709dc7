use Rattle.std.proofs.Common.{◌≡◌, Some, sym, subst}
use Rattle.firmware_api.specs.declared.conversation.numbers.SavedConversation.{SavedConversation}
use Rattle.firmware_api.specs.declared.kept.Kept.TheVariants.{OfPower}
use Rattle.firmware_api.specs.SavedConversations.{conversation_in}
use Rattle.firmware_api.proofs.SavedLaws.{power_back}
use Rattle.firmware_api.proofs.conversation.numbers.put_power.Goals as goal

pub returns : goal.returns
returns c events halves told limit =
    let change = c.args.change.now in
    subst (λ (saved : SavedConversation). conversation_in saved halves ≡ Some (OfPower change)) (sym c.procedure_numbers.ensures)
    (power_back change c.save.result halves c.save.ensures.apart (c.save.ensures.same events told limit))
