use Rattle.std.proofs.Common.{[], subst}
use Rattle.conversations.specs.declared.pausing.Patience.{Patience}
use Rattle.firmware_api.specs.KeptConversations.{Turning}
use Rattle.firmware_api.specs.SavedConversations.{IsSavedAt}
use Rattle.firmware_api.proofs.BeginLaws.{power_put}
use Rattle.firmware_api.proofs.conversation.begun.put_power.Goals as goal

pub returns : goal.returns
returns c halves =
    let saved = c.put_power.new.saved in
    subst (λ (p : Patience). IsSavedAt (Turning c.args.power) p [] saved halves) c.given.ensures
    (power_put c.args.power c.given.result c.patient-change.result saved halves c.patient-change.ensures c.put_power.ensures)
