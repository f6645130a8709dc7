use Rattle.std.proofs.Common.{Bool, [], subst, rules}
use Rattle.conversations.specs.declared.pausing.Patience.{Patience}
use Rattle.firmware_api.specs.KeptConversations.{Fetching}
use Rattle.firmware_api.specs.Patiences.{doubts}
use Rattle.firmware_api.specs.SavedConversations.{IsSavedAt}
use Rattle.firmware_api.proofs.BeginLaws.{reading_put}
use Rattle.firmware_api.proofs.conversation.begun.put_reading.Goals as goal

pub returns-clause-begun : goal.returns-clause-begun
returns-clause-begun c halves =
    let saved = c.put_reading.new.saved in
    subst (λ (p : Patience). IsSavedAt (Fetching c.args.request c.args.piece (doubts c.args.patience.now)) p [] saved halves) c.given.ensures
    (subst (λ (d : Bool). IsSavedAt (Fetching c.args.request c.args.piece d) c.given.result [] saved halves) c.doubts.ensures
    (reading_put c.args.request c.args.piece c.doubts.result c.given.result _ saved halves c.requires (search rules) c.put_reading.ensures.same))
