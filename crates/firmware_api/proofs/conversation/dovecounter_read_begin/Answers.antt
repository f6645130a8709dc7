use Rattle.std.proofs.Common.{[], subst}
use Rattle.module_reading.specs.declared.request.Request.{Request}
use Rattle.firmware_api.specs.KeptConversations.{Fetching}
use Rattle.firmware_api.specs.Patiences.{doubts, given}
use Rattle.firmware_api.specs.SavedConversations.{IsSavedAt, piece_for}
use Rattle.firmware_api.proofs.conversation.dovecounter_read_begin.Goals as goal

pub returns-clause-begun : goal.returns-clause-begun
returns-clause-begun c done halves =
    subst (λ (r : Request). IsSavedAt (Fetching (record { halves = r.halves }) (piece_for c.args.most) (doubts c.args.patience.now)) (given c.args.patience.now) [] c.dovecounter_read_some_begin.new.conversation halves)
    c.everything-requested.ensures (c.dovecounter_read_some_begin.ensures.begun done halves)
