use Rattle.std.proofs.Common.{ℕ, [], subst}
use Rattle.firmware_api.specs.KeptConversations.{Fetching}
use Rattle.firmware_api.specs.Patiences.{doubts, given}
use Rattle.firmware_api.specs.SavedConversations.{IsSavedAt}
use Rattle.firmware_api.proofs.conversation.dovecounter_read_some_begin.Goals as goal

pub returns-clause-begun : goal.returns-clause-begun
returns-clause-begun c done halves =
    subst (λ (piece : ℕ). IsSavedAt (Fetching (record { halves = c.args.requested }) piece (doubts c.args.patience.now)) (given c.args.patience.now) [] c.put_reading.new.conversation halves) c.piece_for.ensures.piece
    (c.put_reading.ensures.begun halves)
