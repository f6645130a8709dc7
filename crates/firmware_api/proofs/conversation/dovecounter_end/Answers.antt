use Rattle.firmware_api.proofs.ReadingEnds.{has_read}
use Rattle.firmware_api.proofs.conversation.dovecounter_end.Goals as goal

pub returns-in-End-clause-read : goal.returns-in-End-clause-read
returns-in-End-clause-read c request piece doubts patience events ending =
    has_read c.args.conversation.now c.args.halves.now request piece doubts events ending patience
