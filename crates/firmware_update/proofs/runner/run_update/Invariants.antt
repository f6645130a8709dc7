use Rattle.conversations.specs.Carried.{Happens}
use Rattle.conversations.specs.Events.{Events}
use Rattle.firmware_update.specs.Progress.{left}
use Rattle.firmware_update.proofs.Delivering.{IsDue}
use Rattle.firmware_update.proofs.runner.run_update.Given as goal

abbrev pub decreases-delivered : goal.decreases-delivered
decreases-delivered g l = left l.session.update

-- it was told the events that happened
abbrev pub invariant-delivered : goal.invariant-delivered
invariant-delivered g l = (events : Events) × Happens g.B.TimedBus.makes g.B.TimedBus.passes l.fn.bus l.bus events × IsDue l.fn.file events l.session
