use Rattle.std.proofs.Common.{true}
use Rattle.conversations.specs.Events.{steps_of}
use Rattle.conversations.proofs.PausingLaws.{ends_spaced, goes_on_spaced}
use Rattle.control_sets.specs.PowerProgress.{GoesOnAt, IsEndedIn}
use Rattle.control_sets.specs.Progress.{Ends, GoesOn}
use Rattle.control_sets.proofs.laws.procedures_pause.Goals as goal

pub returns-clause-work : goal.returns-clause-work
returns-clause-work c patience work events on = goes_on_spaced patience (GoesOn true work) events on

pub returns-clause-work_ended : goal.returns-clause-work_ended
returns-clause-work_ended c patience work events end ended = ends_spaced patience (GoesOn true work) (Ends true work) events end ended

pub returns-clause-power : goal.returns-clause-power
returns-clause-power c patience power events on = goes_on_spaced patience (λ own. GoesOnAt power (steps_of own)) events on

pub returns-clause-power_ended : goal.returns-clause-power_ended
returns-clause-power_ended c patience power events end ended =
    ends_spaced patience (λ own. GoesOnAt power (steps_of own)) (λ own fault. IsEndedIn power fault (steps_of own)) events end ended
