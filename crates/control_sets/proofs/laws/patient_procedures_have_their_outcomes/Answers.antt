use Rattle.std.proofs.Common.{Some, true, false}
use Rattle.control_sets.proofs.Turns.{ended_in_time, given_up, stopped}
use Rattle.control_sets.proofs.laws.patient_procedures_have_their_outcomes.Goals as goal

pub returns-clause-ended : goal.returns-clause-ended
returns-clause-ended c patience work events fault few ended = ended_in_time patience work events fault few ended

pub returns-clause-gave_up : goal.returns-clause-gave_up
returns-clause-gave_up c patience work events all on = given_up patience work events all on

pub returns-clause-overdue : goal.returns-clause-overdue
returns-clause-overdue c patience work events (op, idle, late, (own, adds, on)) = stopped patience work own events (Some op) true idle adds on

pub returns-clause-stopped : goal.returns-clause-stopped
returns-clause-stopped c patience work events (op, idle, (own, adds, on)) = stopped patience work own events (Some op) false idle adds on
