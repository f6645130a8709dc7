use Rattle.std.proofs.Common.{◌≡◌, ◌≤◌, None, Some, true, false, length, refl, subst, sym}
use Rattle.conversations.specs.Events.{steps_of}
use Rattle.control_sets.specs.OutcomeAnswers.{most_steps}
use Rattle.control_sets.specs.OutcomeOfPower.{IsPowerChange}
use Rattle.control_sets.specs.Pages.{History}
use Rattle.control_sets.specs.PowerProgress.{GoesOnAt, answer_at}
use Rattle.control_sets.proofs.PowerLaws.{ended_is, gives_up}
use Rattle.control_sets.proofs.Turns.{steps_paused}
use Rattle.control_sets.proofs.laws.patient_changes_of_power_have_their_outcomes.Goals as goal

pub returns-clause-ended : goal.returns-clause-ended
returns-clause-ended c patience power made room events fault few (due, idle, (own, adds, ended)) =
    let same = steps_paused patience own events None due idle adds in
    let fits : length (steps_of own) ≤ most_steps = subst (λ (history : History). length history ≤ most_steps) (sym same) few in
    subst (λ (history : History). IsPowerChange power (made ≡ room) history (answer_at (length history) (Some fault))) same
    (ended_is power (made ≡ room) (length (steps_of own)) own (Some fault) refl fits ended)

pub returns-clause-gave_up : goal.returns-clause-gave_up
returns-clause-gave_up c patience power made room events all (op, idle, (own, adds, on)) =
    gives_up power (made ≡ room) (steps_of events) (subst (λ (history : History). GoesOnAt power history) (steps_paused patience own events (Some op) false idle adds) on) all

pub returns-clause-overdue : goal.returns-clause-overdue
returns-clause-overdue c patience power events (op, idle, late, (own, adds, on)) = subst (λ (history : History). GoesOnAt power history) (steps_paused patience own events (Some op) true idle adds) on

pub returns-clause-stopped : goal.returns-clause-stopped
returns-clause-stopped c patience power events (op, idle, (own, adds, on)) = subst (λ (history : History). GoesOnAt power history) (steps_paused patience own events (Some op) false idle adds) on
