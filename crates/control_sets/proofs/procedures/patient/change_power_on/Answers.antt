use Rattle.std.proofs.Common.{◌≡◌, inl, inr, refl, subst, Ok, Err}
use Rattle.conversations.specs.Carried.{IsCarriedOut}
use Rattle.conversations.specs.Events.{steps_of}
use Rattle.conversations.specs.Pauses.{EndsPausing, GoesOnPausing}
use Rattle.control_sets.specs.PowerProgress.{GoesOnAt, IsEndedIn, PatientPower}
use Rattle.control_sets.proofs.procedures.patient.change_power_on.Goals as goal

pub returns-in-Ok : goal.returns-in-Ok
returns-in-Ok g c =
    let (last, events, happens, (told, left, ended)) = c.in-Ok.ensures.made in
    let Carries : PatientPower → Type 0 = λ p. IsCarriedOut p.limit
    (GoesOnPausing p.conversation.patience (λ own. GoesOnAt p.conversation.conversation.power (steps_of own)))
    (EndsPausing p.conversation.patience (λ own. GoesOnAt p.conversation.conversation.power (steps_of own)) (λ own fault. IsEndedIn p.conversation.conversation.power fault (steps_of own)))
    (last ≡ c.run.new.bus) (λ fault. g.B.TimedBus.fails last fault c.run.new.bus) events (Ok c.in-Ok.spent) in
    (last, events, happens, inl (c.in-Ok.spent, subst Carries c.patient-change.ensures ended, c.answer_in_time.ensures))

pub returns-in-Err : goal.returns-in-Err
returns-in-Err g c =
    let (last, events, happens, (told, left, out)) = c.in-Err.ensures.made in
    let Carries : PatientPower → Type 0 = λ p. IsCarriedOut p.limit
    (GoesOnPausing p.conversation.patience (λ own. GoesOnAt p.conversation.conversation.power (steps_of own)))
    (EndsPausing p.conversation.patience (λ own. GoesOnAt p.conversation.conversation.power (steps_of own)) (λ own fault. IsEndedIn p.conversation.conversation.power fault (steps_of own)))
    (last ≡ c.run.new.bus) (λ fault. g.B.TimedBus.fails last fault c.run.new.bus) events (Err c.in-Err.fault) in
    (last, events, happens, inr (c.in-Err.fault, subst Carries c.patient-change.ensures out, refl))
