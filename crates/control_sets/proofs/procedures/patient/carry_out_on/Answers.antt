use Rattle.std.proofs.Common.{◌≡◌, ◌<◌, length, inl, inr, refl, subst, Ok, Err, Option, ◌∙◌, ap}
use Rattle.conversations.specs.declared.pausing.Timed.{Timed}
use Rattle.conversations.specs.declared.within.Spent.{Spent}
use Rattle.conversations.specs.declared.within.Within.{Within}
use Rattle.conversations.specs.Budgets.{HasSpent}
use Rattle.conversations.specs.Carried.{IsCarriedOut}
use Rattle.conversations.specs.Events.{Events, steps_of}
use Rattle.conversations.specs.Pauses.{EndsPausing, GoesOnPausing}
use Rattle.conversations.specs.Watching.{EndsWatching, GoesOnWatching}
use Rattle.control_sets.specs.declared.fault.ProvisionFault.{ProvisionFault}
use Rattle.control_sets.specs.PatientProcedures.{WatchfulProcedure}
use Rattle.control_sets.specs.Progress.{Ends, GoesOn, PatientProcedure}
use Rattle.control_sets.proofs.procedures.patient.carry_out_on.Goals as goal

abbrev Goes : PatientProcedure → Events → Type 0
Goes p own = GoesOnPausing p.conversation.patience (GoesOn p.conversation.conversation.doubts p.conversation.conversation.conversation.work) own × (length (steps_of own) < p.limit)

abbrev Ending : PatientProcedure → Events → Spent (Timed (Option ProvisionFault)) → Type 0
Ending p own spent = HasSpent p.limit (GoesOnPausing p.conversation.patience (GoesOn p.conversation.conversation.doubts p.conversation.conversation.conversation.work))
    (EndsPausing p.conversation.patience (GoesOn p.conversation.conversation.doubts p.conversation.conversation.conversation.work) (Ends p.conversation.conversation.doubts p.conversation.conversation.conversation.work)) own spent

pub returns-in-Ok : goal.returns-in-Ok
returns-in-Ok g c =
    let (last, events, happens, (told, left, ended)) = c.in-Ok.ensures.made in
    let Carries : Within WatchfulProcedure → Type 0 = λ w. IsCarriedOut w.limit (GoesOnWatching w.conversation.watches (Goes w.conversation.conversation))
    (EndsWatching w.conversation.watches (Goes w.conversation.conversation) (Ending w.conversation.conversation))
    (last ≡ c.run.new.bus) (λ fault. g.B.TimedBus.fails last fault c.run.new.bus) events (Ok c.in-Ok.spent) in
    (last, events, happens, inl (c.in-Ok.spent, subst Carries (c.new-procedure.ensures ∙ ap (λ (w : WatchfulProcedure). record { conversation = w; steps = 0; limit = 8193 }) c.watchful.ensures) ended, c.answer_watched.ensures))

pub returns-in-Err : goal.returns-in-Err
returns-in-Err g c =
    let (last, events, happens, (told, left, out)) = c.in-Err.ensures.made in
    let Carries : Within WatchfulProcedure → Type 0 = λ w. IsCarriedOut w.limit (GoesOnWatching w.conversation.watches (Goes w.conversation.conversation))
    (EndsWatching w.conversation.watches (Goes w.conversation.conversation) (Ending w.conversation.conversation))
    (last ≡ c.run.new.bus) (λ fault. g.B.TimedBus.fails last fault c.run.new.bus) events (Err c.in-Err.fault) in
    (last, events, happens, inr (c.in-Err.fault, subst Carries (c.new-procedure.ensures ∙ ap (λ (w : WatchfulProcedure). record { conversation = w; steps = 0; limit = 8193 }) c.watchful.ensures) out, refl))
