use Rattle.std.proofs.Common.{◌≡◌, ◌<◌, ℕ, false, is_none, length, inl, inr, refl, subst, Some, Ok, Err, ◌∙◌, ap}
use Rattle.conversations.specs.declared.on_page.OnPage.{OnPage}
use Rattle.conversations.specs.declared.pausing.Timed.{Timed}
use Rattle.conversations.specs.declared.within.Spent.{Spent}
use Rattle.conversations.specs.declared.within.Within.{Within}
use Rattle.conversations.specs.Budgets.{HasSpent}
use Rattle.conversations.specs.Carried.{IsCarriedOut}
use Rattle.conversations.specs.Events.{Events, steps_of}
use Rattle.conversations.specs.Patiently.{Patient}
use Rattle.conversations.specs.Pauses.{EndsPausing, GoesOnPausing}
use Rattle.conversations.specs.Selecting.{WithSelections}
use Rattle.conversations.specs.Watching.{EndsWatching, GoesOnWatching}
use Rattle.paged_memory.specs.declared.page_addressing.PageAddressing.TheVariants.{BankAndPage}
use Rattle.explicit_provisioning.specs.ExplicitProcedures.{ExplicitEnd, ExplicitTasks, RestEnds, RestGoesOn, WatchfulTasks, rest_needs}
use Rattle.explicit_provisioning.specs.Following.{EndsThen, GoesOnThen, needs_then}
use Rattle.explicit_provisioning.specs.Staging.{StagingEnds, StagingGoesOn, is_staged, staging_needs}
use Rattle.explicit_provisioning.proofs.procedures.carry_out_on.Goals as goal

abbrev Own : OnPage ExplicitTasks → (Events → Type 0) → Events → Type 0
Own on P events =
    let change = on.conversation.first.change in
    WithSelections on.doubts false (λ own. Some BankAndPage)
    (λ own. needs_then (is_staged change) (staging_needs change) (rest_needs on.conversation.second.second.change on.conversation.second.first.work) own) P events

abbrev Going : OnPage ExplicitTasks → Events → Type 0
Going on events =
    let change = on.conversation.first.change in
    Own on (λ own. GoesOnThen (is_staged change) is_none (StagingEnds change) (StagingGoesOn change) (RestGoesOn on.conversation.second.second.change on.conversation.second.first.work) own) events

abbrev Ended : OnPage ExplicitTasks → Events → ExplicitEnd → Type 0
Ended on events end =
    let change = on.conversation.first.change in
    Own on (λ own. EndsThen (is_staged change) is_none (StagingEnds change) (RestEnds on.conversation.second.second.change on.conversation.second.first.work) own end) events

abbrev Goes : Patient (OnPage ExplicitTasks) → Events → Type 0
Goes p own = GoesOnPausing p.conversation.patience (Going p.conversation.conversation) own × (length (steps_of own) < p.limit)

abbrev Ending : Patient (OnPage ExplicitTasks) → Events → Spent (Timed ExplicitEnd) → Type 0
Ending p own spent =
    HasSpent p.limit (GoesOnPausing p.conversation.patience (Going p.conversation.conversation)) (EndsPausing p.conversation.patience (Going p.conversation.conversation) (Ended p.conversation.conversation)) own spent

pub returns-in-Ok : goal.returns-in-Ok
returns-in-Ok g c =
    let (last, events, happens, (told, left, ended)) = c.in-Ok.ensures.made in
    let Carries : Within WatchfulTasks → Type 0 = λ w. IsCarriedOut w.limit (GoesOnWatching w.conversation.watches (Goes w.conversation.conversation))
    (EndsWatching w.conversation.watches (Goes w.conversation.conversation) (Ending w.conversation.conversation))
    (last ≡ c.run.new.bus) (λ fault. g.B.TimedBus.fails last fault c.run.new.bus) events (Ok c.in-Ok.spent) in
    (last, events, happens, inl (c.in-Ok.spent, subst Carries (c.new-procedure.ensures ∙ ap (λ (w : WatchfulTasks). record { conversation = w; steps = 0; limit = 8193 }) c.watchful_tasks.ensures) ended, c.answer_watched.ensures))

pub returns-in-Err : goal.returns-in-Err
returns-in-Err g c =
    let (last, events, happens, (told, left, out)) = c.in-Err.ensures.made in
    let Carries : Within WatchfulTasks → Type 0 = λ w. IsCarriedOut w.limit (GoesOnWatching w.conversation.watches (Goes w.conversation.conversation))
    (EndsWatching w.conversation.watches (Goes w.conversation.conversation) (Ending w.conversation.conversation))
    (last ≡ c.run.new.bus) (λ fault. g.B.TimedBus.fails last fault c.run.new.bus) events (Err c.in-Err.fault) in
    (last, events, happens, inr (c.in-Err.fault, subst Carries (c.new-procedure.ensures ∙ ap (λ (w : WatchfulTasks). record { conversation = w; steps = 0; limit = 8193 }) c.watchful_tasks.ensures) out, refl))
