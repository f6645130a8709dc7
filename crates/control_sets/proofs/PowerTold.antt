-- A change of power that is told its replies one by one.
use Rattle.std.proofs.Common.{◌≡◌, ℕ, ◌≤◌, [], ◌∷◌, length, None, arith, refl, ap, sym, subst, ◌∙◌}
use Rattle.bus_model.specs.declared.operation.Op.{Op}
use Rattle.bus_model.specs.declared.operation.Reply.{Reply}
use Rattle.bus_model.specs.declared.operation.Step.{Step}
use Rattle.conversations.specs.declared.event.Event.TheVariants.{Made}
use Rattle.conversations.specs.declared.within.Within.{Within}
use Rattle.conversations.specs.Events.{Events, made, steps_of}
use Rattle.control_sets.specs.declared.procedures.power.Power.{Power}
use Rattle.control_sets.specs.declared.procedures.power.PowerChange.{PowerChange}
use Rattle.control_sets.specs.declared.procedures.power.PowerStage.TheVariants.{Unread}
use Rattle.control_sets.specs.OutcomeAnswers.{most_steps}
use Rattle.control_sets.specs.Pages.{History}
use Rattle.control_sets.specs.PowerProgress.{HasComeTo, IsPowerAt}

-- the steps as events, without pauses
abbrev events_of : History → Events
events_of [] = []
events_of (step ∷ before) = Made step ∷ events_of before

steps_back : (history : History) → steps_of (events_of history) ≡ history
steps_back [] = refl
steps_back (step ∷ before) = ap (λ (before : History). step ∷ before) (steps_back before)

abbrev WasTold : History → Within PowerChange → Type 0
WasTold history change =
    HasComeTo change.conversation.power change.conversation.stage change.conversation.fault history × (length history ≡ change.steps) × (change.steps ≤ change.limit)

pub power_begun : (power : Power) → IsPowerAt [] (record { conversation = record { power = power; stage = Unread; fault = None }; steps = 0; limit = most_steps })
power_begun power = record { limit = refl; counted = refl; few = omega arith; come = tt }

-- one step more
pub power_told : (history : History) (old new : Within PowerChange) (op : Op) (reply : Reply) →
    ◌≡◌ {A = ℕ × Power} (new.limit, new.conversation.power) (old.limit, old.conversation.power) →
    ((events : Events) → WasTold (steps_of events) old → WasTold (steps_of (made op reply ∷ events)) new) →
    IsPowerAt history old → IsPowerAt (record { op = op; reply = reply } ∷ history) new
power_told history old new op reply topic takes at =
    let step : Step = record { op = op; reply = reply } in
    let limit = ap (λ (t : ℕ × Power). t.0) topic ∙ at.limit in
    let few = subst (λ (n : ℕ). old.steps ≤ n) (sym at.limit) at.few in
    let before = subst (λ (h : History). WasTold h old) (sym (steps_back history)) (at.come, at.counted, few) in
    let after = subst (λ (h : History). WasTold (step ∷ h) new) (steps_back history) (takes (events_of history) before) in
    record { limit = limit; counted = after.1; few = subst (λ (n : ℕ). new.steps ≤ n) limit after.2; come = after.0 }
