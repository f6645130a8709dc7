-- What the simulated module becomes by the own events of an attempt: selections, pauses, losses of power and resets come in between.
use Rattle.std.proofs.Common.{◌≡◌, ℕ, ◌/◌, ◌%◌, Bool, true, false, [], ◌∷◌, Option, Some, None, sym, subst, inl, inr}
use Rattle.bus_model.specs.declared.device.Dev.TheVariants.{A0}
use Rattle.bus_model.specs.declared.operation.Op.{Op}
use Rattle.bus_model.specs.declared.operation.Step.{Step}
use Rattle.conversations.specs.declared.event.Event.TheVariants.{Made, Waited, Lacked, Asked}
use Rattle.conversations.specs.declared.pausing.Patience.{Patience}
use Rattle.conversations.specs.Events.{Events, steps_of}
use Rattle.conversations.specs.Pauses.{AddsPauses}
use Rattle.conversations.specs.Selecting.{AddsSelections, IsSelecting, trusted}
use Rattle.paged_memory.specs.declared.page_addressing.PageAddressing.TheVariants.{BankAndPage}
use Rattle.paged_memory.specs.PageAddressing.{History, read_selection}
use Rattle.simulated_updates.specs.Modules.{Module}
use Rattle.simulated_updates.specs.OnTheBus.{Becomes, MayStep}
use Rattle.simulated_updates.proofs.Drifts.{Drifts, drifts_on, fetch_drifts, passed_drifts, select_drifts_on, stays}

abbrev pub Course : Module → Events → Module → Type 0
Course old [] new = Drifts old new
Course old (Made step ∷ before) new = (mid : Module) × (next : Module) × Course old before mid × MayStep mid step next × Drifts next new
Course old (Waited time ∷ before) new = Course old before new
Course old (Lacked page ∷ before) new = Course old before new
Course old (Asked number ∷ before) new = Course old before new

pub course_on : (events : Events) (old one two : Module) → Course old events one → Drifts one two → Course old events two
course_on [] old one two course drift = drifts_on old one two course drift
course_on (Made step ∷ before) old one two (mid, next, course, made, then) drift = (mid, next, course, made, drifts_on next one two then drift)
course_on (Waited time ∷ before) old one two course drift = course_on before old one two course drift
course_on (Lacked page ∷ before) old one two course drift = course_on before old one two course drift
course_on (Asked number ∷ before) old one two course drift = course_on before old one two course drift

pub happens : (events : Events) (old new : Module) → Becomes old events new → Course old events new
happens [] old new same = subst (λ (m : Module). Drifts old m) same (stays old)
happens (Made step ∷ before) old new (mid, earlier, made) = (mid, new, happens before old mid earlier, made, stays new)
happens (Waited time ∷ before) old new (mid, earlier, is) =
    course_on before old mid new (happens before old mid earlier) (subst (λ (m : Module). Drifts mid m) (sym is) (passed_drifts time mid))
happens (Lacked page ∷ before) old new never = absurd never
happens (Asked number ∷ before) old new never = absurd never

-- without the pauses
pub unpaused : (patience : Patience) (events paged : Events) (next : Option Op) (due : Bool) (idle : ℕ) (old new : Module)
    → AddsPauses patience paged events next due idle → Course old events new → Course old paged new
unpaused patience [] paged next due idle old new (is, none, zero_idle) course = subst (λ (e : Events). Course old e new) (sym is) course
unpaused patience (Made step ∷ before) paged next due idle old new (earlier, was, is, adds, due_is, idle_is) (mid, next_module, course, made, then) =
    subst (λ (e : Events). Course old e new) (sym is) (mid, next_module, unpaused patience before earlier (Some step.op) false was old mid adds course, made, then)
unpaused patience (Waited time ∷ before) paged next due idle old new (inl (op, was, wanted, adds, few, time_is, due_is, idle_is)) course = unpaused patience before paged next true was old new adds course
unpaused patience (Waited time ∷ before) paged next due idle old new (inr (earlier, asked, was, is, adds, time_is, due_is)) course =
    subst (λ (e : Events). Course old e new) (sym is) (unpaused patience before earlier None was idle old new adds course)
unpaused patience (Lacked page ∷ before) paged next due idle old new never course = absurd never
unpaused patience (Asked number ∷ before) paged next due idle old new (earlier, wanted, is, adds) course =
    subst (λ (e : Events). Course old e new) (sym is) (unpaused patience before earlier wanted due idle old new adds course)

-- a step that selects the page, or reads which one is selected
read_back : (step : Step) (old new : Module) → step.op ≡ read_selection BankAndPage → MayStep old step new → Drifts old new
read_back step old new is (chance, e) = fetch_drifts chance A0 126 2 step.op old step.reply new is e

selecting : (needed : Option ℕ) (history : History) (step : Step) (old new : Module) → IsSelecting BankAndPage needed step.op history → MayStep old step new → Drifts old new
selecting needed history step old new (inl (open_now, is)) made = read_back step old new is made
selecting needed history step old new (inr (closed, (page, needs, missing, is))) (chance, e) =
    select_drifts_on chance (record { items = page / 256 ∷ page % 256 ∷ [] }) step.op old step.reply new is e

-- without the selections
pub unpaged : (doubts may : Bool) (needs : Events → Option ℕ) (paged own : Events) (old new : Module)
    → AddsSelections doubts may BankAndPage needs own paged → Course old paged new → Course old own new
unpaged doubts may needs [] own old new is course = subst (λ (e : Events). Course old e new) (sym is) course
unpaged doubts may needs (Made step ∷ before) own old new (inl (selects, lacks, fits, adds)) (mid, next, course, made, then) =
    course_on own old mid new (unpaged doubts may needs before own old mid adds course)
    (drifts_on mid next new (selecting (needs own) (trusted doubts (steps_of before)) step mid next selects made) then)
unpaged doubts may needs (Made step ∷ before) own old new (inr (inl (earlier, is, closed, on, adds))) (mid, next, course, made, then) =
    subst (λ (e : Events). Course old e new) (sym is) (mid, next, unpaged doubts may needs before earlier old mid adds course, made, then)
unpaged doubts may needs (Made step ∷ before) own old new (inr (inr (page, earlier, is, can, needed, shows, fits, adds))) (mid, next, course, made, then) =
    subst (λ (e : Events). Course old e new) (sym is)
    (course_on earlier old mid new (unpaged doubts may needs before earlier old mid adds course) (drifts_on mid next new (read_back step mid next shows.reads made) then))
unpaged doubts may needs (Waited time ∷ before) own old new (earlier, is, adds) course =
    subst (λ (e : Events). Course old e new) (sym is) (unpaged doubts may needs before earlier old new adds course)
unpaged doubts may needs (Lacked page ∷ before) own old new never course = absurd never
unpaged doubts may needs (Asked number ∷ before) own old new (earlier, is, adds) course =
    subst (λ (e : Events). Course old e new) (sym is) (unpaged doubts may needs before earlier old new adds course)
