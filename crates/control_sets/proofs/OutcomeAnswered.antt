-- What is known at all steps of a procedure that was carried out, and what its answer is.
use Rattle.std.proofs.Common.{Bool, false, ◌≡◌, ◌≢◌, ◌<◌, ℕ, List, [], ◌∷◌, Some, None, Ok, Err, IfOk, length, refl, sym, subst, inl, inr, arith}
use Rattle.bus_model.specs.declared.bus.BusFault.TheVariants.{TraceFull}
use Rattle.bus_model.specs.declared.operation.Step.{Step}
use Rattle.bus_model.specs.Runs.{IsFull, Seen}
use Rattle.control_sets.specs.declared.fault.ProvisionFault.{ProvisionFault}
use Rattle.control_sets.specs.declared.fault.ProvisionFault.TheVariants.{GaveUp, Bus}
use Rattle.control_sets.specs.declared.procedures.task.Task.{Task}
use Rattle.control_sets.specs.Pages.{EachStep, History}
use Rattle.control_sets.specs.Procedures.{EachAnswers, EachGoesOn, EachIsNextBy, EndsFirst, EndsTasks, GoesOn, HasEndedBy, IsOutcome, fault_by, in_hand}
use Rattle.control_sets.specs.OutcomeAnswers.{Answer, EndsIn, IsAnswer, NoneEnds}
use Rattle.control_sets.proofs.OutcomeTurns.{each_turn}
use Rattle.control_sets.proofs.OutcomeSelections.{Here, each_here}

-- no step before the last ends the procedure
abbrev GoesOnBefore : List Task → History → Type 0
GoesOnBefore tasks [] = Unit {0}
GoesOnBefore tasks (step ∷ before) = EachGoesOn tasks before

pub all_here : (doubts : Bool) (tasks : List Task) (history : History) → EachIsNextBy doubts tasks history → EachAnswers history → GoesOnBefore tasks history → EachStep (Here doubts tasks) history
all_here doubts tasks [] each answers on = tt
all_here doubts tasks (step ∷ before) each answers on = each_here tasks step before (each_turn doubts tasks (step ∷ before) each) answers on

ends_before : (tasks : List Task) (history : History) (answer : Answer) → EndsFirst tasks history answer → GoesOnBefore tasks history
ends_before tasks [] answer ends = tt
ends_before tasks (step ∷ before) answer ends = ends.1

pub goes_before : (tasks : List Task) (history : History) → EachGoesOn tasks history → GoesOnBefore tasks history
goes_before tasks [] on = tt
goes_before tasks (step ∷ before) on = on.1

still_unmet : (tasks : List Task) (history : History) → EachGoesOn tasks history → in_hand tasks history ≢ None
still_unmet tasks [] on = on.unmet
still_unmet tasks (step ∷ before) on = on.0.unmet

-- what is shown of single steps, whatever the procedure
pub record Ending (doubts : Bool) (tasks : List Task) (Ends : Answer → Step → Type 0) : Type 0 where
  pub begins : in_hand tasks [] ≢ None
  pub none : (step : Step) (before : History) → Here doubts tasks step before → GoesOn tasks (step ∷ before) → (answer : Answer) → Ends answer step → ⊥
  pub fault : (step : Step) (before : History) → Here doubts tasks step before → (fault : ProvisionFault) → fault_by tasks step before ≡ Some fault → Ends (Err fault) step
  pub well : (step : Step) (before : History) → Here doubts tasks step before → in_hand tasks before ≢ None → in_hand tasks (step ∷ before) ≡ None → (steps : ℕ) → Ends (Ok steps) step

module _ {doubts : Bool} (tasks : List Task) (Ends : Answer → Step → Type 0) (ending : Ending doubts tasks Ends) where
  pub none_ends : (history : History) → EachStep (Here doubts tasks) history → EachGoesOn tasks history → NoneEnds Ends history
  none_ends [] each on = tt
  none_ends (step ∷ before) each on = (λ answer end. ending.none step before each.0 on.0 answer end, none_ends before each.1 on.1)

  last_ends : (step : Step) (before : History) (answer : Answer) → Here doubts tasks step before → EachGoesOn tasks before → EndsTasks tasks (step ∷ before) answer → Ends answer step
  last_ends step before (Ok steps) here on ends = ending.well step before here (still_unmet tasks before on) ends.0 steps
  last_ends step before (Err fault) here on ends = ending.fault step before here fault ends

  ends_of : (history : History) (answer : Answer) → EachStep (Here doubts tasks) history → EndsFirst tasks history answer → EndsIn Ends history answer
  ends_of [] (Ok steps) each ends = absurd (ending.begins ends.0)
  ends_of [] (Err fault) each ends = cc
  ends_of (step ∷ before) answer each ends = record {
    last = step;
    before = before;
    split = refl;
    ends = last_ends step before answer each.0 ends.1 ends.0;
    first = none_ends before each.1 ends.1;
  }

  counted_of : (history : History) (answer : Answer) → EndsFirst tasks history answer → IfOk answer (λ steps. steps ≡ length history)
  counted_of [] (Ok steps) ends = ends.1
  counted_of (step ∷ before) (Ok steps) ends = ends.0.1
  counted_of [] (Err fault) ends = tt
  counted_of (step ∷ before) (Err fault) ends = tt

  not_counted : (history : History) (answer : Answer) (fault : ProvisionFault) → answer ≡ Err fault → IfOk answer (λ steps. steps ≡ length history)
  not_counted history answer fault e = subst (λ (answer : Answer). IfOk answer (λ steps. steps ≡ length history)) (sym e) tt

  -- the outcome of a procedure is what holds with each step and its answer
  module _ (Is : Type 0 → History → Answer → Type 0) (outcome : (full : Type 0) (history : History) (answer : Answer) → EachStep (Here doubts tasks) history → IsAnswer Ends full history answer → Is full history answer) where
    pub is_ended : (full : Type 0) (history : History) (answer : Answer) → HasEndedBy doubts tasks history answer → Is full history answer
    is_ended full history answer ended = elim ended.answered as (λ _. Is full history answer) [
      | inl ends ↦
          let each = all_here doubts tasks history ended.each ended.answers (ends_before tasks history answer ends) in
          outcome full history answer each (record { at_most = ended.few; counted = counted_of history answer ends; answered = inl (ends_of history answer each ends) })
      | inr gives_up ↦
          let each = all_here doubts tasks history ended.each ended.answers (goes_before tasks history gives_up.goes_on) in
          outcome full history answer each (record {
            at_most = ended.few;
            counted = not_counted history answer GaveUp gives_up.fault;
            answered = inr (inl (record { fault = gives_up.fault; all = gives_up.all; none = none_ends history each gives_up.goes_on }));
          })
    ]

    pub is_filled : (full : Type 0) (history : History) → EachIsNextBy doubts tasks history → EachAnswers history → full → length history < 4096 → EachGoesOn tasks history → Is full history (Err (Bus TraceFull))
    is_filled full history nexts answers is_full fewer on =
        let each = all_here doubts tasks history nexts answers (goes_before tasks history on) in
        outcome full history (Err (Bus TraceFull)) each
        (record { at_most = omega (arith, fewer); counted = tt; answered = inr (inr (record { fault = refl; is_full = is_full; fewer = fewer; none = none_ends history each on })) })

-- and on a bus
pub is_on_bus : {S : Type 0} (tasks : List Task) (Ends : Answer → Step → Type 0) → Ending false tasks Ends → (Is : Type 0 → History → Answer → Type 0) →
    ((full : Type 0) (history : History) (answer : Answer) → EachStep (Here false tasks) history → IsAnswer Ends full history answer → Is full history answer) →
    (after : Seen S) (history : History) (answer : Answer) → IsOutcome tasks after history answer → Is (IsFull after) history answer
is_on_bus tasks Ends ending Is outcome after history answer (inl ended) = is_ended tasks Ends ending Is outcome (IsFull after) history answer ended
is_on_bus tasks Ends ending Is outcome after history answer (inr out) =
    subst (λ (answer : Answer). Is (IsFull after) history answer) (sym out.fault) (is_filled tasks Ends ending Is outcome (IsFull after) history out.each out.answers out.full out.fewer out.goes_on)
