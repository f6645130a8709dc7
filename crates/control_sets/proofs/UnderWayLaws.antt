-- How far tasks have come, and what one step more makes of it.
use Rattle.std.proofs.Common.{◌≡◌, Bool, true, not, List, [], ◌∷◌, ◌++◌, length, Some, None, Ok, Err, refl, sym, ap, ◌∙◌, append_assoc}
use Rattle.std.specs.List.{list_all}
use Rattle.std.specs.Option.{option_map}
use Rattle.std.proofs.lemmas.List.Folds.{list_all-append}
use Rattle.std.proofs.lemmas.Bool.{and_parts, and_from, or_left}
use Rattle.bus_model.specs.declared.operation.Step.{Step}
use Rattle.conversations.specs.Selecting.{trusted}
use Rattle.control_sets.specs.declared.procedures.task.Task.{Task}
use Rattle.control_sets.specs.declared.procedures.judgement.ReplyJudgement.TheVariants.{Met, NotYet, Fails}
use Rattle.control_sets.specs.declared.fault.ProvisionFault.{ProvisionFault}
use Rattle.bus_model.specs.Operations.{Answers}
use Rattle.control_sets.specs.Pages.{History}
use Rattle.control_sets.specs.Procedures.{EachAnswers, EachGoesOn, EachIsNextBy, EndsFirst, fault_after, fault_by, fault_in, in_hand, is_met, judgement_at, next_operation, was_met}
use Rattle.control_sets.proofs.Silence.{Silent, fault_shown, in_hand_first, in_hand_past, met_stays, unmet_stays}

-- no fewer of the steps end in an answer
abbrev pub BeforeGoesOn : List Task → History → Type 0
BeforeGoesOn tasks [] = Unit {0}
BeforeGoesOn tasks (step ∷ before) = EachGoesOn tasks before

-- the earlier tasks were met, and the later ones not
pub record UnderWay (doubts : Bool) (tasks earlier later : List Task) (history : History) : Type 0 where
  pub split : tasks ≡ earlier ++ later
  pub each : EachIsNextBy doubts tasks history
  pub answers : EachAnswers history
  pub met : list_all (λ task. was_met task history) earlier ≡ true
  pub unmet : list_all (λ task. not (was_met task history)) later ≡ true
  pub no_fault : fault_after tasks history ≡ None
  pub before : BeforeGoesOn tasks history

pub none_met : (tasks : List Task) → list_all (λ task. not (was_met task [])) tasks ≡ true
none_met [] = refl
none_met (task ∷ tasks) = none_met tasks

pub begun : (doubts : Bool) (tasks : List Task) → UnderWay doubts tasks [] tasks []
begun doubts tasks = record { split = refl; each = tt; answers = tt; met = refl; unmet = none_met tasks; no_fault = refl; before = tt }

each_goes_on : (tasks : List Task) (task : Task) (history : History) → in_hand tasks history ≡ Some task → fault_after tasks history ≡ None → BeforeGoesOn tasks history → EachGoesOn tasks history
each_goes_on tasks task [] h e before = record { unmet = λ none. cc; no_fault = e }
each_goes_on tasks task (step ∷ history) h e before = (record { unmet = λ none. cc; no_fault = e }, before)

module _ {doubts : Bool} (tasks earlier later : List Task) (task : Task) (history : History) (u : UnderWay doubts tasks earlier (task ∷ later) history) where
  pub hand : in_hand tasks history ≡ Some task
  hand = ap (λ tasks. in_hand tasks history) u.split ∙ in_hand_past earlier (task ∷ later) history u.met ∙ in_hand_first task later history (and_parts _ _ u.unmet).0

  -- so far the steps end in no answer
  pub goes_on : EachGoesOn tasks history
  goes_on = each_goes_on tasks task history hand u.no_fault u.before

-- the step is the one that comes next, and says nothing of other tasks
pub record IsNext (doubts : Bool) (earlier later : List Task) (task : Task) (step : Step) (before : History) : Type 0 where
  pub done : next_operation (trusted doubts before) task ≡ step.op
  pub answers : Answers step.op step.reply
  pub silent_before : Silent step before earlier
  pub silent_after : Silent step before later

module _ {doubts : Bool} (tasks earlier later : List Task) (task : Task) (history : History) (step : Step)
    (u : UnderWay doubts tasks earlier (task ∷ later) history) (next : IsNext doubts earlier later task step history) where
  pub each_next : EachIsNextBy doubts tasks (step ∷ history)
  each_next = (ap (option_map (next_operation (trusted doubts history))) (hand tasks earlier later task history u) ∙ ap (λ op. Some op) next.done, u.each)

  fault_next : fault_by tasks step history ≡ fault_in (judgement_at task step history)
  fault_next = ap (λ tasks. fault_by tasks step history) u.split ∙ fault_shown step history earlier later task next.silent_before next.silent_after

  -- the task isn't met yet
  pub stays : judgement_at task step history ≡ NotYet → UnderWay doubts tasks earlier (task ∷ later) (step ∷ history)
  stays e = record {
    split = u.split;
    each = each_next;
    answers = (next.answers, u.answers);
    met = met_stays step history earlier u.met;
    unmet = unmet_stays step history (task ∷ later) (e, next.silent_after) u.unmet;
    no_fault = fault_next ∙ ap fault_in e;
    before = goes_on tasks earlier later task history u;
  }

  -- now it is
  pub moves : judgement_at task step history ≡ Met → UnderWay doubts tasks (earlier ++ task ∷ []) later (step ∷ history)
  moves e = record {
    split = u.split ∙ sym (append_assoc earlier (task ∷ []) later);
    each = each_next;
    answers = (next.answers, u.answers);
    met = list_all-append _ earlier (task ∷ []) ∙ and_from _ _ (met_stays step history earlier u.met) (and_from _ _ (or_left _ _ (ap is_met e)) refl);
    unmet = unmet_stays step history later next.silent_after (and_parts _ _ u.unmet).1;
    no_fault = fault_next ∙ ap fault_in e;
    before = goes_on tasks earlier later task history u;
  }

  -- it never will be
  pub ends : (fault : ProvisionFault) → judgement_at task step history ≡ Fails fault → EndsFirst tasks (step ∷ history) (Err fault)
  ends fault e = (fault_next ∙ ap fault_in e, goes_on tasks earlier later task history u)

-- each task was met
pub all_met : {doubts : Bool} (tasks earlier : List Task) (history : History) → UnderWay doubts tasks earlier [] history → EndsFirst tasks history (Ok (length history))
all_met tasks earlier [] u = (ap (λ tasks. in_hand tasks []) u.split ∙ in_hand_past earlier [] [] u.met, refl)
all_met tasks earlier (step ∷ history) u = ((ap (λ tasks. in_hand tasks (step ∷ history)) u.split ∙ in_hand_past earlier [] (step ∷ history) u.met, refl), u.before)
