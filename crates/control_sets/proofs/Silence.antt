-- A step says nothing of tasks that it isn't made for, and what that leaves as it was.
use Rattle.std.proofs.Common.{◌≡◌, ℕ, ◌&&◌, ◌||◌, Bool, true, false, not, List, [], ◌∷◌, ◌++◌, Option, Some, None, refl, sym, ap, ◌∙◌, if◌then◌else◌}
use Rattle.std.proofs.lemmas.Bool.{and_parts, and_from, or_right}
use Rattle.std.specs.List.{list_all, AllByRecursion}
use Rattle.bus_model.specs.declared.operation.Step.{Step}
use Rattle.control_sets.specs.declared.fault.ProvisionFault.{ProvisionFault}
use Rattle.control_sets.specs.declared.procedures.judgement.ReplyJudgement.{ReplyJudgement}
use Rattle.control_sets.specs.declared.procedures.judgement.ReplyJudgement.TheVariants.{NotYet}
use Rattle.control_sets.specs.declared.procedures.task.Task.{Task}
use Rattle.bus_model.specs.SameOperation.{same_op}
use Rattle.control_sets.specs.Pages.{History, read_selection, selection}
use Rattle.control_sets.specs.Tasks.{operation}
use Rattle.control_sets.specs.Procedures.{fault_by, fault_in, in_hand, is_met, judgement_at, or_else, was_met}
use Rattle.control_sets.proofs.TaskLaws.{judged_read_back, judged_selection, not_said}

-- no operation is that of both
abbrev are_apart : Task → Task → Bool
are_apart task other = not (same_op (operation task) (operation other))

abbrev pub all_apart : List Task → Bool
all_apart [] = true
all_apart (task ∷ later) = list_all (λ other. are_apart task other && are_apart other task) later && all_apart later

abbrev pub Silent : Step → History → List Task → Type 0
Silent step before tasks = AllByRecursion (λ task. judgement_at task step before ≡ NotYet) tasks

not_true : (b : Bool) → not b ≡ true → b ≡ false
not_true true e = sym e
not_true false e = refl

other_silent : (step : Step) (before : History) (task other : Task) → step.op ≡ operation task → are_apart other task ≡ true → judgement_at other step before ≡ NotYet
other_silent step before task other e apart = not_said other step before (ap (same_op (operation other)) e ∙ not_true _ apart)

module _ (step : Step) (before : History) (task : Task) (e : step.op ≡ operation task) where
  later_silent : (tasks : List Task) → list_all (λ other. are_apart task other && are_apart other task) tasks ≡ true → Silent step before tasks
  later_silent [] apart = tt
  later_silent (other ∷ tasks) apart =
      let parts = and_parts _ _ apart in
      (other_silent step before task other e (and_parts _ _ parts.0).1, later_silent tasks parts.1)

  among : (other : Task) (earlier later : List Task) → list_all (λ another. are_apart other another && are_apart another other) (earlier ++ task ∷ later) ≡ true → are_apart other task ≡ true
  among other [] later apart = (and_parts _ _ (and_parts _ _ apart).0).0
  among other (first ∷ earlier) later apart = among other earlier later (and_parts _ _ apart).1

  pub earlier_silent : (earlier later : List Task) → all_apart (earlier ++ task ∷ later) ≡ true → Silent step before earlier
  earlier_silent [] later apart = tt
  earlier_silent (other ∷ earlier) later apart =
      let parts = and_parts _ _ apart in
      (other_silent step before task other e (among other earlier later parts.0), earlier_silent earlier later parts.1)

  pub rest_silent : (earlier later : List Task) → all_apart (earlier ++ task ∷ later) ≡ true → Silent step before later
  rest_silent [] later apart = later_silent later (and_parts _ _ apart).0
  rest_silent (other ∷ earlier) later apart = rest_silent earlier later (and_parts _ _ apart).1

-- what was met stays met
pub met_stays : (step : Step) (history : History) (tasks : List Task) → list_all (λ task. was_met task history) tasks ≡ true → list_all (λ task. was_met task (step ∷ history)) tasks ≡ true
met_stays step history [] e = refl
met_stays step history (task ∷ tasks) e =
    let parts = and_parts _ _ e in
    and_from _ _ (or_right _ _ parts.0) (met_stays step history tasks parts.1)

-- and what wasn't isn't met by a step that says nothing of it
pub unmet_stays : (step : Step) (history : History) (tasks : List Task) → Silent step history tasks → list_all (λ task. not (was_met task history)) tasks ≡ true → list_all (λ task. not (was_met task (step ∷ history))) tasks ≡ true
unmet_stays step history [] silent e = refl
unmet_stays step history (task ∷ tasks) silent e =
    let parts = and_parts _ _ e in
    and_from _ _ (ap (λ (judged : ReplyJudgement). not (is_met judged || was_met task history)) silent.0 ∙ parts.0) (unmet_stays step history tasks silent.1 parts.1)

pub no_fault_of : (step : Step) (before : History) (tasks : List Task) → Silent step before tasks → fault_by tasks step before ≡ None
no_fault_of step before [] silent = refl
no_fault_of step before (task ∷ tasks) silent = (λ i. or_else (fault_in (silent.0 i)) (fault_by tasks step before)) ∙ no_fault_of step before tasks silent.1

fault_past : (step : Step) (before : History) (earlier later : List Task) → Silent step before earlier → fault_by (earlier ++ later) step before ≡ fault_by later step before
fault_past step before [] later silent = refl
fault_past step before (task ∷ earlier) later silent = (λ i. or_else (fault_in (silent.0 i)) (fault_by (earlier ++ later) step before)) ∙ fault_past step before earlier later silent.1

or_none : (fault : Option ProvisionFault) → or_else fault None ≡ fault
or_none None = refl
or_none (Some fault) = refl

-- the fault that a step shows is that of the one task that it says something of
pub fault_shown : (step : Step) (before : History) (earlier later : List Task) (task : Task) → Silent step before earlier → Silent step before later → fault_by (earlier ++ task ∷ later) step before ≡ fault_in (judgement_at task step before)
fault_shown step before earlier later task of_earlier of_later =
    fault_past step before earlier (task ∷ later) of_earlier
    ∙ ap (or_else (fault_in (judgement_at task step before))) (no_fault_of step before later of_later)
    ∙ or_none (fault_in (judgement_at task step before))

-- the task in hand is the first after those that were met
pub in_hand_past : (earlier later : List Task) (history : History) → list_all (λ task. was_met task history) earlier ≡ true → in_hand (earlier ++ later) history ≡ in_hand later history
in_hand_past [] later history e = refl
in_hand_past (task ∷ earlier) later history e =
    let parts = and_parts _ _ e in
    ap (λ (b : Bool). if not b then Some task else in_hand (earlier ++ later) history) parts.0 ∙ in_hand_past earlier later history parts.1

pub in_hand_first : (task : Task) (later : List Task) (history : History) → not (was_met task history) ≡ true → in_hand (task ∷ later) history ≡ Some task
in_hand_first task later history e = ap (λ (b : Bool). if b then Some task else in_hand later history) e

-- nor does a selection or a read back say anything of any task
pub selection_silent : (step : Step) (before : History) (page : ℕ) (tasks : List Task) → step.op ≡ selection page → Silent step before tasks
selection_silent step before page [] e = tt
selection_silent step before page (task ∷ tasks) e = (judged_selection task step before page e, selection_silent step before page tasks e)

pub read_back_silent : (step : Step) (before : History) (tasks : List Task) → step.op ≡ read_selection → Silent step before tasks
read_back_silent step before [] e = tt
read_back_silent step before (task ∷ tasks) e = (judged_read_back task step before e, read_back_silent step before tasks e)
