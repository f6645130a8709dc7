-- Whose turn it is at a step of a procedure, and which tasks were met before it.
use Rattle.std.proofs.Common.{◌≡◌, ◌≢◌, ◌⊎◌, ℕ, ◌&&◌, Bool, true, false, not, List, [], ◌∷◌, ◌++◌, Option, Some, None, refl, sym, ap, ◌∙◌, inl, inr, if◌then◌else◌}
use Rattle.std.proofs.lemmas.Bool.{and_parts, and_from, cases_Bool}
use Rattle.std.specs.List.{list_all}
use Rattle.std.specs.Option.{option_map}
use Rattle.bus_model.specs.declared.operation.Op.{Op}
use Rattle.bus_model.specs.declared.operation.Step.{Step}
use Rattle.conversations.specs.Selecting.{trusted}
use Rattle.control_sets.specs.declared.procedures.task.Task.{Task}
use Rattle.control_sets.specs.declared.procedures.judgement.ReplyJudgement.{ReplyJudgement}
use Rattle.control_sets.specs.declared.procedures.judgement.ReplyJudgement.TheVariants.{Met, NotYet}
use Rattle.bus_model.specs.SameOperation.{same_op}
use Rattle.control_sets.specs.Pages.{EachStep, History, is_page_confirmed, is_open, read_selection, selection}
use Rattle.control_sets.specs.Tasks.{operation, page_of}
use Rattle.control_sets.specs.Judgements.{judgement}
use Rattle.control_sets.specs.Procedures.{EachIsNextBy, in_hand, is_met, is_on, judgement_at, meets, next_operation, operation_on, was_met}
use Rattle.control_sets.proofs.Doubts.{on_all}
use Rattle.control_sets.proofs.OutcomeWords.{contradicts}
use Rattle.control_sets.proofs.TaskLaws.{judged_own, no_read_back, no_selection}
use Rattle.bus_model.proofs.SameOperations.{apart, ops_are, ops_same}

-- the selection is read back
pub record ReadsBack (op : Op) (before : History) : Type 0 where
  pub is : op ≡ read_selection
  pub awaited : is_open before ≡ true

-- the task's page is selected
pub record Selects (task : Task) (op : Op) (before : History) : Type 0 where
  pub page : ℕ
  pub needs : page_of task ≡ Some page
  pub is : op ≡ selection page
  pub closed : is_open before ≡ false
  pub missing : is_page_confirmed page before ≡ false

-- the task's own operation, on its page
pub record Works (task : Task) (op : Op) (before : History) : Type 0 where
  pub is : op ≡ operation task
  pub closed : is_open before ≡ false
  pub there : is_on (page_of task) before ≡ true

pub record Turn (doubts : Bool) (tasks : List Task) (step : Step) (before : History) : Type 0 where
  pub task : Task
  pub hand : in_hand tasks before ≡ Some task
  pub does : ReadsBack step.op (trusted doubts before) ⊎ (Selects task step.op (trusted doubts before) ⊎ Works task step.op (trusted doubts before))

on_page : (task : Task) (op : Op) (before : History) (page : Option ℕ) → page_of task ≡ page → is_open before ≡ false → op ≡ operation_on before task page → Selects task op before ⊎ Works task op before
on_page task op before None needs closed e = inr (record { is = e; closed = closed; there = ap (λ (page : Option ℕ). is_on page before) needs })
on_page task op before (Some page) needs closed e = by (is_page_confirmed page before) refl e where
  by : (there : Bool) → is_page_confirmed page before ≡ there → op ≡ (if there then operation task else selection page) → Selects task op before ⊎ Works task op before
  by true there e = inr (record { is = e; closed = closed; there = ap (λ (page : Option ℕ). is_on page before) needs ∙ there })
  by false missing e = inl (record { page = page; needs = needs; is = e; closed = closed; missing = missing })

does_by : (task : Task) (op : Op) (before : History) → op ≡ next_operation before task → ReadsBack op before ⊎ (Selects task op before ⊎ Works task op before)
does_by task op before e = by (is_open before) refl e where
  by : (awaited : Bool) → is_open before ≡ awaited → op ≡ (if awaited then read_selection else operation_on before task (page_of task)) → ReadsBack op before ⊎ (Selects task op before ⊎ Works task op before)
  by true awaited e = inl (record { is = e; awaited = awaited })
  by false closed e = inr (on_page task op before (page_of task) refl closed e)

turn_with : (doubts : Bool) (tasks : List Task) (step : Step) (before : History) (hand : Option Task) → in_hand tasks before ≡ hand → option_map (next_operation (trusted doubts before)) hand ≡ Some step.op → Turn doubts tasks step before
turn_with doubts tasks step before None e next = cc
turn_with doubts tasks step before (Some task) e next =
    let is : step.op ≡ next_operation (trusted doubts before) task = cc in
    record { task = task; hand = e; does = does_by task step.op (trusted doubts before) is }

-- each step is somebody's turn
pub each_turn : (doubts : Bool) (tasks : List Task) (history : History) → EachIsNextBy doubts tasks history → EachStep (Turn doubts tasks) history
each_turn doubts tasks [] each = tt
each_turn doubts tasks (step ∷ before) each =
    (turn_with doubts tasks step before (in_hand tasks before) refl each.0, each_turn doubts tasks before each.1)

-- ---- which task is in hand

peel_by : (task wanted : Task) (tasks : List Task) (before : History) (met : Bool) → was_met task before ≡ met → (if not met then Some task else in_hand tasks before) ≡ Some wanted →
    ((wanted ≡ task) × (was_met task before ≡ false)) ⊎ ((was_met task before ≡ true) × (in_hand tasks before ≡ Some wanted))
peel_by task wanted tasks before true is hand = inr (is, hand)
peel_by task wanted tasks before false is hand = let same : wanted ≡ task = cc in inl (same, is)

-- the first task is in hand, or it was met, and one of the others is
pub peel : (task wanted : Task) (tasks : List Task) (before : History) → in_hand (task ∷ tasks) before ≡ Some wanted →
    ((wanted ≡ task) × (was_met task before ≡ false)) ⊎ ((was_met task before ≡ true) × (in_hand tasks before ≡ Some wanted))
peel task wanted tasks before hand = peel_by task wanted tasks before (was_met task before) refl hand

-- the task has another operation
abbrev pub differs : Op → Task → Bool
differs op task = not (same_op (operation task) op)

differing : (op : Op) (task : Task) → differs op task ≡ true → operation task ≡ op → ⊥
differing op task e is = contradicts e (ap not (ops_same (operation task) op is))

none_has : (op : Op) (task : Task) (tasks : List Task) (before : History) → list_all (differs op) tasks ≡ true → operation task ≡ op → in_hand tasks before ≡ Some task → ⊥
none_has op task [] before other is hand = cc
none_has op task (first ∷ tasks) before other is hand =
    let parts = and_parts _ _ other in
    elim (peel first task tasks before hand) as (λ _. ⊥) [
      | inl here ↦ differing op first parts.0 (sym (ap operation here.0) ∙ is)
      | inr later ↦ none_has op task tasks before parts.1 is later.1
    ]

-- at a step with the task's operation the earlier tasks were met, the task wasn't, and its page is confirmed
pub record IsAt (first : List Task) (task : Task) (before : History) : Type 0 where
  pub met : list_all (λ task. was_met task before) first ≡ true
  pub unmet : was_met task before ≡ false
  pub there : is_on (page_of task) before ≡ true

at_hand : (first : List Task) (wanted task : Task) (rest : List Task) (before : History) → list_all (differs (operation wanted)) first ≡ true → list_all (differs (operation wanted)) rest ≡ true →
    operation task ≡ operation wanted → in_hand (first ++ wanted ∷ rest) before ≡ Some task → (list_all (λ task. was_met task before) first ≡ true) × (task ≡ wanted) × (was_met wanted before ≡ false)
at_hand [] wanted task rest before before_differs after_differs is hand =
    elim (peel wanted task rest before hand) as (λ _. (true ≡ true) × (task ≡ wanted) × (was_met wanted before ≡ false)) [
      | inl here ↦ (refl, here.0, here.1)
      | inr later ↦ absurd (none_has (operation wanted) task rest before after_differs is later.1)
    ]
at_hand (other ∷ first) wanted task rest before before_differs after_differs is hand =
    let parts = and_parts _ _ before_differs in
    elim (peel other task (first ++ wanted ∷ rest) before hand) as (λ _. (list_all (λ task. was_met task before) (other ∷ first) ≡ true) × (task ≡ wanted) × (was_met wanted before ≡ false)) [
      | inl here ↦ absurd (differing (operation wanted) other parts.0 (sym (ap operation here.0) ∙ is))
      | inr later ↦
          let found = at_hand first wanted task rest before parts.1 after_differs is later.1 in
          (and_from _ _ later.0 found.0, found.1, found.2)
    ]

pub is_at : {doubts : Bool} (first : List Task) (wanted : Task) (rest : List Task) (step : Step) (before : History) → list_all (differs (operation wanted)) first ≡ true → list_all (differs (operation wanted)) rest ≡ true →
    Turn doubts (first ++ wanted ∷ rest) step before → step.op ≡ operation wanted → IsAt first wanted before
is_at {doubts} first wanted rest step before before_differs after_differs turn is =
    elim turn.does as (λ _. IsAt first wanted before) [
      | inl reads ↦ absurd (apart (operation wanted) read_selection (no_read_back wanted) (sym is ∙ reads.is))
      | inr (inl selects) ↦ absurd (apart (operation wanted) (selection selects.page) (no_selection wanted selects.page) (sym is ∙ selects.is))
      | inr (inr works) ↦
          let found = at_hand first wanted turn.task rest before before_differs after_differs (sym works.is ∙ is) turn.hand in
          record { met = found.0; unmet = found.2; there = ap (λ (task : Task). is_on (page_of task) before) (sym found.1) ∙ on_all doubts (page_of turn.task) before works.there }
    ]

-- ---- meeting a task

-- the step is the task's operation on its page, with a reply that meets it
pub record Meets (task : Task) (step : Step) (before : History) : Type 0 where
  pub is : step.op ≡ operation task
  pub there : is_on (page_of task) before ≡ true
  pub reply : is_met (judgement task step.reply) ≡ true

pub judged_by : (task : Task) (step : Step) (before : History) (judged : ReplyJudgement) → judged ≢ NotYet → judgement_at task step before ≡ judged →
    (step.op ≡ operation task) × (is_on (page_of task) before ≡ true) × (judgement task step.reply ≡ judged)
judged_by task step before judged some e =
    let test = same_op (operation task) step.op && is_on (page_of task) before in
    elim (cases_Bool test) as (λ _. (step.op ≡ operation task) × (is_on (page_of task) before ≡ true) × (judgement task step.reply ≡ judged)) [
      | inl yes_ ↦
          let parts = and_parts _ _ yes_ in
          (sym (ops_are (operation task) step.op parts.0), parts.1, sym (ap (λ (b : Bool). if b then judgement task step.reply else NotYet) yes_) ∙ e)
      | inr no_ ↦ absurd (some (sym (sym (ap (λ (b : Bool). if b then judgement task step.reply else NotYet) no_) ∙ e)))
    ]

pub met_is : (judged : ReplyJudgement) → is_met judged ≡ true → judged ≡ Met
met_is Met e = refl
met_is _ e = cc

pub meets_is : (task : Task) (step : Step) (before : History) → meets task step before ≡ true → Meets task step before
meets_is task step before e =
    let found = judged_by task step before Met (λ h. let c : true ≡ false = ap is_met h in cc) (met_is (judgement_at task step before) e) in
    record { is = found.0; there = found.1; reply = ap is_met found.2 }

pub meets_by : (task : Task) (step : Step) (before : History) → Meets task step before → meets task step before ≡ true
meets_by task step before m = ap is_met (judged_own task step before m.is m.there) ∙ m.reply
