-- Steps of a procedure in the words of the outcomes: which of them met a task, and which show a fault.
use Rattle.std.proofs.Common.{◌≡◌, ◌⊎◌, ℕ, true, false, List, [], ◌∷◌, ◌++◌, Option, Some, None, refl, sym, ap, subst, ◌∙◌, inl, inr}
use Rattle.std.proofs.lemmas.Bool.{or_cases}
use Rattle.bus_model.specs.declared.operation.Op.{Op}
use Rattle.bus_model.specs.declared.operation.Op.TheVariants.{Fetch, Store}
use Rattle.bus_model.specs.declared.operation.Reply.{Reply}
use Rattle.bus_model.specs.declared.operation.Reply.TheVariants.{Bytes, Done, Refused}
use Rattle.bus_model.specs.declared.operation.Step.{Step}
use Rattle.bus_model.specs.Operations.{Answers}
use Rattle.control_sets.specs.declared.fault.ProvisionFault.{ProvisionFault}
use Rattle.control_sets.specs.declared.procedures.task.Task.{Task}
use Rattle.control_sets.specs.declared.procedures.task.Task.TheVariants.{FindReady, Deinitialize, AwaitDeactivated, Stage, CheckStaged, Apply, AwaitApplied, CheckActive, AwaitActivated}
use Rattle.control_sets.specs.declared.procedures.judgement.ReplyJudgement.{ReplyJudgement}
use Rattle.control_sets.specs.declared.procedures.judgement.ReplyJudgement.TheVariants.{Met, NotYet, Fails}
use Rattle.control_sets.specs.Pages.{History}
use Rattle.control_sets.specs.Tasks.{operation, page_of}
use Rattle.control_sets.specs.Judgements.{judged, judged_done, judgement}
use Rattle.control_sets.specs.Procedures.{EachAnswers, fault_by, fault_in, is_met, is_on, judgement_at, meets, or_else, was_met}
use Rattle.control_sets.specs.OutcomeSteps.{Gives, IsAccepted, Reads, Stands}
use Rattle.control_sets.proofs.OutcomeTurns.{Meets, judged_by, meets_is, met_is}
use Rattle.control_sets.proofs.OutcomeReplies.{Condition, HasEight, Shows, Told, told}

-- what is found by a reply to the task's operation
abbrev Found : Task → Reply → Type 0
Found task (Bytes bytes) = Condition task bytes.items
Found task Done = judged_done (operation task) ≡ Met
Found task Refused = ⊥

met_told : (task : Task) (bytes : List ℕ) (judgement : ReplyJudgement) → Told task bytes judgement → is_met judgement ≡ true → Condition task bytes
met_told task bytes Met t e = t.0
met_told task bytes _ t e = cc

told_met : (task : Task) (bytes : List ℕ) (judgement : ReplyJudgement) → Told task bytes judgement → Condition task bytes → is_met judgement ≡ true
told_met task bytes Met t c = refl
told_met task bytes _ t c = absurd (t.0 c)

finds_by : (task : Task) (reply : Reply) → HasEight task → Answers (operation task) reply → is_met (judgement task reply) ≡ true → Found task reply
finds_by task (Bytes bytes) eight answers e = met_told task bytes.items (judged task bytes.items) (told task bytes eight answers) e
finds_by task Done eight answers e = met_is (judged_done (operation task)) e
finds_by task Refused eight answers e = cc

found_by : (task : Task) (reply : Reply) → HasEight task → Answers (operation task) reply → Found task reply → is_met (judgement task reply) ≡ true
found_by task (Bytes bytes) eight answers f = told_met task bytes.items (judged task bytes.items) (told task bytes eight answers) f
found_by task Done eight answers f = ap is_met f
found_by task Refused eight answers f = absurd f

-- a step meets the task, in the words of the outcomes
abbrev pub Finds : Task → Step → Type 0
Finds (Deinitialize bits) = IsAccepted (operation (Deinitialize bits))
Finds (Stage control) = IsAccepted (operation (Stage control))
Finds (Apply bits) = IsAccepted (operation (Apply bits))
Finds (CheckStaged control) = Gives (operation (CheckStaged control)) control
Finds (CheckActive control) = Gives (operation (CheckActive control)) control
Finds task = Reads (operation task) (Condition task)

is_done : (task : Task) (reply : Reply) → ((bytes : List ℕ) → Condition task bytes → ⊥) → Found task reply → reply ≡ Done
is_done task (Bytes bytes) none f = absurd (none bytes.items f)
is_done task Done none f = refl
is_done task Refused none f = absurd f

is_read : (task : Task) (reply : Reply) → (judged_done (operation task) ≡ Met → ⊥) → Found task reply → (bytes : List ℕ) × (reply ≡ Bytes (record { items = bytes })) × Condition task bytes
is_read task (Bytes bytes) fetch f = (bytes.items, refl, f)
is_read task Done fetch f = absurd (fetch f)
is_read task Refused fetch f = absurd f

never : NotYet ≡ Met → ⊥
never e = let h : false ≡ true = ap is_met e in cc

finds_of : (task : Task) (step : Step) → step.op ≡ operation task → Found task step.reply → Finds task step
finds_of (Deinitialize bits) step is f = (is, is_done (Deinitialize bits) step.reply (λ bytes c. c) f)
finds_of (Stage control) step is f = (is, is_done (Stage control) step.reply (λ bytes c. c) f)
finds_of (Apply bits) step is f = (is, is_done (Apply bits) step.reply (λ bytes c. c) f)
finds_of (CheckStaged control) step is f = let (bytes, gives, same) = is_read (CheckStaged control) step.reply never f in (is, gives ∙ ap (λ (bytes : List ℕ). Bytes (record { items = bytes })) same)
finds_of (CheckActive control) step is f = let (bytes, gives, same) = is_read (CheckActive control) step.reply never f in (is, gives ∙ ap (λ (bytes : List ℕ). Bytes (record { items = bytes })) same)
finds_of task step is f = let (bytes, gives, c) = is_read task step.reply never f in (bytes, (is, gives), c)

found_of : (task : Task) (step : Step) → Finds task step → (step.op ≡ operation task) × Found task step.reply
found_of FindReady step f = (f.1.0, subst (Found FindReady) (sym f.1.1) f.2)
found_of (AwaitDeactivated lanes) step f = (f.1.0, subst (Found (AwaitDeactivated lanes)) (sym f.1.1) f.2)
found_of (AwaitApplied lanes) step f = (f.1.0, subst (Found (AwaitApplied lanes)) (sym f.1.1) f.2)
found_of (AwaitActivated lanes) step f = (f.1.0, subst (Found (AwaitActivated lanes)) (sym f.1.1) f.2)
found_of task step f = (f.0, subst (Found task) (sym f.1) refl)

pub answers_of : (task : Task) (step : Step) → Answers step.op step.reply → step.op ≡ operation task → Answers (operation task) step.reply
answers_of task step fit is = subst (λ (op : Op). Answers op step.reply) is fit

pub finds : (task : Task) (step : Step) (before : History) → HasEight task → Answers step.op step.reply → Meets task step before → Finds task step
finds task step before eight fit m = finds_of task step m.is (finds_by task step.reply eight (answers_of task step fit m.is) m.reply)

pub its_op : (task : Task) (step : Step) → Finds task step → step.op ≡ operation task
its_op task step f = (found_of task step f).0

pub found : (task : Task) (step : Step) (before : History) → HasEight task → Answers step.op step.reply → is_on (page_of task) before ≡ true → Finds task step → Meets task step before
found task step before eight fit there f =
    let (is, reply) = found_of task step f in
    record { is = is; there = there; reply = found_by task step.reply eight (answers_of task step fit is) reply }

-- where a task was met, a step found it
pub stands : (task : Task) (history : History) → HasEight task → EachAnswers history → was_met task history ≡ true → Stands (Finds task) history
stands task [] eight fits e = cc
stands task (step ∷ before) eight fits e = elim (or_cases (meets task step before) (was_met task before) e) as (λ _. Stands (Finds task) (step ∷ before)) [
  | inl now ↦ inl (finds task step before eight fits.0 (meets_is task step before now))
  | inr earlier ↦ inr (stands task before eight fits.1 earlier)
]

pub shows_by : (task : Task) (step : Step) (before : History) (bytes : List ℕ) (fault : ProvisionFault) (judgement : ReplyJudgement) → judgement_at task step before ≡ judgement → Told task bytes judgement → Shows task fault bytes →
    (shown : ProvisionFault) × (judgement_at task step before ≡ Fails shown)
shows_by task step before bytes fault (Fails shown) e t s = (shown, e)
shows_by task step before bytes fault _ e t s = absurd (t.1 fault s)

fault_is : (judgement : ReplyJudgement) (fault : ProvisionFault) → fault_in judgement ≡ Some fault → judgement ≡ Fails fault
fault_is (Fails shown) fault e = cc
fault_is _ fault e = cc

told_shows : (task : Task) (bytes : List ℕ) (judgement : ReplyJudgement) (fault : ProvisionFault) → Told task bytes judgement → judgement ≡ Fails fault → Shows task fault bytes
told_shows task bytes judgement fault t e = let t' = subst (Told task bytes) e t in t'.1

shows_by_reply : (task : Task) (step : Step) (fault : ProvisionFault) (reply : Reply) → HasEight task → step.op ≡ operation task → step.reply ≡ reply → Answers (operation task) reply → judgement task reply ≡ Fails fault → Reads (operation task) (Shows task fault) step
shows_by_reply task step fault (Bytes bytes) eight is gives answers e =
    (bytes.items, (is, gives), told_shows task bytes.items (judged task bytes.items) fault (told task bytes eight answers) e)
shows_by_reply task step fault Done eight is gives answers e = absurd (not_failed (operation task) fault e) where
  not_failed : (op : Op) (fault : ProvisionFault) → judged_done op ≡ Fails fault → ⊥
  not_failed (Store dev offset bytes) fault e = let h : true ≡ false = ap is_met e in cc
  not_failed (Fetch dev offset count) fault e = let h : None ≡ Some fault = ap fault_in e in cc
shows_by_reply task step fault Refused eight is gives answers e = let h : None ≡ Some fault = ap fault_in e in cc

-- the fault that a step shows of a task
pub shows : (task : Task) (step : Step) (before : History) (fault : ProvisionFault) → HasEight task → Answers step.op step.reply → fault_in (judgement_at task step before) ≡ Some fault → Reads (operation task) (Shows task fault) step
shows task step before fault eight fit e =
    let failed = fault_is (judgement_at task step before) fault e in
    let (is, there, judged_so) = judged_by task step before (Fails fault) (λ h. let c : Some fault ≡ None = ap fault_in h in cc) failed in
    shows_by_reply task step fault step.reply eight is refl (answers_of task step fit is) judged_so

-- one task shows the fault, or another one does
pub fault_else : (fault later : Option ProvisionFault) (shown : ProvisionFault) → or_else fault later ≡ Some shown → (fault ≡ Some shown) ⊎ (later ≡ Some shown)
fault_else None later shown e = inr e
fault_else (Some fault) later shown e = inl e

none_else : (fault later : Option ProvisionFault) → or_else fault later ≡ None → (fault ≡ None) × (later ≡ None)
none_else None later e = (refl, e)
none_else (Some fault) later e = cc

pub no_fault_of : (first : List Task) (task : Task) (rest : List Task) (step : Step) (before : History) → fault_by (first ++ task ∷ rest) step before ≡ None → fault_in (judgement_at task step before) ≡ None
no_fault_of [] task rest step before e = (none_else _ _ e).0
no_fault_of (other ∷ first) task rest step before e = no_fault_of first task rest step before (none_else _ _ e).1

pub met_as : (task : Task) (step : Step) (before : History) (judged : ReplyJudgement) → judgement_at task step before ≡ judged → (judged ≡ NotYet → ⊥) → fault_in (judgement_at task step before) ≡ None → meets task step before ≡ true
met_as task step before Met e decides none = ap is_met e
met_as task step before NotYet e decides none = absurd (decides refl)
met_as task step before (Fails fault) e decides none = let h : None ≡ Some fault = sym none ∙ ap fault_in e in cc
