-- No task's operation is on the page selection, and a step is judged by its reply on its page alone.
use Rattle.std.proofs.Common.{◌≡◌, ℕ, ◌&&◌, Bool, true, false, refl, sym, ap, ◌∙◌, if◌then◌else◌}
use Rattle.control_sets.specs.declared.procedures.task.Task.{Task}
use Rattle.control_sets.specs.declared.procedures.task.Task.TheVariants.{FindReady}
use Rattle.bus_model.specs.SameOperation.{same_op}
use Rattle.bus_model.proofs.SameOperations.{ops_same}
use Rattle.control_sets.specs.Pages.{History, may_select, read_selection, selection}
use Rattle.bus_model.specs.declared.operation.Step.{Step}
use Rattle.control_sets.specs.declared.procedures.judgement.ReplyJudgement.TheVariants.{NotYet}
use Rattle.control_sets.specs.Procedures.{is_on, judgement_at}
use Rattle.control_sets.specs.Judgements.{judgement}
use Rattle.control_sets.specs.Tasks.{operation, page_of}

pub not_selecting : (task : Task) → may_select (operation task) ≡ false
not_selecting FindReady = refl
not_selecting _ = refl

pub not_reading_back : (task : Task) → same_op read_selection (operation task) ≡ false
not_reading_back FindReady = refl
not_reading_back _ = refl

pub no_read_back : (task : Task) → same_op (operation task) read_selection ≡ false
no_read_back FindReady = refl
no_read_back _ = refl

pub no_selection : (task : Task) (page : ℕ) → same_op (operation task) (selection page) ≡ false
no_selection FindReady page = refl
no_selection _ page = refl

-- a step with another operation says nothing of the task
pub not_said : (task : Task) (step : Step) (before : History) → same_op (operation task) step.op ≡ false → judgement_at task step before ≡ NotYet
not_said task step before other = ap (λ (b : Bool). if b && is_on (page_of task) before then judgement task step.reply else NotYet) other

-- its own operation on its page is judged by the reply
pub judged_own : (task : Task) (step : Step) (before : History) → step.op ≡ operation task → is_on (page_of task) before ≡ true → judgement_at task step before ≡ judgement task step.reply
judged_own task step before e on = (λ i. if (ops_same (operation task) step.op (sym e)) i && on i then judgement task step.reply else NotYet)

pub judged_selection : (task : Task) (step : Step) (before : History) (page : ℕ) → step.op ≡ selection page → judgement_at task step before ≡ NotYet
judged_selection task step before page e = not_said task step before (ap (same_op (operation task)) e ∙ no_selection task page)

pub judged_read_back : (task : Task) (step : Step) (before : History) → step.op ≡ read_selection → judgement_at task step before ≡ NotYet
judged_read_back task step before e = not_said task step before (ap (same_op (operation task)) e ∙ no_read_back task)
