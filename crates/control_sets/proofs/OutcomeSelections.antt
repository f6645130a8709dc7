-- Selections of pages by a procedure, in the words of the outcomes; and what is known at each of its steps.
use Rattle.std.proofs.Common.{◌≡◌, ◌⊎◌, ℕ, ◌&&◌, ◌||◌, Bool, true, false, if◌then◌else◌, not, List, [], ◌∷◌, Some, None, refl, sym, ap, subst, ◌∙◌, inl, inr, arith}
use Rattle.std.proofs.lemmas.Bool.{and_parts, or_cases}
use Rattle.bus_model.specs.declared.operation.Op.{Op}
use Rattle.bus_model.specs.declared.operation.Reply.{Reply}
use Rattle.bus_model.specs.declared.operation.Reply.TheVariants.{Bytes, Done, Refused}
use Rattle.bus_model.specs.declared.operation.Step.{Step}
use Rattle.bus_model.specs.Operations.{Answers}
use Rattle.conversations.specs.Pauses.{is_refused}
use Rattle.conversations.specs.Selecting.{since_refusal, trusted}
use Rattle.control_sets.specs.declared.procedures.task.Task.{Task}
use Rattle.control_sets.specs.declared.procedures.task.Task.TheVariants.{FindReady, AwaitDeactivated, AwaitApplied, CheckActive, AwaitActivated}
use Rattle.bus_model.specs.SameOperation.{same_op}
use Rattle.paged_memory.specs.declared.page_addressing.PageAddressing.TheVariants.{BankAndPage}
use Rattle.paged_memory.specs.PageAddressing.{is_read, leaves_open}
use Rattle.paged_memory.proofs.KnownPageLaws.{same_page}
use Rattle.control_sets.specs.Pages.{EachStep, History, is_page_confirmed, is_open, may_select, read_selection, selection}
use Rattle.control_sets.specs.Tasks.{operation, page_of}
use Rattle.control_sets.specs.Procedures.{EachAnswers, EachGoesOn}
use Rattle.control_sets.specs.OutcomeSteps.{IsAmong, Newest}
use Rattle.control_sets.specs.OutcomeOperations.{AwaitsReadBack, IsSelection, ReadsSelectionsBackBy, control_page, read_module_state, status_page}
use Rattle.control_sets.proofs.OutcomeWords.{contradicts, each_from}
use Rattle.bus_model.proofs.SameOperations.{apart, ops_are}
use Rattle.control_sets.proofs.OutcomeTurns.{Selects, Turn}
use Rattle.control_sets.proofs.TaskLaws.{no_read_back, no_selection, not_selecting}

-- what is known at a step
pub record Here (doubts : Bool) (tasks : List Task) (step : Step) (before : History) : Type 0 where
  pub turn : Turn doubts tasks step before
  pub turns : EachStep (Turn doubts tasks) before
  pub fit : Answers step.op step.reply
  pub fits : EachAnswers before
  pub goes_on : EachGoesOn tasks before

pub each_here : {doubts : Bool} (tasks : List Task) (step : Step) (history : History) → EachStep (Turn doubts tasks) (step ∷ history) → EachAnswers (step ∷ history) → EachGoesOn tasks history → EachStep (Here doubts tasks) (step ∷ history)
each_here tasks step [] turns fits on = (record { turn = turns.0; turns = turns.1; fit = fits.0; fits = fits.1; goes_on = on }, tt)
each_here tasks step (last ∷ before) turns fits on =
    (record { turn = turns.0; turns = turns.1; fit = fits.0; fits = fits.1; goes_on = on }, each_here tasks last before turns.1 fits.1 on.1)

-- ---- the pages of tasks

some_is : (x y : ℕ) → Some x ≡ Some y → x ≡ y
some_is x y e = cc

pub page_is : (task : Task) (page : ℕ) → page_of task ≡ Some page → (page ≡ control_page) ⊎ (page ≡ status_page)
page_is FindReady page e = let none : None ≡ Some page = e in cc
page_is (AwaitDeactivated lanes) page e = inr (sym (some_is status_page page e))
page_is (AwaitApplied lanes) page e = inr (sym (some_is status_page page e))
page_is (CheckActive control) page e = inr (sym (some_is status_page page e))
page_is (AwaitActivated lanes) page e = inr (sym (some_is status_page page e))
page_is _ page e = inl (sym (some_is control_page page e))

pub no_page : {page : ℕ} → None ≡ Some page → ⊥
no_page e = cc

-- a selection is one of the operations that need no page
pub among_lower : (task : Task) (op : Op) (before : History) → Selects task op before → IsAmong (read_module_state ∷ read_selection ∷ selection control_page ∷ selection status_page ∷ []) op
among_lower task op before selects = by (page_is task selects.page selects.needs) where
  by : (selects.page ≡ control_page) ⊎ (selects.page ≡ status_page) → IsAmong (read_module_state ∷ read_selection ∷ selection control_page ∷ selection status_page ∷ []) op
  by (inl e) = inr (inr (inl (selects.is ∙ ap selection e)))
  by (inr e) = inr (inr (inr (inl (selects.is ∙ ap selection e))))

pub other_page : Some status_page ≡ Some control_page → ⊥
other_page e = let h : 17 ≡ 16 = some_is status_page control_page e in omega (arith, h)

-- ---- selections are read back

pub selection_of : (op : Op) (page : ℕ) → op ≡ selection page → (page ≡ control_page) ⊎ (page ≡ status_page) → (op ≡ selection control_page) ⊎ (op ≡ selection status_page)
selection_of op page is (inl e) = inl (is ∙ ap selection e)
selection_of op page is (inr e) = inr (is ∙ ap selection e)

selecting : {doubts : Bool} (tasks : List Task) (step : Step) (before : History) → Turn doubts tasks step before → may_select step.op ≡ true → IsSelection step
selecting tasks step before turn e = elim turn.does as (λ _. IsSelection step) [
  | inl reads ↦ absurd (contradicts e (ap may_select reads.is))
  | inr (inl selects) ↦ selection_of step.op selects.page selects.is (page_is turn.task selects.page selects.needs)
  | inr (inr works) ↦ absurd (contradicts e (ap may_select works.is ∙ not_selecting turn.task))
]

leaves : (step : Step) → IsSelection step → leaves_open BankAndPage step ≡ true
leaves step (inl e) = ap (λ (op : Op). may_select op || (same_op read_selection op && not (is_read step.reply))) e
leaves step (inr e) = ap (λ (op : Op). may_select op || (same_op read_selection op && not (is_read step.reply))) e

pub open_reads : {doubts : Bool} (tasks : List Task) (step : Step) (before : History) → Turn doubts tasks step before → is_open (trusted doubts before) ≡ true → step.op ≡ read_selection
open_reads tasks step before turn e = elim turn.does as (λ _. step.op ≡ read_selection) [
  | inl reads ↦ reads.is
  | inr (inl selects) ↦ absurd (contradicts e selects.closed)
  | inr (inr works) ↦ absurd (contradicts e works.closed)
]

leaves_unread : (step : Step) → AwaitsReadBack step → leaves_open BankAndPage step ≡ true
leaves_unread step (inl selects) = leaves step selects
leaves_unread step (inr none) = λ i. may_select (none.0 i) || (same_op read_selection (none.0 i) && not (is_read (none.1 i)))

newest_opens : (history : History) → Newest AwaitsReadBack history → is_open history ≡ true
newest_opens [] newest = absurd newest
newest_opens (last ∷ before) newest = leaves_unread last newest

reads_next : {doubts : Bool} (tasks : List Task) (step : Step) (before : History) → Turn doubts tasks step before → Newest AwaitsReadBack (trusted doubts before) → step.op ≡ read_selection
reads_next {doubts} tasks step before turn newest = open_reads tasks step before turn (newest_opens (trusted doubts before) newest)

refused : (reply : Reply) → Answers read_selection reply → not (is_read reply) ≡ true → reply ≡ Refused
refused (Bytes bytes) answers e = cc
refused Done answers e = absurd answers
refused Refused answers e = refl

awaits : {doubts : Bool} (tasks : List Task) (last : Step) (before : History) → Turn doubts tasks last before → Answers last.op last.reply → leaves_open BankAndPage last ≡ true → AwaitsReadBack last
awaits tasks last before turn fit e = elim (or_cases (may_select last.op) (same_op read_selection last.op && not (is_read last.reply)) e) as (λ _. AwaitsReadBack last) [
  | inl selects ↦ inl (selecting tasks last before turn selects)
  | inr unread ↦
      let parts = and_parts _ _ unread in
      let op : last.op ≡ read_selection = sym (ops_are read_selection last.op parts.0) in
      inr (op, refused last.reply (subst (λ (op : Op). Answers op last.reply) op fit) parts.1)
]

open_awaits : (doubts : Bool) (tasks : List Task) (before : History) → EachStep (Turn doubts tasks) before → EachAnswers before → is_open (trusted doubts before) ≡ true → Newest AwaitsReadBack (trusted doubts before)
open_awaits false tasks [] turns fits e = cc
open_awaits false tasks (last ∷ before) turns fits e = awaits tasks last before turns.0 fits.0 e
open_awaits true tasks [] turns fits e = cc
open_awaits true tasks (last ∷ before) turns fits e = by (is_refused last.reply) e where
  by : (b : Bool) → is_open (if b then [] else last ∷ since_refusal before) ≡ true → Newest AwaitsReadBack (if b then [] else last ∷ since_refusal before)
  by true e = cc
  by false e = awaits tasks last before turns.0 fits.0 e

reads_only : {doubts : Bool} (tasks : List Task) (step : Step) (before : History) → Here doubts tasks step before → step.op ≡ read_selection → Newest AwaitsReadBack (trusted doubts before)
reads_only {doubts} tasks step before here is = elim here.turn.does as (λ _. Newest AwaitsReadBack (trusted doubts before)) [
  | inl reads ↦ open_awaits doubts tasks before here.turns here.fits reads.awaited
  | inr (inl selects) ↦ absurd (apart (selection selects.page) read_selection refl (sym selects.is ∙ is))
  | inr (inr works) ↦ absurd (apart (operation here.turn.task) read_selection (no_read_back here.turn.task) (sym works.is ∙ is))
]

pub reads_back : {doubts : Bool} (tasks : List Task) (history : History) → EachStep (Here doubts tasks) history → ReadsSelectionsBackBy doubts history
reads_back {doubts} tasks history each = record {
  at_once = each_from (Here doubts tasks) (λ step before. Newest AwaitsReadBack (trusted doubts before) → step.op ≡ read_selection) history (λ step before here newest. reads_next tasks step before here.turn newest) each;
  only = each_from (Here doubts tasks) (λ step before. step.op ≡ read_selection → Newest AwaitsReadBack (trusted doubts before)) history (λ step before here is. reads_only tasks step before here is) each;
}

-- ---- the page that is selected is the one of the task in hand

pub record Missing (tasks : List Task) (page : ℕ) (turn_task : Task) (before : History) : Type 0 where
  pub needs : page_of turn_task ≡ Some page
  pub missing : is_page_confirmed page before ≡ false

pub missing_page : {doubts : Bool} (tasks : List Task) (page : ℕ) (step : Step) (before : History) (turn : Turn doubts tasks step before) → step.op ≡ selection page → Missing tasks page turn.task (trusted doubts before)
missing_page {doubts} tasks page step before turn is = elim turn.does as (λ _. Missing tasks page turn.task (trusted doubts before)) [
  | inl reads ↦ absurd (apart (selection page) read_selection refl (sym is ∙ reads.is))
  | inr (inl selects) ↦
      let same = same_page BankAndPage selects.page page (sym selects.is ∙ is) in
      record { needs = selects.needs ∙ ap (λ (page : ℕ). Some page) same; missing = ap (λ (page : ℕ). is_page_confirmed page (trusted doubts before)) (sym same) ∙ selects.missing }
  | inr (inr works) ↦ absurd (apart (operation turn.task) (selection page) (no_selection turn.task page) (sym works.is ∙ is))
]
