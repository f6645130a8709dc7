-- What a task list was told of its own steps says of all steps of its procedure, selections and all.
use Rattle.std.proofs.Common.{◌≡◌, ◌≤◌, ◌<◌, ℕ, zero, suc, ◌+◌, ◌&&◌, ◌||◌, Bool, true, false, not, List, [], ◌∷◌, ◌++◌, length, take, drop, get_or, Option, Some, None, Err, refl, sym, ap, subst, ◌∙◌, inl, inr, if◌then◌else◌, nat_lt, add-one, arith}
use Rattle.std.specs.List.{slice_get}
use Rattle.std.proofs.lemmas.List.{drop_all, take_more}
use Rattle.std.proofs.lemmas.Option.{get_or_from_slice_get, slice_get_within}
use Rattle.std.specs.Option.{option_map}
use Rattle.std.proofs.lemmas.Bool.{ltb-true, ltb-false}
use Rattle.std.proofs.Math.Seq.{drop-cons}
use Rattle.bus_model.specs.declared.bus.BusFault.{BusFault}
use Rattle.bus_model.specs.declared.bus.BusFault.TheVariants.{TraceFull}
use Rattle.bus_model.specs.declared.operation.Op.{Op}
use Rattle.bus_model.specs.declared.operation.Reply.{Reply}
use Rattle.bus_model.specs.declared.operation.Step.{Step}
use Rattle.bus_model.specs.Operations.{Answers}
use Rattle.bus_model.specs.Runs.{IsFull, Seen}
use Rattle.bus_model.specs.SameOperation.{same_op}
use Rattle.paged_memory.specs.declared.page_addressing.PageAddressing.TheVariants.{BankAndPage}
use Rattle.paged_memory.specs.declared.page_addressing.KnownPage.{KnownPage}
use Rattle.paged_memory.specs.declared.page_addressing.KnownPage.TheVariants.{Unknown}
use Rattle.paged_memory.specs.KnownPages.{Tells, is_known, missing_page, selecting_first, wanted}
use Rattle.paged_memory.specs.PageAddressing.{is_read}
use Rattle.paged_memory.proofs.KnownPageLaws.{tells_nothing}
use Rattle.conversations.specs.declared.event.Event.TheVariants.{Made, Waited, Lacked, Asked}
use Rattle.conversations.specs.declared.next.Next.{Next}
use Rattle.conversations.specs.declared.next.Next.TheVariants.{Do, End}
use Rattle.conversations.specs.declared.within.Spent.{Spent}
use Rattle.conversations.specs.Budgets as budget
use Rattle.conversations.specs.Budgets.{HasSpent, next_within}
use Rattle.conversations.specs.Carried as carried
use Rattle.conversations.specs.Events.{Events, made, steps_of}
use Rattle.conversations.specs.Selecting.{AddsSelections, IsSelecting, next_on, since_refusal, trusted}
use Rattle.conversations.specs.Selecting as selecting
use Rattle.conversations.specs.declared.pausing.Patience.{Patience}
use Rattle.conversations.specs.declared.pausing.Timed.TheVariants.{InTime}
use Rattle.conversations.specs.declared.pausing.Timed.{Timed}
use Rattle.conversations.specs.Pauses.{AddsPauses, AreSpaced, EndsPausing, GoesOnPausing, is_refused}
use Rattle.conversations.proofs.PausingLaws.{ends_spaced, goes_on_spaced}
use Rattle.conversations.specs.Wanted.{IsReplyTo}
use Rattle.control_sets.specs.declared.procedures.task.Task.{Task}
use Rattle.control_sets.specs.declared.procedures.judgement.ReplyJudgement.{ReplyJudgement}
use Rattle.control_sets.specs.declared.procedures.judgement.ReplyJudgement.TheVariants.{Met, NotYet, Fails}
use Rattle.control_sets.specs.declared.fault.ProvisionFault.{ProvisionFault}
use Rattle.control_sets.specs.declared.fault.ProvisionFault.TheVariants.{Bus, GaveUp}
use Rattle.control_sets.specs.declared.procedures.procedure.TaskList.{TaskList}
use Rattle.control_sets.specs.declared.procedures.procedure.Work.{Work}
use Rattle.control_sets.specs.declared.procedures.procedure.Work.TheVariants.{Provisioning, Activation}
use Rattle.control_sets.specs.Pages.{History, is_open, may_select, read_selection, selection}
use Rattle.control_sets.specs.OutcomeAnswers.{most_steps}
use Rattle.control_sets.specs.PowerProgress.{answer_at, answer_of}
use Rattle.control_sets.specs.Procedures.{EachAnswers, EachIsNextBy, EndsFirst, HasEnded, HasEndedBy, IsOutcome, is_on, next_operation, operation_on, IsUnfinishedBy}
use Rattle.control_sets.specs.Progress.{EachIsWanted, Ends, Follows, GoesOn, IsAt, IsTold, Procedure, Standing, ToldProcedure, after_reply, hand_after, hand as hand_of, list_at, procedure_of, judged_at, needed_after, page_by, standing, task_at, tasks_of, told_at, WithOwn, wants, wants_by}
use Rattle.control_sets.specs.Judgements.{judgement}
use Rattle.control_sets.specs.Tasks.{operation, page_of}
use Rattle.control_sets.proofs.Doubts.{on_all}
use Rattle.control_sets.proofs.UnderWayLaws.{IsNext, UnderWay, all_met, begun, each_next, ends, goes_on, hand, moves, stays}
use Rattle.control_sets.proofs.Silence.{all_apart, earlier_silent, read_back_silent, rest_silent, selection_silent}
use Rattle.control_sets.proofs.TaskLaws.{judged_own, judged_read_back, judged_selection, not_reading_back, not_selecting}

-- one reply more
pub told_more : (old new : TaskList) (op : Op) (reply : Reply) (own : History) → new ≡ after_reply old reply → IsReplyTo (wants old) reply → wants old ≡ Do op → IsTold own old → IsTold (record { op = op; reply = reply } ∷ own) new
told_more old new op reply own is answers asked told =
    let tasks = tasks_of old.work in
    let step : Step = record { op = op; reply = reply } in
    subst (IsTold (step ∷ own)) (sym is) (record {
      stands = ap (λ (s : Standing). told_at (task_at tasks s.0 s.1) s reply) told.stands;
      each = (
        ap (λ (s : Standing). wants_by s.1 (task_at tasks s.0 s.1)) told.stands ∙ asked,
        subst (λ (n : Next (Option ProvisionFault)). IsReplyTo n reply) asked answers,
        told.each,
      );
    })

-- the steps end in the fault, and no fewer of them end in any
pub record HasFailed (doubts : Bool) (tasks : List Task) (history : History) (fault : ProvisionFault) : Type 0 where
  pub each : EachIsNextBy doubts tasks history
  pub answers : EachAnswers history
  pub ends : EndsFirst tasks history (Err fault)

abbrev pub HasCome : Bool → List Task → History → ℕ → Option ProvisionFault → Type 0
HasCome doubts tasks history met None = UnderWay doubts tasks (take met tasks) (drop met tasks) history
HasCome doubts tasks history met (Some fault) = HasFailed doubts tasks history fault

-- the tasks have come so far, and no read back is awaited where none is in hand
pub record Stands (doubts : Bool) (tasks : List Task) (history : History) (met : ℕ) (fault : Option ProvisionFault) : Type 0 where
  pub come : HasCome doubts tasks history met fault
  pub closed : task_at tasks met fault ≡ None → is_open (trusted doubts history) ≡ false

same_on : (page : Option ℕ) (before : History) → selecting.is_on BankAndPage page before ≡ true → is_on page before ≡ true
same_on None before on = refl
same_on (Some page) before on = on

module _ (doubts : Bool) (tasks : List Task) (apart : all_apart tasks ≡ true) (history : History) (step : Step) (answers : Answers step.op step.reply) (met : ℕ) (task : Task) (found : slice_get tasks met ≡ Some task)
    (come : UnderWay doubts tasks (take met tasks) (drop met tasks) history) where
  more : met < length tasks
  more = slice_get_within tasks met task found

  same : get_or tasks met task ≡ task
  same = get_or_from_slice_get tasks met task task found

  -- the task in hand is the first of the later ones
  later_is : drop met tasks ≡ task ∷ drop (suc met) tasks
  later_is = drop-cons tasks met task more ∙ ap (λ (t : Task). t ∷ drop (suc met) tasks) same

  pub under_way : UnderWay doubts tasks (take met tasks) (task ∷ drop (suc met) tasks) history
  under_way = subst (λ later. UnderWay doubts tasks (take met tasks) later history) later_is come

  split_apart : all_apart (take met tasks ++ task ∷ drop (suc met) tasks) ≡ true
  split_apart = subst (λ tasks. all_apart tasks ≡ true) under_way.split apart

  back : UnderWay doubts tasks (take met tasks) (task ∷ drop (suc met) tasks) (step ∷ history) → UnderWay doubts tasks (take met tasks) (drop met tasks) (step ∷ history)
  back u = subst (λ later. UnderWay doubts tasks (take met tasks) later (step ∷ history)) (sym later_is) u

  -- a selection, or its read back, leaves all as it is
  pub selects : IsSelecting BankAndPage (page_of task) step.op (trusted doubts history) → UnderWay doubts tasks (take met tasks) (drop met tasks) (step ∷ history)
  selects (inl (awaited, reads)) =
      let next : next_operation (trusted doubts history) task ≡ step.op = ap (λ (b : Bool). if b then read_selection else operation_on (trusted doubts history) task (page_of task)) awaited ∙ sym reads in
      back (stays tasks (take met tasks) (drop (suc met) tasks) task history step under_way
      (record { done = next; answers = answers; silent_before = read_back_silent step history (take met tasks) reads; silent_after = read_back_silent step history (drop (suc met) tasks) reads })
      (judged_read_back task step history reads))
  selects (inr (closed, (page, needs, unconfirmed, selected))) =
      let next : next_operation (trusted doubts history) task ≡ step.op =
      ap (λ (b : Bool). if b then read_selection else operation_on (trusted doubts history) task (page_of task)) closed
      ∙ ap (operation_on (trusted doubts history) task) needs
      ∙ ap (λ (b : Bool). if b then operation task else selection page) unconfirmed
      ∙ sym selected in
      back (stays tasks (take met tasks) (drop (suc met) tasks) task history step under_way
      (record { done = next; answers = answers; silent_before = selection_silent step history page (take met tasks) selected; silent_after = selection_silent step history page (drop (suc met) tasks) selected })
      (judged_selection task step history page selected))

  module _ (own : step.op ≡ operation task) (closed : is_open (trusted doubts history) ≡ false) (on : is_on (page_of task) (trusted doubts history) ≡ true) where
    on_page : (page : Option ℕ) → is_on page (trusted doubts history) ≡ true → operation_on (trusted doubts history) task page ≡ operation task
    on_page None on = refl
    on_page (Some page) on = ap (λ (b : Bool). if b then operation task else selection page) on

    is_next : IsNext doubts (take met tasks) (drop (suc met) tasks) task step history
    is_next = record {
      done = ap (λ (b : Bool). if b then read_selection else operation_on (trusted doubts history) task (page_of task)) closed ∙ on_page (page_of task) on ∙ sym own;
      answers = answers;
      silent_before = earlier_silent step history task own (take met tasks) (drop (suc met) tasks) split_apart;
      silent_after = rest_silent step history task own (take met tasks) (drop (suc met) tasks) split_apart;
    }

    there : is_on (page_of task) history ≡ true
    there = on_all doubts (page_of task) history on

    -- the task's own step moves the list on as its reply says
    pub works : (judged : ReplyJudgement) → judgement task step.reply ≡ judged → let s = judged_at (met, None) judged in HasCome doubts tasks (step ∷ history) s.0 s.1
    works NotYet e = back (stays tasks (take met tasks) (drop (suc met) tasks) task history step under_way is_next (judged_own task step history own there ∙ e))
    works Met e =
        let u = moves tasks (take met tasks) (drop (suc met) tasks) task history step under_way is_next (judged_own task step history own there ∙ e) in
        let earlier_is : take (met + 1) tasks ≡ take met tasks ++ task ∷ [] = take_more tasks met task more ∙ ap (λ (t : Task). take met tasks ++ t ∷ []) same in
        subst (λ (n : ℕ). UnderWay doubts tasks (take (met + 1) tasks) (drop n tasks) (step ∷ history)) (sym (add-one met))
        (subst (λ earlier. UnderWay doubts tasks earlier (drop (suc met) tasks) (step ∷ history)) (sym earlier_is) u)
    works (Fails fault) e = record {
      each = each_next tasks (take met tasks) (drop (suc met) tasks) task history step under_way is_next;
      answers = (answers, come.answers);
      ends = ends tasks (take met tasks) (drop (suc met) tasks) task history step under_way is_next fault (judged_own task step history own there ∙ e);
    }

    -- and leaves no read back awaited
    left_closed : is_open (step ∷ history) ≡ false
    left_closed =
        ap (λ (op : Op). may_select op || (same_op read_selection op && not (is_read step.reply))) own
        ∙ (λ i. not_selecting task i || (not_reading_back task i && not (is_read step.reply)))

    pub stays_closed : is_open (trusted doubts (step ∷ history)) ≡ false
    stays_closed = by doubts where
      unless : (refused : Bool) → is_open (if refused then [] else step ∷ since_refusal history) ≡ false
      unless true = refl
      unless false = left_closed

      by : (d : Bool) → is_open (trusted d (step ∷ history)) ≡ false
      by false = left_closed
      by true = unless (is_refused step.reply)

none_open : (doubts : Bool) → is_open (trusted doubts []) ≡ false
none_open true = refl
none_open false = refl

pub at_start : (doubts : Bool) (tasks : List Task) → Stands doubts tasks [] 0 None
at_start doubts tasks = record { come = begun doubts tasks; closed = λ none. none_open doubts }

-- one step more, for the selection
pub selected : (doubts : Bool) (tasks : List Task) → all_apart tasks ≡ true → (history : History) (step : Step) → Answers step.op step.reply → (met : ℕ) (fault : Option ProvisionFault) (found : Option Task) → task_at tasks met fault ≡ found →
    IsSelecting BankAndPage (page_by found) step.op (trusted doubts history) → Stands doubts tasks history met fault → Stands doubts tasks (step ∷ history) met fault
selected doubts tasks apart history step answers met fault None e (inl (awaited, reads)) at = let closed = at.closed e in absurd cc
selected doubts tasks apart history step answers met fault None e (inr (closed, (page, needs, unconfirmed, is))) at = absurd cc
selected doubts tasks apart history step answers met (Some fault) (Some task) e selecting at = absurd cc
selected doubts tasks apart history step answers met None (Some task) e selecting at = record {
  come = selects doubts tasks apart history step answers met task e at.come selecting;
  closed = λ none. absurd cc;
}

-- and one of a task
worked : (doubts : Bool) (tasks : List Task) → all_apart tasks ≡ true → (history : History) (step : Step) → Answers step.op step.reply → (met : ℕ) (fault : Option ProvisionFault) (found : Option Task) → task_at tasks met fault ≡ found →
    wants_by fault found ≡ Do step.op → is_open (trusted doubts history) ≡ false → selecting.is_on BankAndPage (page_by found) (trusted doubts history) ≡ true → Stands doubts tasks history met fault →
    let s = told_at found (met, fault) step.reply in Stands doubts tasks (step ∷ history) s.0 s.1
worked doubts tasks apart history step answers met fault None e asked closed on at = absurd cc
worked doubts tasks apart history step answers met (Some fault) (Some task) e asked closed on at = absurd cc
worked doubts tasks apart history step answers met None (Some task) e asked closed on at =
    let own : step.op ≡ operation task = cc in
    let there = same_on (page_of task) (trusted doubts history) on in
    record {
      come = works doubts tasks apart history step answers met task e at.come own closed there (judgement task step.reply) refl;
      closed = λ none. stays_closed doubts tasks apart history step answers met task e at.come own closed there;
    }

abbrev pub StandsBy : Bool → List Task → History → History → Type 0
StandsBy doubts tasks history own = Stands doubts tasks history (standing tasks own).0 (standing tasks own).1

-- the bridge: from own steps to all of them
pub stands : (doubts : Bool) (tasks : List Task) → all_apart tasks ≡ true → (events own : Events) → AddsSelections doubts false BankAndPage (λ own. needed_after tasks (steps_of own)) own events → EachIsWanted tasks (steps_of own) →
    StandsBy doubts tasks (steps_of events) (steps_of own)
stands doubts tasks apart [] own none each =
    subst (λ (own : Events). StandsBy doubts tasks [] (steps_of own)) (sym none) (at_start doubts tasks)
stands doubts tasks apart (Made step ∷ before) own (inl (selecting, none, answers, adds)) each =
    let at = stands doubts tasks apart before own adds each in
    selected doubts tasks apart (steps_of before) step answers (standing tasks (steps_of own)).0 (standing tasks (steps_of own)).1 (hand_after tasks (steps_of own)) refl selecting at
stands doubts tasks apart (Made step ∷ before) own (inr (inr (page, earlier, is, may, needs, shows, answers, adds))) each = absurd cc
stands doubts tasks apart (Made step ∷ before) own (inr (inl (earlier, is, closed, on, adds))) each =
    let wanted = subst (λ (own : Events). EachIsWanted tasks (steps_of own)) is each in
    let at = stands doubts tasks apart before earlier adds wanted.2 in
    let s = standing tasks (steps_of earlier) in
    subst (λ (own : Events). StandsBy doubts tasks (step ∷ steps_of before) (steps_of own)) (sym is)
    (worked doubts tasks apart (steps_of before) step wanted.1 s.0 s.1 (hand_after tasks (steps_of earlier)) refl wanted.0 closed on at)
stands doubts tasks apart (Waited time ∷ before) own (earlier, is, adds) each =
    let wanted = subst (λ (own : Events). EachIsWanted tasks (steps_of own)) is each in
    subst (λ (own : Events). StandsBy doubts tasks (steps_of before) (steps_of own)) (sym is) (stands doubts tasks apart before earlier adds wanted)
stands doubts tasks apart (Lacked page ∷ before) own none each = absurd none
stands doubts tasks apart (Asked number ∷ before) own (earlier, is, adds) each =
    let wanted = subst (λ (own : Events). EachIsWanted tasks (steps_of own)) is each in
    subst (λ (own : Events). StandsBy doubts tasks (steps_of before) (steps_of own)) (sym is) (stands doubts tasks apart before earlier adds wanted)

-- ---- the end

past : (tasks : List Task) (met : ℕ) → slice_get tasks met ≡ None → length tasks ≤ met
past [] met e = omega arith
past (task ∷ tasks) zero e = cc
past (task ∷ tasks) (suc met) e = let all = past tasks met e in omega (arith, all)

module _ (doubts : Bool) (tasks : List Task) (history : History) (few : length history ≤ most_steps) where
  pub ended_at : (met : ℕ) (fault : Option ProvisionFault) → task_at tasks met fault ≡ None → Stands doubts tasks history met fault → HasEndedBy doubts tasks history (answer_at (length history) (Some fault))
  ended_at met None e at =
      let u : UnderWay doubts tasks (take met tasks) [] history = subst (λ later. UnderWay doubts tasks (take met tasks) later history) (drop_all met tasks (past tasks met e)) at.come in
      record { each = u.each; answers = u.answers; few = few; answered = inl (all_met tasks (take met tasks) history u) }
  ended_at met (Some fault) e at = record { each = at.come.each; answers = at.come.answers; few = few; answered = inl at.come.ends }

-- the task in hand is the first of the later ones
begins : {doubts : Bool} (tasks : List Task) (history : History) (met : ℕ) (task : Task) → slice_get tasks met ≡ Some task → UnderWay doubts tasks (take met tasks) (drop met tasks) history → UnderWay doubts tasks (take met tasks) (task ∷ drop (suc met) tasks) history
begins {doubts} tasks history met task found come =
    subst (λ later. UnderWay doubts tasks (take met tasks) later history) (drop-cons tasks met task (slice_get_within tasks met task found) ∙ ap (λ (t : Task). t ∷ drop (suc met) tasks) (get_or_from_slice_get tasks met task task found)) come

pub goes_on_at : {doubts : Bool} (tasks : List Task) (history : History) (met : ℕ) (fault : Option ProvisionFault) (task : Task) → all_apart tasks ≡ true → task_at tasks met fault ≡ Some task → Stands doubts tasks history met fault → IsUnfinishedBy doubts tasks history
goes_on_at tasks history met (Some fault) task apart e at = absurd cc
goes_on_at tasks history met None task apart e at =
    let u = begins tasks history met task e at.come in
    record { each = u.each; answers = u.answers; goes_on = goes_on tasks (take met tasks) (drop (suc met) tasks) task history u }

pub works_apart : (work : Work) → all_apart (tasks_of work) ≡ true
works_apart (Provisioning control lanes) = refl
works_apart (Activation control lanes) = refl

going_on : (doubts : Bool) (work : Work) (events : Events) → GoesOn doubts work events → IsUnfinishedBy doubts (tasks_of work) (steps_of events)
going_on doubts work events (own, adds, on) =
    let tasks = tasks_of work in
    let s = standing tasks (steps_of own) in
    goes_on_at tasks (steps_of events) s.0 s.1 on.task (works_apart work) on.some (stands doubts tasks (works_apart work) events own adds on.each)

ended_in : (doubts : Bool) (work : Work) (steps : ℕ) (events : Events) (end : Option (Option ProvisionFault)) → steps ≡ length (steps_of events) → length (steps_of events) ≤ most_steps → budget.HasEnded most_steps (GoesOn doubts work) (Ends doubts work) events end →
    HasEndedBy doubts (tasks_of work) (steps_of events) (answer_at steps end)
ended_in doubts work steps events None counted few (all, on) =
    let at = going_on doubts work events on in
    record { each = at.each; answers = at.answers; few = few; answered = inr (record { fault = refl; all = all; goes_on = at.goes_on }) }
ended_in doubts work steps events (Some fault) counted few (own, adds, ends) =
    let tasks = tasks_of work in
    let s = standing tasks (steps_of own) in
    let ended = ended_at doubts tasks (steps_of events) few s.0 s.1 ends.none (stands doubts tasks (works_apart work) events own adds ends.each) in
    subst (λ (steps : ℕ). HasEndedBy doubts tasks (steps_of events) (answer_at steps (Some fault))) (sym counted)
    (subst (λ (fault : Option ProvisionFault). HasEndedBy doubts tasks (steps_of events) (answer_at (length (steps_of events)) (Some fault))) ends.fault ended)

pub spent_is : (work : Work) (events : Events) (spent : Spent (Option ProvisionFault)) → HasSpent most_steps (GoesOn false work) (Ends false work) events spent → HasEnded (tasks_of work) (steps_of events) (answer_of spent)
spent_is work events spent has = ended_in false work spent.steps events spent.end has.counted has.few has.ended

-- and on a bus
module _ {S : Type 0} (work : Work) (procedure : Procedure) (after : Seen S) (events : Events) (is : procedure ≡ procedure_of (list_at work (0, None)) Unknown 0) where
  abbrev Spends : Procedure → Spent (Option ProvisionFault) → Type 0
  Spends p spent = HasSpent p.limit (GoesOn p.conversation.doubts p.conversation.conversation.work) (Ends p.conversation.doubts p.conversation.conversation.work) events spent

  abbrev Stops : Procedure → Type 0 → Type 0
  Stops p fails = carried.RunsOut p.limit (GoesOn p.conversation.doubts p.conversation.conversation.work) fails events

  pub carried_out : (spent : Spent (Option ProvisionFault)) → Spends procedure spent → IsOutcome (tasks_of work) after (steps_of events) (answer_of spent)
  carried_out spent has = inl (spent_is work events spent (subst (λ (p : Procedure). Spends p spent) is has))

  pub filled : (fault : BusFault) (same : Type 0) → Stops procedure ((fault ≡ TraceFull) × IsFull after × same) → IsOutcome (tasks_of work) after (steps_of events) (Err (Bus fault))
  filled fault same out =
      let out' = subst (λ (p : Procedure). Stops p ((fault ≡ TraceFull) × IsFull after × same)) is out in
      let at = going_on false work events out'.goes_on in
      inr (record { each = at.each; answers = at.answers; fault = ap (λ (f : BusFault). Err (Bus f)) out'.failed.0; full = out'.failed.1; fewer = out'.fewer; goes_on = at.goes_on })

-- ---- a procedure that is driven by hand

selected_first : (selected : KnownPage) (task : Task) (history : History) (page : Option ℕ) → Tells BankAndPage selected history → operation_on history task page ≡ selecting_first BankAndPage (operation task) (missing_page selected page)
selected_first selected task history None tells = refl
selected_first selected task history (Some page) tells =
    ap (λ (b : Bool). if b then operation task else selection page) (tells.known page)
    ∙ elim (is_known selected page) as (λ b. (if b then operation task else selection page) ≡ selecting_first BankAndPage (operation task) (if b then None else Some page)) [ true ↦ refl | false ↦ refl ]

-- what is asked for by what is known comes next
next_made : (selected : KnownPage) (task : Task) (history : History) → Tells BankAndPage selected history → next_operation history task ≡ wanted BankAndPage selected (page_of task) (operation task)
next_made selected task history tells = (λ i. if tells.awaited i then read_selection else selected_first selected task history (page_of task) tells i)

module _ (tasks : List Task) (apart : all_apart tasks ≡ true) (history : History) (steps : ℕ) (count : length history ≡ steps) (few : steps ≤ most_steps) (selected : KnownPage) (tells : Tells BankAndPage selected history) where
  follows_by : (met : ℕ) (task : Task) → slice_get tasks met ≡ Some task → Stands false tasks history met None → (fewer : Bool) → nat_lt steps most_steps ≡ fewer →
      Follows tasks history (if fewer then Do (wanted BankAndPage selected (page_of task) (operation task)) else End (record { steps = steps; end = None }))
  follows_by met task found at true e =
      let on = goes_on_at tasks history met None task apart found at in
      let hand_is = hand tasks (take met tasks) (drop (suc met) tasks) task history (begins tasks history met task found at.come) in
      record {
        each = on.each;
        answers = on.answers;
        next = ap (option_map (next_operation history)) hand_is ∙ ap (λ op. Some op) (next_made selected task history tells);
        goes_on = on.goes_on;
        fewer = omega (arith, count, ltb-true _ _ e);
      }
  follows_by met task found at false e =
      let on = goes_on_at tasks history met None task apart found at in
      record {
        each = on.each;
        answers = on.answers;
        few = omega (arith, count, few);
        answered = inr (record { fault = refl; all = omega (arith, count, few, ltb-false _ _ e); goes_on = on.goes_on });
      }

  follows_at : (met : ℕ) (fault : Option ProvisionFault) (found : Option Task) → task_at tasks met fault ≡ found → Stands false tasks history met fault →
      Follows tasks history (next_within steps most_steps (next_on BankAndPage selected (page_by found) (wants_by fault found)))
  follows_at met fault None e at =
      subst (λ (n : ℕ). HasEnded tasks history (answer_at n (Some fault))) count (ended_at false tasks history (omega (arith, count, few)) met fault e at)
  follows_at met (Some fault) (Some task) e at = absurd cc
  follows_at met None (Some task) e at = follows_by met task e at (nat_lt steps most_steps) refl

pub begun_at : (work : Work) → IsAt (tasks_of work) [] (procedure_of (list_at work (0, None)) Unknown 0)
begun_at work = record {
  has = refl;
  limit = refl;
  trusts = refl;
  events = [];
  made = refl;
  told = (((λ none. refl, (tells_nothing BankAndPage, record { was = λ page e. absurd cc; is = λ may. absurd cc })), ([], refl, record { stands = refl; each = tt })), refl, omega arith);
}

follows_in : (list : TaskList) (selected : KnownPage) (steps : ℕ) (events : Events) → Tells BankAndPage selected (steps_of events) → WithOwn false list.work (λ own. IsTold (steps_of own) list) events →
    length (steps_of events) ≡ steps → steps ≤ most_steps → Follows (tasks_of list.work) (steps_of events) (next_within steps most_steps (next_on BankAndPage selected (page_by (hand_of list)) (wants list)))
follows_in list selected steps events tells (own, adds, told) count few =
    let tasks = tasks_of list.work in
    let at = stands false tasks (works_apart list.work) events own adds told.each in
    follows_at tasks (works_apart list.work) (steps_of events) steps count few selected tells list.met list.fault (hand_of list) refl
    (subst (λ (s : Standing). Stands false tasks (steps_of events) s.0 s.1) told.stands at)

abbrev ToldAt : TaskList → KnownPage → Events → Bool → Type 0
ToldAt list selected events doubts = Tells BankAndPage selected (trusted doubts (steps_of events)) × WithOwn doubts list.work (λ own. IsTold (steps_of own) list) events

pub follows : (tasks : List Task) (history : History) (procedure : Procedure) → IsAt tasks history procedure →
    Follows tasks history (next_within procedure.steps procedure.limit (next_on BankAndPage procedure.conversation.selection (page_by (hand_of procedure.conversation.conversation)) (wants procedure.conversation.conversation)))
follows tasks history procedure at =
    let list = procedure.conversation.conversation in
    let wanted_by : ℕ → Next (Spent (Option ProvisionFault)) = λ limit. next_within procedure.steps limit (next_on BankAndPage procedure.conversation.selection (page_by (hand_of list)) (wants list)) in
    let few = subst (λ (n : ℕ). procedure.steps ≤ n) at.limit at.told.2 in
    let told : ToldAt list procedure.conversation.selection at.events false = subst (ToldAt list procedure.conversation.selection at.events) at.trusts (at.told.0.0.1.0, at.told.0.1) in
    let here = follows_in list procedure.conversation.selection procedure.steps at.events told.0 told.1 at.told.1 few in
    subst (λ (tasks : List Task). Follows tasks history (wanted_by procedure.limit)) at.has
    (subst (λ (history : History). Follows (tasks_of list.work) history (wanted_by procedure.limit)) at.made
    (subst (λ (n : ℕ). Follows (tasks_of list.work) (steps_of at.events) (wanted_by n)) (sym at.limit) here))

-- one step more
pub told_step : (tasks : List Task) (history : History) (old new : Procedure) (op : Op) (reply : Reply) →
    ◌≡◌ {A = ℕ × (Bool × Work)} (new.limit, (new.conversation.doubts, new.conversation.conversation.work)) (old.limit, (old.conversation.doubts, old.conversation.conversation.work)) →
    ((events : Events) → ToldProcedure events old → ToldProcedure (made op reply ∷ events) new) → IsAt tasks history old → IsAt tasks (record { op = op; reply = reply } ∷ history) new
told_step tasks history old new op reply same takes at = record {
  has = ap (λ (t : ℕ × (Bool × Work)). tasks_of t.1.1) same ∙ at.has;
  limit = ap (λ (t : ℕ × (Bool × Work)). t.0) same ∙ at.limit;
  trusts = ap (λ (t : ℕ × (Bool × Work)). t.1.0) same ∙ at.trusts;
  events = made op reply ∷ at.events;
  made = ap (λ (history : History). record { op = op; reply = reply } ∷ history) at.made;
  told = takes at.events at.told;
}

-- ---- a procedure on a real bus

-- with pauses between them, the steps are those of its own events
pub steps_paused : (patience : Patience) (own events : Events) (wanted : Option Op) (due : Bool) (idle : ℕ) → AddsPauses patience own events wanted due idle → steps_of own ≡ steps_of events
steps_paused patience own [] wanted due idle (is, none, nothing) = ap steps_of is
steps_paused patience own (Made step ∷ before) wanted due idle (earlier, was, is, adds, is_due, counts) = ap steps_of is ∙ ap (λ (history : History). step ∷ history) (steps_paused patience earlier before (Some step.op) false was adds)
steps_paused patience own (Waited time ∷ before) wanted due idle (inl (op, was, is, adds, few, long, none, counts)) = steps_paused patience own before wanted true was adds
steps_paused patience own (Waited time ∷ before) wanted due idle (inr (earlier, asked, was, is, adds, long, none)) = ap steps_of is ∙ steps_paused patience earlier before None was idle adds
steps_paused patience own (Lacked page ∷ before) wanted due idle none = absurd none
steps_paused patience own (Asked number ∷ before) wanted due idle (earlier, asked, is, adds) = ap steps_of is ∙ steps_paused patience earlier before asked due idle adds

-- it has ended in time, as it may without pauses
pub ended_in_time : (patience : Patience) (work : Work) (events : Events) (fault : Option ProvisionFault) → length (steps_of events) ≤ most_steps → EndsPausing patience (GoesOn true work) (Ends true work) events (InTime fault) →
    HasEndedBy true (tasks_of work) (steps_of events) (answer_at (length (steps_of events)) (Some fault))
ended_in_time patience work events fault few (due, idle, (own, adds, ended)) =
    let same = steps_paused patience own events None due idle adds in
    let fits : length (steps_of own) ≤ most_steps = subst (λ (history : History). length history ≤ most_steps) (sym same) few in
    subst (λ (history : History). HasEndedBy true (tasks_of work) history (answer_at (length history) (Some fault))) same (ended_in true work (length (steps_of own)) own (Some fault) refl fits ended)

-- it was stopped in the middle
pub stopped : (patience : Patience) (work : Work) (own events : Events) (wanted : Option Op) (due : Bool) (idle : ℕ) → AddsPauses patience own events wanted due idle → GoesOn true work own →
    IsUnfinishedBy true (tasks_of work) (steps_of events)
stopped patience work own events wanted due idle adds on =
    subst (λ (history : History). IsUnfinishedBy true (tasks_of work) history) (steps_paused patience own events wanted due idle adds) (going_on true work own on)

-- or made as many steps as may be
pub given_up : (patience : Patience) (work : Work) (events : Events) → length (steps_of events) ≡ most_steps → GoesOnPausing patience (GoesOn true work) events → HasEndedBy true (tasks_of work) (steps_of events) (Err GaveUp)
given_up patience work events all (op, idle, (own, adds, on)) =
    let at = stopped patience work own events (Some op) false idle adds on in
    record { each = at.each; answers = at.answers; few = omega (arith, all); answered = inr (record { fault = refl; all = all; goes_on = at.goes_on }) }

-- however it ended
pub patiently_spaced : (patience : Patience) (work : Work) (own : Events) (end : Option (Timed (Option ProvisionFault))) →
    budget.HasEnded most_steps (GoesOnPausing patience (GoesOn true work)) (EndsPausing patience (GoesOn true work) (Ends true work)) own end → AreSpaced patience.pause own
patiently_spaced patience work own None (all, on) = goes_on_spaced patience (GoesOn true work) own on
patiently_spaced patience work own (Some end) ended = ends_spaced patience (GoesOn true work) (Ends true work) own end ended
