-- The numbers of a procedure are those of that procedure.
use Rattle.std.proofs.Common.{◌≡◌, ◌<◌, ◌≤◌, ◌+◌, ℕ, ◌&&◌, Bool, true, false, List, [], ◌∷◌, length, nat_le, Option, Some, None, refl, sym, subst, lt-ltb, arith}
use Rattle.std.specs.Prelude.{slice_index}
use Rattle.std.proofs.lemmas.Bool.{and_from, le-leb}
use Rattle.std.proofs.lemmas.Option.{slice_get_within}
use Rattle.bus_model.specs.declared.bus.BusFault.TheVariants.{TraceFull}
use Rattle.bus_model.specs.declared.operation.Op.{Op}
use Rattle.bus_model.specs.declared.operation.Op.TheVariants.{Fetch, Store}
use Rattle.bus_model.specs.declared.operation.Reply.{Reply}
use Rattle.bus_model.specs.declared.operation.Reply.TheVariants.{Bytes, Done, Refused}
use Rattle.conversations.specs.Events.{Events, steps_of}
use Rattle.field_tables.specs.declared.field.Field.TheVariants as fields
use Rattle.field_tables.specs.declared.table.cmis.CmisField.TheVariants as cmis
use Rattle.field_tables.specs.FieldValues.{number_in_byte}
use Rattle.field_tables.specs.LaneSets.{Lanes, every_lane}
use Rattle.datapath_states.specs.declared.state.PathState.{PathState}
use Rattle.datapath_states.specs.declared.state.PathState.TheVariants.{Activated, Deactivated}
use Rattle.datapath_states.specs.Lanes.{codes_in}
use Rattle.datapath_states.specs.StateCodes.{code_of}
use Rattle.module_states.specs.declared.state.ModuleState.{ModuleState as State}
use Rattle.module_states.specs.declared.state.ModuleState.TheVariants.{Ready}
use Rattle.module_states.specs.Codes.{state_at as module_state_at}
use Rattle.paged_memory.specs.declared.page_addressing.KnownPage.{KnownPage}
use Rattle.control_sets.specs.declared.fault.ProvisionFault.{ProvisionFault}
use Rattle.control_sets.specs.declared.fault.ProvisionFault.TheVariants.{StagedDiffers, ActiveDiffers, Bus}
use Rattle.control_sets.specs.declared.procedures.judgement.ReplyJudgement.{ReplyJudgement}
use Rattle.control_sets.specs.declared.procedures.judgement.ReplyJudgement.TheVariants.{Met, NotYet, Fails}
use Rattle.control_sets.specs.declared.procedures.procedure.saved.SavedProcedure.{SavedProcedure}
use Rattle.control_sets.specs.declared.procedures.procedure.TaskList.{TaskList}
use Rattle.control_sets.specs.declared.procedures.procedure.Work.{Work}
use Rattle.control_sets.specs.declared.procedures.task.Task.{Task}
use Rattle.control_sets.specs.declared.procedures.task.Task.TheVariants.{FindReady, AwaitDeactivated, CheckStaged, AwaitApplied, CheckActive, AwaitActivated}
use Rattle.control_sets.specs.Judgements.{all_lanes_have, differing_lane, is_rejection, is_reserved_state, is_reserved_status, judged, judged_done, judged_states, judged_statuses, judgement, lowest_lane, met_if, met_in, met_unless, unless_rejected, unless_reserved}
use Rattle.control_sets.specs.OutcomeAnswers.{most_steps}
use Rattle.control_sets.specs.Pages.{History}
use Rattle.control_sets.specs.Progress.{PatientProcedure, Standing, ToldPatient, judged_at, patient_by, standing, task_at, tasks_of, told_at}
use Rattle.control_sets.specs.SavedNumbers.{can_stand, due_numbered, fault_in, is_found, number_of_due, restored, saved_fault, selected_numbered, work_numbered}
use Rattle.control_sets.specs.Tasks.{operation}

pub fault_back : (fault : Option ProvisionFault) → fault_in (saved_fault fault) ≡ Some fault
fault_back (Some (Bus TraceFull)) = refl
fault_back _ = refl

pub due_back : (due : Bool) → due_numbered (number_of_due due) ≡ Some due
due_back false = refl
due_back true = refl

pub saved_back : (saved : SavedProcedure) (doubts : Bool) (work : Work) (selected : KnownPage) (fault : Option ProvisionFault) (due : Bool) →
    work_numbered saved.work saved.control saved.lanes ≡ Some work → selected_numbered saved.selection saved.page ≡ Some selected → fault_in saved.fault ≡ Some fault → due_numbered saved.due ≡ Some due →
    (nat_le saved.steps most_steps && can_stand (tasks_of work) saved.met fault) ≡ true →
    restored saved doubts ≡ Some (patient_by doubts (record { work = work; met = saved.met; fault = fault }) selected (record { pause = saved.pause; limit = saved.limit }) due saved.idle saved.steps)
unfolding restored
saved_back saved doubts work selected fault due has_work has_selected has_fault has_due can = rw (has_work, has_selected, has_fault, has_due, can) refl

-- ---- a procedure that was told events can have come so far

abbrev found_in : ReplyJudgement → Bool
found_in (Fails fault) = is_found fault
found_in _ = true

met_found : (met : Bool) → found_in (met_if met) ≡ true
met_found true = refl
met_found false = refl

reserved_found : (codes : List ℕ) (lane : Option ℕ) (judged : ReplyJudgement) → found_in judged ≡ true → found_in (unless_reserved codes lane judged) ≡ true
reserved_found codes None judged e = e
reserved_found codes (Some lane) judged e = refl

rejected_found : (codes : List ℕ) (lane : Option ℕ) (judged : ReplyJudgement) → found_in judged ≡ true → found_in (unless_rejected codes lane judged) ≡ true
rejected_found codes None judged e = e
rejected_found codes (Some lane) judged e = refl

staged_found : (lane : Option ℕ) → found_in (met_unless StagedDiffers lane) ≡ true
staged_found None = refl
staged_found (Some lane) = refl

active_found : (lane : Option ℕ) → found_in (met_unless ActiveDiffers lane) ≡ true
active_found None = refl
active_found (Some lane) = refl

module_found : (code : ℕ) (state : Option State) → found_in (met_in code state) ≡ true
module_found code (Some Ready) = refl
module_found code _ = refl

states_found : (looked waiting : Lanes) (state : PathState) (codes : List ℕ) → found_in (judged_states looked waiting state codes) ≡ true
states_found looked waiting state codes =
    reserved_found codes (lowest_lane is_reserved_state looked codes) (met_if (all_lanes_have (code_of state) waiting codes)) (met_found (all_lanes_have (code_of state) waiting codes))

statuses_found : (lanes : Lanes) (codes : List ℕ) → found_in (judged_statuses lanes codes) ≡ true
statuses_found lanes codes =
    let met = met_if (all_lanes_have 1 lanes codes) in
    let rejected = lowest_lane is_rejection lanes codes in
    reserved_found codes (lowest_lane is_reserved_status lanes codes) (unless_rejected codes rejected met) (rejected_found codes rejected met (met_found (all_lanes_have 1 lanes codes)))

read_found : (task : Task) (bytes : List ℕ) → found_in (judged task bytes) ≡ true
unfolding judged
read_found FindReady bytes = module_found (number_in_byte (fields.Cmis cmis.ModuleState) (slice_index bytes 0)) (module_state_at (number_in_byte (fields.Cmis cmis.ModuleState) (slice_index bytes 0)))
read_found (AwaitDeactivated lanes) bytes = states_found lanes lanes Deactivated (codes_in bytes 8)
read_found (CheckStaged control) bytes = staged_found (differing_lane bytes control)
read_found (AwaitApplied lanes) bytes = statuses_found lanes (codes_in bytes 8)
read_found (CheckActive control) bytes = active_found (differing_lane bytes control)
read_found (AwaitActivated lanes) bytes = states_found every_lane lanes Activated (codes_in bytes 8)
read_found _ bytes = refl

done_found : (op : Op) → found_in (judged_done op) ≡ true
done_found (Fetch dev offset count) = refl
done_found (Store dev offset bytes) = refl

reply_found : (task : Task) (reply : Reply) → found_in (judgement task reply) ≡ true
reply_found task (Bytes bytes) = read_found task bytes.items
reply_found task Done = done_found (operation task)
reply_found task Refused = refl

told_can : (tasks : List Task) (met : ℕ) (fault : Option ProvisionFault) (found : Option Task) → task_at tasks met fault ≡ found → can_stand tasks met fault ≡ true → (reply : Reply) →
    can_stand tasks (told_at found (met, fault) reply).0 (told_at found (met, fault) reply).1 ≡ true
told_can tasks met fault None e can reply = can
told_can tasks met (Some fault) (Some task) e can reply = absurd cc
told_can tasks met None (Some task) e can reply = by (judgement task reply) (reply_found task reply) where
  more : met < length tasks
  more = slice_get_within tasks met task e

  by : (judged : ReplyJudgement) → found_in judged ≡ true → can_stand tasks (judged_at (met, None) judged).0 (judged_at (met, None) judged).1 ≡ true
  by Met found = le-leb (met + 1) (length tasks) (omega (arith, more))
  by NotYet found = can
  by (Fails fault) found = and_from _ _ (lt-ltb met (length tasks) more) found

pub standing_can : (tasks : List Task) (own : History) → can_stand tasks (standing tasks own).0 (standing tasks own).1 ≡ true
standing_can tasks [] = le-leb 0 (length tasks) (omega arith)
standing_can tasks (step ∷ before) =
    let s = standing tasks before in
    told_can tasks s.0 s.1 (task_at tasks s.0 s.1) refl (standing_can tasks before) step.reply

none_taken : (taken : Option ℕ) → ((page : ℕ) → taken ≡ Some page → false ≡ true) → taken ≡ None
none_taken None never = refl
none_taken (Some page) never = let no = never page refl in absurd cc

module _ (procedure : PatientProcedure) (events : Events) (told : ToldPatient events procedure) (limit : procedure.limit ≡ most_steps) where
  abbrev list : TaskList
  list = procedure.conversation.conversation.conversation

  pub can : (nat_le procedure.steps most_steps && can_stand (tasks_of list.work) list.met list.fault) ≡ true
  can =
      let (own, adds, (knows, (inner, selects, at))) = told.0 in
      and_from _ _ (le-leb procedure.steps most_steps (subst (λ (n : ℕ). procedure.steps ≤ n) limit told.2))
      (subst (λ (s : Standing). can_stand (tasks_of list.work) s.0 s.1 ≡ true) at.stands (standing_can (tasks_of list.work) (steps_of inner)))

  pub same : patient_by procedure.conversation.conversation.doubts list procedure.conversation.conversation.selection procedure.conversation.patience procedure.conversation.due procedure.conversation.idle procedure.steps ≡ procedure
  same =
      let (own, adds, (knows, with_own)) = told.0 in
      let taken = none_taken procedure.conversation.conversation.taken (λ page e. (knows.1.1.was page e).0) in
      let pausing = procedure.conversation in
      let on = pausing.conversation in
      λ i. record procedure { conversation = record pausing { conversation = record on { taken = sym taken i } }; limit = sym limit i }
