-- How much is left of readings, procedures, looks and changes of power, and that each of their operations makes that less, or is fruitless.
use Rattle.std.proofs.Common.{◌≡◌, ◌==◌, ◌≤◌, ◌<◌, ◌+◌, ◌⊎◌, inl, inr, ℕ, Bool, true, false, List, length, Option, Some, None, refl, sym, ap, subst, ◌∙◌, arith}
use Rattle.std.specs.Prelude.{◌-◌, if◌then◌else◌, slice_get, slice_index}
use Rattle.std.proofs.lemmas.Option.{slice_get_within}
use Rattle.bus_model.specs.declared.operation.Op.{Op}
use Rattle.bus_model.specs.declared.operation.Reply.{Reply}
use Rattle.bus_model.specs.declared.operation.Reply.TheVariants.{Bytes, Done, Refused}
use Rattle.bus_model.specs.Operations.{Answers}
use Rattle.conversations.specs.declared.next.Next.TheVariants.{Do}
use Rattle.conversations.specs.Pauses.{is_fruitless}
use Rattle.conversations.specs.Selecting.{IsFetch}
use Rattle.conversations.specs.Wanted.{op_of}
use Rattle.control_sets.specs.declared.fault.ProvisionFault.{ProvisionFault}
use Rattle.control_sets.specs.declared.procedures.judgement.ReplyJudgement.{ReplyJudgement}
use Rattle.control_sets.specs.declared.procedures.judgement.ReplyJudgement.TheVariants.{Met, NotYet, Fails}
use Rattle.control_sets.specs.declared.procedures.power.Power.{Power}
use Rattle.control_sets.specs.declared.procedures.power.PowerChange.{PowerChange}
use Rattle.control_sets.specs.declared.procedures.power.PowerStage.{PowerStage}
use Rattle.control_sets.specs.declared.procedures.power.PowerStage.TheVariants as stage
use Rattle.control_sets.specs.declared.procedures.procedure.TaskList.{TaskList}
use Rattle.control_sets.specs.declared.procedures.procedure.Work.{Work}
use Rattle.control_sets.specs.declared.procedures.task.Task.{Task}
use Rattle.control_sets.specs.declared.procedures.task.Task.TheVariants as tasks
use Rattle.control_sets.specs.Judgements.{judgement}
use Rattle.control_sets.specs.OutcomeCodes.{module_code}
use Rattle.control_sets.specs.OutcomeOperations.{read_module_state}
use Rattle.control_sets.specs.PowerControls.{read_controls, set_controls, wanted_controls}
use Rattle.control_sets.specs.PowerProgress.{PatientPower, change_after, judged_power, moved_to, operation_at, power_wants, stage_after, stage_judged, wants_by}
use Rattle.control_sets.specs.Progress.{hand, judged_at, list_at, task_at, tasks_of, told_at}
use Rattle.control_sets.specs.Progress as progress
use Rattle.control_sets.specs.Tasks.{operation}
use Rattle.field_tables.specs.declared.field.Field.TheVariants as fields
use Rattle.field_tables.specs.declared.table.cmis.CmisField.TheVariants as cmis
use Rattle.field_tables.specs.FieldValues.{number_in_byte}
use Rattle.module_reading.specs.declared.halves.Halves.{Halves}
use Rattle.module_reading.specs.declared.region.Region.{Region}
use Rattle.module_reading.specs.declared.region.Region.TheVariants.{Lower, FirstPage, Page}
use Rattle.module_reading.specs.ImageReading as reader
use Rattle.module_reading.specs.Regions as regions
use Rattle.module_reading.proofs.RegionLaws.{at_most_five}
use Rattle.port_manager.specs.declared.deciding.Goal.{Goal}
use Rattle.port_manager.specs.declared.look.Look.{Look}
use Rattle.port_manager.specs.declared.look.LookStage.{LookStage}
use Rattle.port_manager.specs.declared.look.LookStage.TheVariants as looking
use Rattle.port_manager.specs.Jobs.{paged_halves, paged_look, paged_tasks, waking_after, waking_wants}
use Rattle.port_manager.specs.Looks as looks
use Rattle.port_manager.specs.Patients.{pause_after}
use Rattle.port_manager.proofs.PageProgress.{Counted, OwnStep, fruitful, repeats}
use Rattle.port_manager.proofs.PatientLaws.{asked_within, kept_within}

-- ---- halves: no module has more than five that are read

abbrev pub left_of_half : ℕ → Option Region → ℕ
left_of_half settled None = 0
left_of_half settled (Some region) = 5 - settled

abbrev pub left_of_halves : Halves → ℕ
left_of_halves halves = left_of_half halves.settled (reader.in_hand halves)

half_few : (settled more : ℕ) (found : Option Region) → more ≡ settled + 1 → left_of_half more found ≤ 5 - (settled + 1)
half_few settled more None e = omega arith
half_few settled more (Some region) e = omega (arith, e)

within_five : (halves : Halves) (region : Region) → reader.in_hand halves ≡ Some region → halves.settled < 5
within_five halves region hand = omega (arith, slice_get_within (regions.regions_of halves.request halves.image) halves.settled region hand, at_most_five halves.request halves.image)

half_left : (halves : Halves) (region : Region) → reader.in_hand halves ≡ Some region → left_of_halves halves ≡ 5 - halves.settled
half_left halves region hand = ap (left_of_half halves.settled) hand

-- one half more was read, or left out
half_less : (halves more : Halves) (region : Region) → reader.in_hand halves ≡ Some region → more.settled ≡ halves.settled + 1 → left_of_halves more + 1 ≤ left_of_halves halves
half_less halves more region hand e =
    omega (arith, half_few halves.settled more.settled (reader.in_hand more) e, half_left halves region hand, within_five halves region hand)

region_fetches : (region : Region) → IsFetch (regions.operation region)
region_fetches (Lower dev) = tt
region_fetches FirstPage = tt
region_fetches (Page page) = tt

pub region_wanted : (found : Option Region) (op : Op) → reader.wants_by found ≡ Do op → (region : Region) × (found ≡ Some region) × (regions.operation region ≡ op)
region_wanted None op e = absurd cc
region_wanted (Some region) op e = let same : regions.operation region ≡ op = cc in (region, refl, same)

half_own : (halves : Halves) (region : Region) (op : Op) (reply : Reply) → reader.in_hand halves ≡ Some region → IsFetch op → OwnStep left_of_halves halves (reader.after_fetch (Some region) halves reply) op reply
half_own halves region op (Bytes bytes) hand fetch = inl (half_less halves (reader.after_fetch (Some region) halves (Bytes bytes)) region hand refl)
half_own halves region op Done hand fetch = inr (refl, inl fetch)
half_own halves region op Refused hand fetch = inr (refl, inl fetch)

pub halves_counted : Counted paged_halves left_of_halves
halves_counted = record {
  some = λ halves op wants.
      let (region, hand, is) = region_wanted (reader.in_hand halves) op wants in
      omega (arith, half_left halves region hand, within_five halves region hand);
  own = λ halves op reply wants answers.
      let (region, hand, is) = region_wanted (reader.in_hand halves) op wants in
      subst (λ (found : Option Region). OwnStep left_of_halves halves (reader.after_fetch found halves reply) op reply) (sym hand) (half_own halves region op reply hand (subst IsFetch is (region_fetches region)));
  lacks = λ halves op number wants.
      let (region, hand, is) = region_wanted (reader.in_hand halves) op wants in
      inl (subst (λ (found : Option Region). left_of_halves (reader.leaving_out found halves) + 1 ≤ left_of_halves halves) (sym hand) (half_less halves (reader.leaving_out (Some region) halves) region hand refl));
}

-- ---- tasks

abbrev pub left_at : List Task → ℕ → Option ProvisionFault → ℕ
left_at tasks met None = length tasks - met
left_at tasks met (Some fault) = 0

abbrev pub left_of_tasks : TaskList → ℕ
left_of_tasks list = left_at (tasks_of list.work) list.met list.fault

-- a task that a reply doesn't settle fetches, unless it was refused
fetches_or : (task : Task) (reply : Reply) → Answers (operation task) reply → judgement task reply ≡ NotYet → IsFetch (operation task) ⊎ (reply ≡ Refused)
fetches_or tasks.FindReady reply answers e = inl tt
fetches_or (tasks.Deinitialize bits) (Bytes bytes) answers e = absurd answers
fetches_or (tasks.Deinitialize bits) Done answers e = absurd cc
fetches_or (tasks.Deinitialize bits) Refused answers e = inr refl
fetches_or (tasks.AwaitDeactivated lanes) reply answers e = inl tt
fetches_or (tasks.Stage control) (Bytes bytes) answers e = absurd answers
fetches_or (tasks.Stage control) Done answers e = absurd cc
fetches_or (tasks.Stage control) Refused answers e = inr refl
fetches_or (tasks.CheckStaged control) reply answers e = inl tt
fetches_or (tasks.Apply bits) (Bytes bytes) answers e = absurd answers
fetches_or (tasks.Apply bits) Done answers e = absurd cc
fetches_or (tasks.Apply bits) Refused answers e = inr refl
fetches_or (tasks.AwaitApplied lanes) reply answers e = inl tt
fetches_or (tasks.CheckActive control) reply answers e = inl tt
fetches_or (tasks.AwaitActivated lanes) reply answers e = inl tt

pub task_wanted : (work : Work) (met : ℕ) (fault : Option ProvisionFault) (found : Option Task) (op : Op) → task_at (tasks_of work) met fault ≡ found → progress.wants_by fault found ≡ Do op
    → (fault ≡ None) × ((task : Task) × (slice_get (tasks_of work) met ≡ Some task) × (operation task ≡ op))
task_wanted work met fault None op hand e = absurd cc
task_wanted work met None (Some task) op hand e = let same : operation task ≡ op = cc in (refl, (task, hand, same))
task_wanted work met (Some fault) (Some task) op hand e = absurd cc

judged_own : (work : Work) (met : ℕ) (task : Task) (op : Op) (reply : Reply) (judged : ReplyJudgement) → slice_get (tasks_of work) met ≡ Some task → operation task ≡ op → Answers op reply → judgement task reply ≡ judged
    → OwnStep left_of_tasks (list_at work (met, None)) (list_at work (judged_at (met, None) judged)) op reply
judged_own work met task op reply Met hand is answers e = inl (omega (arith, slice_get_within (tasks_of work) met task hand))
judged_own work met task op reply NotYet hand is answers e =
    inr (refl, subst (λ (o : Op). IsFetch o ⊎ (reply ≡ Refused)) is (fetches_or task reply (subst (λ (o : Op). Answers o reply) (sym is) answers) e))
judged_own work met task op reply (Fails fault) hand is answers e = inl (omega (arith, slice_get_within (tasks_of work) met task hand))

task_own : (work : Work) (met : ℕ) (fault : Option ProvisionFault) (op : Op) (reply : Reply) → progress.wants_by fault (task_at (tasks_of work) met fault) ≡ Do op → Answers op reply
    → OwnStep left_of_tasks (list_at work (met, fault)) (list_at work (told_at (task_at (tasks_of work) met fault) (met, fault) reply)) op reply
task_own work met fault op reply wants answers =
    let (none, (task, hand, is)) = task_wanted work met fault (task_at (tasks_of work) met fault) op refl wants in
    subst (λ (fault : Option ProvisionFault). OwnStep left_of_tasks (list_at work (met, fault)) (list_at work (told_at (task_at (tasks_of work) met fault) (met, fault) reply)) op reply) (sym none)
    (subst (λ (found : Option Task). OwnStep left_of_tasks (list_at work (met, None)) (list_at work (told_at found (met, None) reply)) op reply) (sym hand)
    (judged_own work met task op reply (judgement task reply) hand is answers refl))

task_some : (work : Work) (met : ℕ) (fault : Option ProvisionFault) (op : Op) → progress.wants_by fault (task_at (tasks_of work) met fault) ≡ Do op → 1 ≤ left_at (tasks_of work) met fault
task_some work met fault op wants =
    let (none, (task, hand, is)) = task_wanted work met fault (task_at (tasks_of work) met fault) op refl wants in
    omega (arith, ap (left_at (tasks_of work) met) none, slice_get_within (tasks_of work) met task hand)

pub tasks_counted : Counted paged_tasks left_of_tasks
tasks_counted = record {
  some = λ list op wants. task_some list.work list.met list.fault op wants;
  own = λ list op reply wants answers. task_own list.work list.met list.fault op reply wants answers;
  lacks = λ list op number wants. inr refl;
}

-- ---- looks

abbrev pub left_at_look : LookStage → ℕ
left_at_look looking.Lower = 2
left_at_look looking.Lanes = 1
left_at_look (looking.Seen wanted) = 0

abbrev pub left_of_look : Look → ℕ
left_of_look look = left_at_look look.stage

abbrev look_of : Goal → LookStage → Look
look_of goal at = record { goal = goal; stage = at }

ready_or_not : (ready : Bool) → left_at_look (if ready then looking.Lanes else looking.Seen false) + 1 ≤ 2
ready_or_not true = omega arith
ready_or_not false = omega arith

look_own : (goal : Goal) (at : LookStage) (op : Op) (reply : Reply) → looks.wants_at at ≡ Do op → OwnStep left_of_look (look_of goal at) (look_of goal (looks.stage_after goal at reply)) op reply
look_own goal looking.Lower op (Bytes bytes) wants = inl (ready_or_not (number_in_byte (fields.Cmis cmis.ModuleState) (slice_index bytes.items 3) == 3))
look_own goal looking.Lower op Done wants = let same : looks.fetch_half 0 ≡ op = cc in inr (refl, inl (subst IsFetch same tt))
look_own goal looking.Lower op Refused wants = inr (refl, inr refl)
look_own goal looking.Lanes op (Bytes bytes) wants = inl (omega arith)
look_own goal looking.Lanes op Done wants = let same : looks.fetch_half 128 ≡ op = cc in inr (refl, inl (subst IsFetch same tt))
look_own goal looking.Lanes op Refused wants = inr (refl, inr refl)
look_own goal (looking.Seen wanted) op reply wants = absurd cc

look_some : (at : LookStage) (op : Op) → looks.wants_at at ≡ Do op → 1 ≤ left_at_look at
look_some looking.Lower op wants = omega arith
look_some looking.Lanes op wants = omega arith
look_some (looking.Seen wanted) op wants = absurd cc

pub look_counted : Counted paged_look left_of_look
look_counted = record {
  some = λ look op wants. look_some look.stage op wants;
  own = λ look op reply wants answers. look_own look.goal look.stage op reply wants;
  lacks = λ look op number wants. inr refl;
}

-- ---- changes of power

abbrev pub left_at_stage : PowerStage → Option ProvisionFault → ℕ
left_at_stage stage.Unread None = 3
left_at_stage (stage.Found byte) None = 2
left_at_stage stage.Stored None = 1
left_at_stage stage.Met None = 0
left_at_stage at (Some fault) = 0

abbrev pub left_of_power : PowerChange → ℕ
left_of_power change = left_at_stage change.stage change.fault

abbrev change_of : Power → PowerStage → Option ProvisionFault → PowerChange
change_of power at fault = record { power = power; stage = at; fault = fault }

stored_own : (power : Power) (op : Op) (reply : Reply) (judged : ReplyJudgement) → IsFetch op → OwnStep left_of_power (change_of power stage.Stored None) (moved_to (change_of power stage.Stored None) (stage_judged judged)) op reply
stored_own power op reply Met fetch = inl (omega arith)
stored_own power op reply NotYet fetch = inr (refl, inl fetch)
stored_own power op reply (Fails fault) fetch = inl (omega arith)

power_own : (power : Power) (at : PowerStage) (fault : Option ProvisionFault) (op : Op) (reply : Reply) → wants_by fault (operation_at power at) ≡ Do op → Answers op reply
    → OwnStep left_of_power (change_of power at fault) (moved_to (change_of power at fault) (stage_after power at reply)) op reply
power_own power at (Some fault) op reply wants answers = absurd cc
power_own power stage.Met None op reply wants answers = absurd cc
power_own power stage.Unread None op (Bytes bytes) wants answers = inl (omega arith)
power_own power stage.Unread None op Done wants answers = let same : read_controls ≡ op = cc in inr (refl, inl (subst IsFetch same tt))
power_own power stage.Unread None op Refused wants answers = inr (refl, inr refl)
power_own power (stage.Found byte) None op (Bytes bytes) wants answers = let same : op ≡ set_controls (wanted_controls power byte) = cc in absurd (subst (λ (o : Op). Answers o (Bytes bytes)) same answers)
power_own power (stage.Found byte) None op Done wants answers = inl (omega arith)
power_own power (stage.Found byte) None op Refused wants answers = inr (refl, inr refl)
power_own power stage.Stored None op (Bytes bytes) wants answers = let same : read_module_state ≡ op = cc in stored_own power op (Bytes bytes) (judged_power power (module_code bytes.items)) (subst IsFetch same tt)
power_own power stage.Stored None op Done wants answers = let same : read_module_state ≡ op = cc in inr (refl, inl (subst IsFetch same tt))
power_own power stage.Stored None op Refused wants answers = inr (refl, inr refl)

power_some : (power : Power) (at : PowerStage) (fault : Option ProvisionFault) (op : Op) → wants_by fault (operation_at power at) ≡ Do op → 1 ≤ left_at_stage at fault
power_some power at (Some fault) op wants = absurd cc
power_some power stage.Unread None op wants = omega arith
power_some power (stage.Found byte) None op wants = omega arith
power_some power stage.Stored None op wants = omega arith
power_some power stage.Met None op wants = absurd cc

fruitless_by : (op : Op) (reply : Reply) → IsFetch op ⊎ (reply ≡ Refused) → is_fruitless op reply (Some op) ≡ true
fruitless_by op reply (inl fetch) = repeats op reply fetch
fruitless_by op reply (inr refused) = ap (λ (reply : Reply). is_fruitless op reply (Some op)) refused

power_near : (change after : PowerChange) (op : Op) (reply : Reply) → power_wants change ≡ Do op → OwnStep left_of_power change after op reply
    → (is_fruitless op reply (op_of (power_wants after)) ≡ false → left_of_power after + 1 ≤ left_of_power change) × (left_of_power after ≤ left_of_power change + 2)
power_near change after op reply wants (inl nearer) = (λ fruitful. nearer, omega (arith, nearer))
power_near change after op reply wants (inr (same, either)) =
    let next : op_of (power_wants after) ≡ Some op = ap (λ (c : PowerChange). op_of (power_wants c)) same ∙ ap op_of wants in (
      λ fruitful. absurd (let no : true ≡ false = sym (ap (is_fruitless op reply) next ∙ fruitless_by op reply either) ∙ fruitful in cc),
      omega (arith, ap left_of_power same),
    )

abbrev pub left_of_waking : PatientPower → ℕ
left_of_waking patient = left_of_power patient.conversation.conversation

pub near_waking : (patient : PatientPower) (op next : Op) (reply : Reply) → op_of (waking_wants patient) ≡ Some op → Answers op reply → op_of (waking_wants (waking_after patient reply)) ≡ Some next
    → (pause_after power_wants change_after patient reply ≡ None → left_of_waking (waking_after patient reply) + 1 ≤ left_of_waking patient) × (left_of_waking (waking_after patient reply) ≤ left_of_waking patient + 2)
near_waking patient op next reply asked answers asks =
    let change = patient.conversation.conversation in
    let wants = asked_within power_wants patient op asked in
    let near = power_near change (change_after change reply) op reply wants (power_own change.power change.stage change.fault op reply wants answers) in
    let same : left_of_waking (waking_after patient reply) ≡ left_of_power (change_after change reply) =
    kept_within (λ (after : PowerChange). left_of_power after ≡ left_of_power (change_after change reply)) power_wants change_after patient reply refl in
    (λ none. omega (arith, same, near.0 (fruitful power_wants change_after patient op next reply asked asks none)), omega (arith, same, near.1))

pub some_waking : (patient : PatientPower) (op : Op) → op_of (waking_wants patient) ≡ Some op → 1 ≤ left_of_waking patient
some_waking patient op asked =
    let change = patient.conversation.conversation in
    power_some change.power change.stage change.fault op (asked_within power_wants patient op asked)
