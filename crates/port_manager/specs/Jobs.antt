-- What works at a module: which conversation, and what it wants. (docs/bus.md, "Conversations"; this project's own)
use Rattle.std.specs.Prelude.{Bool, true, false, Option, Some, None}
use Rattle.std.specs.FinMap as map
use Rattle.bus_model.specs.declared.operation.Op.{Op}
use Rattle.bus_model.specs.declared.operation.Reply.{Reply}
use Rattle.bus_model.specs.Operations.{Answers}
use Rattle.conversations.specs.declared.next.Next.{Next}
use Rattle.conversations.specs.declared.on_page.OnPage.{OnPage}
use Rattle.conversations.specs.declared.pausing.Patience.{Patience}
use Rattle.conversations.specs.declared.pausing.Timed.{Timed}
use Rattle.conversations.specs.declared.within.Spent.{Spent}
use Rattle.conversations.specs.Wanted.{op_of}
use Rattle.paged_memory.specs.declared.page_addressing.PageAddressing.TheVariants.{BankAndPage}
use Rattle.paged_memory.specs.declared.page_addressing.KnownPage.TheVariants.{Unknown}
use Rattle.control_sets.specs.declared.fault.ProvisionFault.{ProvisionFault}
use Rattle.control_sets.specs.declared.procedures.power.Power.TheVariants.{Awake, Asleep}
use Rattle.control_sets.specs.declared.procedures.power.PowerStage.TheVariants.{Unread}
use Rattle.control_sets.specs.declared.procedures.procedure.TaskList.{TaskList}
use Rattle.control_sets.specs.declared.procedures.procedure.Work.{Work}
use Rattle.control_sets.specs.declared.procedures.procedure.Work.TheVariants as work
use Rattle.control_sets.specs.Durations.{patience_for}
use Rattle.control_sets.specs.OutcomeAnswers.{most_steps}
use Rattle.control_sets.specs.PowerProgress.{PatientPower, change_after, patient_power, power_wants}
use Rattle.control_sets.specs.Progress.{PatientProcedure, hand, list_at, page_by, patient_of}
use Rattle.control_sets.specs.Progress as tasks
use Rattle.module_reading.specs.declared.halves.Halves.{Halves}
use Rattle.module_reading.specs.ImageReading as reader
use Rattle.module_reading.specs.Regions.{everything}
use Rattle.port_manager.specs.declared.deciding.Goal.{Goal}
use Rattle.port_manager.specs.declared.job.Beginning.{Beginning}
use Rattle.port_manager.specs.declared.job.Beginning.TheVariants as beginning
use Rattle.port_manager.specs.declared.job.Job.{Job}
use Rattle.port_manager.specs.declared.job.Job.TheVariants.{Reading, Waking, Sleeping, Provisioning, Activating, Confirming, Watching}
use Rattle.port_manager.specs.declared.look.Look.{Look}
use Rattle.port_manager.specs.Looks as looks
use Rattle.port_manager.specs.Patients.{Paged, Patient, advanced, after_on, wants_of, wants_on}

-- ---- conversations that need pages

abbrev pub paged_halves : Paged Halves (Unit {0})
paged_halves = record {
  wants = reader.wants;
  after = reader.after_reply;
  addressing = reader.addressing;
  page = λ halves. reader.page_by (reader.in_hand halves);
  may_lack = true;
  lacking = λ halves number. reader.after_lack halves;
}

abbrev pub paged_tasks : Paged TaskList (Option ProvisionFault)
paged_tasks = record {
  wants = tasks.wants;
  after = tasks.after_reply;
  addressing = λ list. Some BankAndPage;
  page = λ list. page_by (hand list);
  may_lack = false;
  lacking = λ list number. list;
}

abbrev pub paged_look : Paged Look Bool
paged_look = record {
  wants = looks.wants;
  after = looks.after;
  addressing = λ look. Some BankAndPage;
  page = looks.needed;
  may_lack = false;
  lacking = λ look number. look;
}

-- ---- how each begins

abbrev pub doubting : {C : Type 0} → C → OnPage C
doubting conversation = record { conversation = conversation; selection = Unknown; taken = None; doubts = true }

abbrev pub begun_with : {C : Type 0} → C → Patience → Patient C
begun_with conversation patience =
    record { conversation = record { conversation = conversation; patience = patience; due = false; idle = 0 }; steps = 0; limit = most_steps }

-- nothing is known of how long the module's states last
abbrev pub reading : Bool → Job
reading woken = Reading (begun_with (doubting (reader.begun everything)) (patience_for map.empty)) woken

abbrev pub waking : Patience → Job
waking patience = Waking (patient_power (record { power = Awake; stage = Unread; fault = None }) patience false 0 0)

abbrev pub sleeping : Patience → Job
sleeping patience = Sleeping (patient_power (record { power = Asleep; stage = Unread; fault = None }) patience false 0 0)

abbrev pub procedure_for : Work → Patience → PatientProcedure
procedure_for work patience = patient_of (list_at work (0, None)) Unknown patience false 0 0

abbrev pub provisioning_of : Goal → Work
provisioning_of goal = work.Provisioning goal.control goal.outside

abbrev pub activation_of : Goal → Work
activation_of goal = work.Activation goal.control goal.lanes

abbrev pub provisioning : Goal → Patience → Job
provisioning goal patience = Provisioning (procedure_for (provisioning_of goal) patience) goal

abbrev pub activating : Goal → Patience → Job
activating goal patience = Activating (procedure_for (activation_of goal) patience) goal

abbrev pub looking : Goal → Patience → Patient (OnPage Look)
looking goal patience = begun_with (doubting (looks.begun goal)) patience

abbrev pub confirming : Goal → Patience → Job
confirming goal patience = Confirming (looking goal patience)

abbrev pub watching : Goal → Patience → Job
watching goal patience = Watching (looking goal patience)

abbrev pub begun_by : Beginning → Job
begun_by (beginning.Reading woken) = reading woken
begun_by (beginning.Waking patience) = waking patience
begun_by (beginning.Sleeping patience) = sleeping patience
begun_by (beginning.Provisioning goal patience) = provisioning goal patience
begun_by (beginning.Activating goal patience) = activating goal patience
begun_by (beginning.Confirming goal patience) = confirming goal patience
begun_by (beginning.Watching goal patience) = watching goal patience

-- ---- what each wants, and what a reply makes of it

abbrev pub reading_wants : Patient (OnPage Halves) → Next (Spent (Timed (Unit {0})))
reading_wants = wants_of (wants_on paged_halves)

abbrev pub waking_wants : PatientPower → Next (Spent (Timed (Option ProvisionFault)))
waking_wants = wants_of power_wants

abbrev pub procedure_wants : PatientProcedure → Next (Spent (Timed (Option ProvisionFault)))
procedure_wants = wants_of (wants_on paged_tasks)

abbrev pub look_wants : Patient (OnPage Look) → Next (Spent (Timed Bool))
look_wants = wants_of (wants_on paged_look)

abbrev pub reading_after : Patient (OnPage Halves) → Reply → Patient (OnPage Halves)
reading_after = advanced (wants_on paged_halves) (after_on paged_halves)

abbrev pub waking_after : PatientPower → Reply → PatientPower
waking_after = advanced power_wants change_after

abbrev pub procedure_after : PatientProcedure → Reply → PatientProcedure
procedure_after = advanced (wants_on paged_tasks) (after_on paged_tasks)

abbrev pub look_after : Patient (OnPage Look) → Reply → Patient (OnPage Look)
look_after = advanced (wants_on paged_look) (after_on paged_look)

-- the operation that is asked for
abbrev pub asked : Job → Option Op
asked (Reading reading woken) = op_of (reading_wants reading)
asked (Waking change) = op_of (waking_wants change)
asked (Sleeping change) = op_of (waking_wants change)
asked (Provisioning procedure goal) = op_of (procedure_wants procedure)
asked (Activating procedure goal) = op_of (procedure_wants procedure)
asked (Confirming look) = op_of (look_wants look)
asked (Watching look) = op_of (look_wants look)

-- the reply is one that the operation can have
abbrev pub IsReplyTo : Option Op → Reply → Type 0
IsReplyTo (Some op) reply = Answers op reply
IsReplyTo None reply = ⊥
