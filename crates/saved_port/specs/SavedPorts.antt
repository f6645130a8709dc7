-- A port as plain numbers: which numbers are a port's, and of which. (docs/manager.md, "From C"; this project's own)
use Rattle.std.specs.Prelude.{◌==◌, ℕ, Bool, false, true, Option, Some, None, if◌then◌else◌, is_some, replicate, unwrap_or}
use Rattle.std.specs.Option.{option_map}
use Rattle.bus_model.specs.declared.device.Dev.{Dev}
use Rattle.bus_model.specs.declared.device.Dev.TheVariants.{A0, A2}
use Rattle.paged_memory.specs.declared.key.Key.{Key}
use Rattle.paged_memory.specs.declared.page_addressing.KnownPage.{KnownPage}
use Rattle.paged_memory.specs.declared.page_addressing.KnownPage.TheVariants.{Unknown, Open, Page}
use Rattle.paged_memory.specs.Images.{Memory}
use Rattle.paged_memory.specs.Keys.{lower_key, upper_key}
use Rattle.field_tables.specs.LaneSets.{lanes_in}
use Rattle.applications.specs.declared.fault.AdvertFault.TheVariants.{NotCmis, Revision, NotEightLanes, FlatMemory, Absent, BadSum}
use Rattle.conversations.specs.declared.on_page.OnPage.{OnPage}
use Rattle.control_sets.specs.declared.fault.ProvisionFault.{ProvisionFault}
use Rattle.control_sets.specs.declared.procedures.power.Power.{Power}
use Rattle.control_sets.specs.declared.procedures.power.Power.TheVariants.{Awake, Asleep}
use Rattle.control_sets.specs.declared.procedures.power.PowerChange.{PowerChange}
use Rattle.control_sets.specs.declared.procedures.power.PowerStage.{PowerStage}
use Rattle.control_sets.specs.declared.procedures.power.PowerStage.TheVariants.{Unread, Found, Stored, Met}
use Rattle.control_sets.specs.declared.procedures.procedure.saved.SavedProcedure.{SavedProcedure}
use Rattle.control_sets.specs.PowerProgress.{PatientPower}
use Rattle.control_sets.specs.Progress.{PatientProcedure}
use Rattle.control_sets.specs.SavedNumbers as procedures
use Rattle.module_reading.specs.declared.halves.Halves.{Halves}
use Rattle.port_manager.specs.declared.deciding.Goal.{Goal}
use Rattle.port_manager.specs.declared.deciding.LeftBecause.{LeftBecause}
use Rattle.port_manager.specs.declared.deciding.LeftBecause.TheVariants.{Advert, NoLanes, NoPlan, NeedsPower, NeedsPermission}
use Rattle.port_manager.specs.declared.deciding.LeftBecause.TheVariants as reasons
use Rattle.port_manager.specs.declared.codes.LaneCodes.{LaneCodes}
use Rattle.port_manager.specs.declared.flags.Flags.{Flags}
use Rattle.port_manager.specs.declared.lane_flags.LaneFlags.{LaneFlags}
use Rattle.port_manager.specs.declared.job.Job.{Job}
use Rattle.port_manager.specs.declared.job.Job.TheVariants.{Reading, Waking, Sleeping, Provisioning, Activating, Confirming, Watching}
use Rattle.port_manager.specs.declared.look.Look.{Look}
use Rattle.port_manager.specs.declared.look.LookStage.{LookStage}
use Rattle.port_manager.specs.declared.look.LookStage.TheVariants.{Lower, Lanes, Seen}
use Rattle.port_manager.specs.declared.port.Outstanding.{Outstanding}
use Rattle.port_manager.specs.declared.port.Outstanding.TheVariants.{Nothing, Awaited, Stale, Forsaken}
use Rattle.port_manager.specs.declared.port.Port.{Port}
use Rattle.port_manager.specs.declared.port.Stage.{Stage}
use Rattle.port_manager.specs.declared.port.Stage.TheVariants as stage
use Rattle.port_manager.specs.declared.request.Request.{Request}
use Rattle.port_manager.specs.declared.request.Request.TheVariants as requests
use Rattle.port_manager.specs.declared.times.Times.{Times}
use Rattle.port_manager.specs.Patients.{Patient}
use Rattle.saved_port.specs.declared.numbers.SavedCodes.{SavedCodes}
use Rattle.saved_port.specs.declared.numbers.SavedFlags.{SavedFlags}
use Rattle.saved_port.specs.declared.numbers.SavedGoal.{SavedGoal}
use Rattle.saved_port.specs.declared.numbers.SavedLanes.{SavedLanes}
use Rattle.saved_port.specs.declared.numbers.SavedLeft.{SavedLeft}
use Rattle.saved_port.specs.declared.numbers.SavedPort.{SavedPort}
use Rattle.saved_port.specs.declared.numbers.SavedTimes.{SavedTimes}
use Rattle.saved_port.specs.declared.numbers.SavedWork.{SavedWork}

-- what stands in each: DCP1, in ASCII
abbrev pub port_magic : ℕ
port_magic = 0x44435031

abbrev pub times_in : SavedTimes → Times
times_in saved = record { settle = saved.settle; period = saved.period; first = saved.first; most = saved.most; recheck = saved.recheck }

abbrev pub codes_in : SavedCodes → LaneCodes
codes_in saved = record { codes = saved.codes; changes = saved.changes; last = saved.last }

abbrev pub lane_flags_in : SavedLanes → LaneFlags
lane_flags_in saved = record { counts = saved.counts; last = saved.last; states = codes_in saved.states; statuses = codes_in saved.statuses }

abbrev pub flags_in : SavedFlags → Flags
flags_in saved = record { module_counts = saved.module_counts; module_last = saved.module_last; lanes = lane_flags_in saved.lanes }

-- 2 if this page was read back, 1 if that is awaited
abbrev pub page_in : ℕ → ℕ → KnownPage
page_in number page = if number == 2 then Page page else (if number == 1 then Open else Unknown)

abbrev pub outstanding_in : ℕ → Outstanding
outstanding_in number =
    if number == 1 then Awaited else (if number == 2 then Stale else (if number == 3 then Forsaken else Nothing))

abbrev pub goal_in : SavedGoal → Goal
goal_in saved = record { control = saved.control; lanes = lanes_in saved.lanes; outside = lanes_in saved.outside }

-- what somebody has asked, of which lanes
abbrev pub request_in : ℕ → ℕ → Request
request_in number bits =
    if number == 1 then requests.Sleep (lanes_in bits)
    else (if number == 2 then requests.Provision (lanes_in bits)
    else (if number == 3 then requests.Deactivate (lanes_in bits)
    else requests.Wake))

-- ---- why a module is left alone

abbrev pub device_in : ℕ → Dev
device_in number = if number == 162 then A2 else A0

abbrev pub key_at : ℕ → ℕ → ℕ → ℕ → Key
key_at device upper bank page = if upper == 0 then lower_key (device_in device) else upper_key (device_in device) bank page

abbrev pub key_in : SavedLeft → Key
key_in saved = key_at saved.device saved.upper saved.bank saved.page

-- from 11 on, what is wrong with what it advertises
abbrev pub advert_in : SavedLeft → Option LeftBecause
advert_in saved =
    if saved.reason == 11 then Some (Advert (NotCmis saved.value))
    else (if saved.reason == 12 then Some (Advert (Revision saved.value))
    else (if saved.reason == 13 then Some (Advert FlatMemory)
    else (if saved.reason == 14 then Some (Advert (Absent (key_in saved)))
    else (if saved.reason == 15 then Some (Advert (BadSum saved.value))
    else (if saved.reason == 16 then Some (Advert (NotEightLanes saved.value))
    else None)))))

abbrev pub reason_in : SavedLeft → Option LeftBecause
reason_in saved =
    if saved.reason == 1 then Some NoLanes
    else (if saved.reason == 2 then Some NoPlan
    else (if saved.reason == 3 then Some NeedsPower
    else (if saved.reason == 4 then Some NeedsPermission
    else (if saved.reason == 5 then Some reasons.Asleep
    else advert_in saved))))

-- ---- what works at it

abbrev pub on_page_in : {C : Type 0} → SavedWork → C → OnPage C
on_page_in work conversation = record {
  conversation = conversation;
  selection = page_in work.saved.selection work.saved.page;
  taken = if work.taken == 1 then Some work.taken_page else None;
  doubts = work.doubts == 1;
}

abbrev pub patient_in : {C : Type 0} → SavedWork → C → Patient C
patient_in work conversation = record {
  conversation = record {
    conversation = conversation;
    patience = record { pause = work.saved.pause; limit = work.saved.limit };
    due = work.saved.due == 1;
    idle = work.saved.idle;
  };
  steps = work.saved.steps;
  limit = work.most;
}

-- with the memory that was read
abbrev pub halves_in : SavedWork → Memory → Halves
halves_in work image = record { request = record { halves = work.saved.lanes }; image = image; settled = work.saved.met }

abbrev pub power_in : ℕ → Power
power_in number = if number == 4 then Asleep else Awake

abbrev pub power_stage_in : ℕ → ℕ → PowerStage
power_stage_in number found =
    if number == 1 then Found found else (if number == 2 then Stored else (if number == 3 then Met else Unread))

-- the fault, if there is one
abbrev pub fault_by : Option (Option ProvisionFault) → Option ProvisionFault
fault_by None = None
fault_by (Some fault) = fault

abbrev pub change_in : SavedWork → PowerChange
change_in work = record {
  power = power_in work.saved.work;
  stage = power_stage_in work.stage work.found;
  fault = fault_by (procedures.fault_in work.saved.fault);
}

abbrev pub look_stage_in : ℕ → LookStage
look_stage_in number =
    if number == 1 then Lanes else (if number == 2 then Seen false else (if number == 3 then Seen true else Lower))

abbrev pub look_in : SavedGoal → SavedWork → Look
look_in goal work = record { goal = goal_in goal; stage = look_stage_in work.stage }

-- the procedure, which doubts or doesn't
abbrev pub procedure_in : SavedWork → Option PatientProcedure
procedure_in work = procedures.restored work.saved (work.doubts == 1)

-- a job that brings the module to the goal by the procedure
abbrev pub procedure_job : (PatientProcedure → Goal → Job) → SavedGoal → SavedWork → Option Job
procedure_job kind goal work = option_map (λ (procedure : PatientProcedure). kind procedure (goal_in goal)) (procedure_in work)

abbrev pub job_in : ℕ → SavedGoal → SavedWork → Memory → Option Job
job_in number goal work image =
    if number == 2 then Some (Reading (patient_in work (on_page_in work (halves_in work image))) (work.woken == 1))
    else (if number == 3 then Some (Waking (patient_in work (change_in work)))
    else (if number == 4 then procedure_job Provisioning goal work
    else (if number == 5 then procedure_job Activating goal work
    else (if number == 6 then Some (Watching (patient_in work (on_page_in work (look_in goal work))))
    else (if number == 7 then Some (Sleeping (patient_in work (change_in work)))
    else (if number == 8 then Some (Confirming (patient_in work (on_page_in work (look_in goal work))))
    else None))))))

abbrev pub stage_in : ℕ → SavedLeft → SavedGoal → SavedWork → Memory → Option Stage
stage_in number left goal work image =
    if number == 0 then Some stage.Absent
    else (if number == 1 then option_map stage.Left (reason_in left)
    else option_map stage.Working (job_in number goal work image))

-- ---- a port

abbrev pub port_with : SavedPort → Stage → Port
port_with saved stage = record {
  times = times_in saved.times;
  stage = stage;
  due = saved.due;
  recheck_at = saved.recheck_at;
  back_off = saved.back_off;
  outstanding = outstanding_in saved.outstanding;
  vain = saved.vain == 1;
  keeper = record { selected = page_in saved.selection saved.page; identifier = saved.identifier; flags = flags_in saved.flags };
  held = saved.held == 1;
  request = request_in saved.request saved.request_lanes;
  silence = record { refusals = saved.refusals; since = saved.silent_since };
  apply_refused = saved.apply_refused == 1;
}

-- the port that has these numbers, and whose reading has read this; none for memory that is no port
unfoldable pub port_in : SavedPort → Memory → Option Port
port_in saved image =
    if saved.magic == port_magic then option_map (port_with saved) (stage_in saved.stage saved.left saved.goal saved.work image)
    else None

-- ---- as numbers

abbrev pub number_of : Bool → ℕ
number_of bit = if bit then 1 else 0

abbrev pub numbers_of_page : KnownPage → ℕ × ℕ
numbers_of_page Unknown = (0, 0)
numbers_of_page Open = (1, 0)
numbers_of_page (Page page) = (2, page)

abbrev pub number_of_power : Power → ℕ
number_of_power Awake = 3
number_of_power Asleep = 4

abbrev pub numbers_of_stage : PowerStage → ℕ × ℕ
numbers_of_stage Unread = (0, 0)
numbers_of_stage (Found byte) = (1, byte)
numbers_of_stage Stored = (2, 0)
numbers_of_stage Met = (3, 0)

abbrev pub number_of_look : LookStage → ℕ
number_of_look Lower = 0
number_of_look Lanes = 1
number_of_look (Seen wanted) = if wanted then 3 else 2

-- of nothing
abbrev pub no_procedure : SavedProcedure
no_procedure = record {
  met = 0;
  steps = 0;
  work = 0;
  lanes = 0;
  control = replicate 8 0;
  selection = 0;
  page = 0;
  fault = procedures.saved_fault None;
  due = 0;
  idle = 0;
  pause = 0;
  limit = 0;
}

abbrev pub no_work : SavedWork
no_work = record { saved = no_procedure; most = 0; woken = 0; doubts = 0; taken = 0; taken_page = 0; stage = 0; found = 0 }

-- how patient it is and was
abbrev pub work_of_patient : {C : Type 0} → Patient C → SavedWork
work_of_patient patient = record no_work {
  saved = record no_procedure {
    steps = patient.steps;
    due = number_of patient.conversation.due;
    idle = patient.conversation.idle;
    pause = patient.conversation.patience.pause;
    limit = patient.conversation.patience.limit;
  };
  most = patient.limit;
}

-- and what it knows of the page selection
abbrev pub with_page : SavedWork → KnownPage → Option ℕ → Bool → SavedWork
with_page work selection taken doubts = record work {
  saved = record work.saved { selection = (numbers_of_page selection).0; page = (numbers_of_page selection).1 };
  doubts = number_of doubts;
  taken = number_of (is_some taken);
  taken_page = unwrap_or taken 0;
}

abbrev pub work_of_reading : Patient (OnPage Halves) → Bool → SavedWork
work_of_reading job woken =
    let on = job.conversation.conversation in
    let work = with_page (work_of_patient job) on.selection on.taken on.doubts in
    record work { saved = record work.saved { met = on.conversation.settled; lanes = on.conversation.request.halves }; woken = number_of woken }

abbrev pub work_of_power : PatientPower → SavedWork
work_of_power job =
    let change = job.conversation.conversation in
    let work = work_of_patient job in
    record work {
      saved = record work.saved { work = number_of_power change.power; fault = procedures.saved_fault change.fault };
      stage = (numbers_of_stage change.stage).0;
      found = (numbers_of_stage change.stage).1;
    }

abbrev pub work_of_look : Patient (OnPage Look) → SavedWork
work_of_look job =
    let on = job.conversation.conversation in
    let work = with_page (work_of_patient job) on.selection on.taken on.doubts in
    record work { stage = number_of_look on.conversation.stage }

abbrev pub work_of_procedure : SavedProcedure → Bool → SavedWork
work_of_procedure saved doubts = record no_work { saved = saved; doubts = number_of doubts }

abbrev pub left_by : ℕ → ℕ → SavedLeft
left_by reason value = record { reason = reason; value = value; device = 0; upper = 0; bank = 0; page = 0 }

-- it is not left alone
abbrev pub no_reason : SavedLeft
no_reason = left_by 0 0
