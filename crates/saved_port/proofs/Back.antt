-- The numbers of a part stand for it.
use Rattle.std.proofs.Common.{◌≡◌, ℕ, ◌==◌, Bool, true, false, Option, Some, None, refl, ap, sym, ◌∙◌, if◌then◌else◌}
use Rattle.std.specs.Prelude.{is_some, unwrap_or}
use Rattle.std.specs.Option.{option_map}
use Rattle.conversations.specs.declared.on_page.OnPage.{OnPage}
use Rattle.paged_memory.specs.declared.page_addressing.KnownPage.{KnownPage}
use Rattle.paged_memory.specs.declared.page_addressing.KnownPage.TheVariants.{Unknown, Open, Page}
use Rattle.control_sets.specs.declared.procedures.power.Power.{Power}
use Rattle.control_sets.specs.declared.procedures.power.Power.TheVariants.{Awake, Asleep}
use Rattle.control_sets.specs.declared.procedures.power.PowerStage.{PowerStage}
use Rattle.control_sets.specs.declared.procedures.power.PowerStage.TheVariants.{Unread, Found, Stored, Met}
use Rattle.control_sets.specs.declared.procedures.procedure.saved.SavedProcedure.{SavedProcedure}
use Rattle.control_sets.specs.PowerProgress.{PatientPower}
use Rattle.control_sets.specs.Progress.{PatientProcedure}
use Rattle.bus_model.specs.declared.bus.BusFault.TheVariants.{TraceFull}
use Rattle.control_sets.specs.declared.fault.ProvisionFault.{ProvisionFault}
use Rattle.control_sets.specs.declared.fault.ProvisionFault.TheVariants.{Bus}
use Rattle.control_sets.specs.SavedNumbers.{fault_in, restored, saved_fault}
use Rattle.module_reading.specs.declared.halves.Halves.{Halves}
use Rattle.port_manager.specs.declared.deciding.Goal.{Goal}
use Rattle.port_manager.specs.declared.job.Job.TheVariants.{Reading, Waking, Sleeping, Provisioning, Activating, Confirming, Watching}
use Rattle.port_manager.specs.declared.port.Stage.TheVariants.{Working}
use Rattle.port_manager.specs.declared.look.Look.{Look}
use Rattle.port_manager.specs.declared.look.LookStage.{LookStage}
use Rattle.port_manager.specs.declared.look.LookStage.TheVariants.{Lower, Lanes, Seen}
use Rattle.port_manager.specs.declared.port.Port.{Port}
use Rattle.paged_memory.specs.Images.{Memory}
use Rattle.port_manager.specs.Patients.{Patient}
use Rattle.saved_port.specs.declared.numbers.SavedGoal.{SavedGoal}
use Rattle.saved_port.specs.declared.numbers.SavedLeft.{SavedLeft}
use Rattle.saved_port.specs.declared.numbers.SavedPort.{SavedPort}
use Rattle.saved_port.specs.declared.numbers.SavedWork.{SavedWork}
use Rattle.saved_port.specs.Known.{halves_of}
use Rattle.saved_port.specs.SavedPorts.{change_in, flags_in, goal_in, outstanding_in, port_in, port_magic, port_with, stage_in, times_in, fault_by, halves_in, look_stage_in, number_of, number_of_look, number_of_power, numbers_of_page, numbers_of_stage, on_page_in, page_in, patient_in, power_in, power_stage_in, procedure_in, request_in, work_of_look, work_of_power, work_of_procedure, work_of_reading}

fault_back : (fault : Option ProvisionFault) → fault_in (saved_fault fault) ≡ Some fault
fault_back (Some (Bus TraceFull)) = refl
fault_back _ = refl

pub yes_back : (bit : Bool) → (number_of bit == 1) ≡ bit
yes_back true = refl
yes_back false = refl

pub page_back : (page : KnownPage) → page_in (numbers_of_page page).0 (numbers_of_page page).1 ≡ page
page_back Unknown = refl
page_back Open = refl
page_back (Page page) = refl

taken_back : (taken : Option ℕ) → (if number_of (is_some taken) == 1 then Some (unwrap_or taken 0) else None) ≡ taken
taken_back None = refl
taken_back (Some page) = refl

power_back : (power : Power) → power_in (number_of_power power) ≡ power
power_back Awake = refl
power_back Asleep = refl

stage_back : (stage : PowerStage) → power_stage_in (numbers_of_stage stage).0 (numbers_of_stage stage).1 ≡ stage
stage_back Unread = refl
stage_back (Found byte) = refl
stage_back Stored = refl
stage_back Met = refl

look_back : (stage : LookStage) → look_stage_in (number_of_look stage) ≡ stage
look_back Lower = refl
look_back Lanes = refl
look_back (Seen true) = refl
look_back (Seen false) = refl

pub reading_back : (job : Patient (OnPage Halves)) (woken : Bool) →
    let work = work_of_reading job woken in patient_in work (on_page_in work (halves_in work (halves_of job).image)) ≡ job
reading_back job woken =
    let on = job.conversation.conversation in
    λ i. record {
      conversation = record {
        conversation = record { conversation = on.conversation; selection = page_back on.selection i; taken = taken_back on.taken i; doubts = yes_back on.doubts i };
        patience = job.conversation.patience;
        due = yes_back job.conversation.due i;
        idle = job.conversation.idle;
      };
      steps = job.steps;
      limit = job.limit;
    }

pub waking_back : (job : PatientPower) → let work = work_of_power job in patient_in work (change_in work) ≡ job
waking_back job =
    let change = job.conversation.conversation in
    λ i. record {
      conversation = record {
        conversation = record { power = power_back change.power i; stage = stage_back change.stage i; fault = fault_by (fault_back change.fault i) };
        patience = job.conversation.patience;
        due = yes_back job.conversation.due i;
        idle = job.conversation.idle;
      };
      steps = job.steps;
      limit = job.limit;
    }

pub looking_back : (job : Patient (OnPage Look)) →
    let work = work_of_look job in
    patient_in work (on_page_in work (record { goal = job.conversation.conversation.conversation.goal; stage = look_stage_in work.stage })) ≡ job
looking_back job =
    let on = job.conversation.conversation in
    λ i. record {
      conversation = record {
        conversation = record {
          conversation = record { goal = on.conversation.goal; stage = look_back on.conversation.stage i };
          selection = page_back on.selection i;
          taken = taken_back on.taken i;
          doubts = yes_back on.doubts i;
        };
        patience = job.conversation.patience;
        due = yes_back job.conversation.due i;
        idle = job.conversation.idle;
      };
      steps = job.steps;
      limit = job.limit;
    }

pub procedure_back : (job : PatientProcedure) (saved : SavedProcedure) → restored saved job.conversation.conversation.doubts ≡ Some job →
    procedure_in (work_of_procedure saved job.conversation.conversation.doubts) ≡ Some job
procedure_back job saved is = ap (λ (d : Bool). restored saved d) (yes_back job.conversation.conversation.doubts) ∙ is

-- ---- what is in the port

pub reading_stage : (job : Patient (OnPage Halves)) (woken : Bool) (image : Memory) (left : SavedLeft) (goal : SavedGoal) (work : SavedWork) → work ≡ work_of_reading job woken →
    (halves_of job).image ≡ image → stage_in 2 left goal work image ≡ Some (Working (Reading job woken))
reading_stage job woken image left goal work is read =
    let reads : stage_in 2 left goal (work_of_reading job woken) (halves_of job).image ≡ Some (Working (Reading job woken)) =
    λ i. Some (Working (Reading (reading_back job woken i) (yes_back woken i))) in
    ap (λ (w : SavedWork). stage_in 2 left goal w image) is ∙ ap (λ (m : Memory). stage_in 2 left goal (work_of_reading job woken) m) (sym read) ∙ reads

pub waking_stage : (job : PatientPower) (image : Memory) (left : SavedLeft) (goal : SavedGoal) (work : SavedWork) → work ≡ work_of_power job →
    stage_in 3 left goal work image ≡ Some (Working (Waking job))
waking_stage job image left goal work is =
    ap (λ (w : SavedWork). stage_in 3 left goal w image) is ∙ ap (λ (j : PatientPower). Some (Working (Waking j))) (waking_back job)

pub sleeping_stage : (job : PatientPower) (image : Memory) (left : SavedLeft) (goal : SavedGoal) (work : SavedWork) → work ≡ work_of_power job →
    stage_in 7 left goal work image ≡ Some (Working (Sleeping job))
sleeping_stage job image left goal work is =
    ap (λ (w : SavedWork). stage_in 7 left goal w image) is ∙ ap (λ (j : PatientPower). Some (Working (Sleeping j))) (waking_back job)

pub provisioning_stage : (job : PatientProcedure) (of : Goal) (image : Memory) (left : SavedLeft) (goal : SavedGoal) (work : SavedWork) → goal_in goal ≡ of → procedure_in work ≡ Some job →
    stage_in 4 left goal work image ≡ Some (Working (Provisioning job of))
provisioning_stage job of image left goal work goals is =
    ap (λ (p : Option PatientProcedure). option_map Working (option_map (λ (procedure : PatientProcedure). Provisioning procedure (goal_in goal)) p)) is
    ∙ ap (λ (g : Goal). Some (Working (Provisioning job g))) goals

pub activating_stage : (job : PatientProcedure) (of : Goal) (image : Memory) (left : SavedLeft) (goal : SavedGoal) (work : SavedWork) → goal_in goal ≡ of → procedure_in work ≡ Some job →
    stage_in 5 left goal work image ≡ Some (Working (Activating job of))
activating_stage job of image left goal work goals is =
    ap (λ (p : Option PatientProcedure). option_map Working (option_map (λ (procedure : PatientProcedure). Activating procedure (goal_in goal)) p)) is
    ∙ ap (λ (g : Goal). Some (Working (Activating job g))) goals

pub watching_stage : (job : Patient (OnPage Look)) (image : Memory) (left : SavedLeft) (goal : SavedGoal) (work : SavedWork) → goal_in goal ≡ job.conversation.conversation.conversation.goal →
    work ≡ work_of_look job → stage_in 6 left goal work image ≡ Some (Working (Watching job))
watching_stage job image left goal work goals is =
    ap (λ (w : SavedWork). stage_in 6 left goal w image) is
    ∙ ap (λ (g : Goal). let w = work_of_look job in Some (Working (Watching (patient_in w (on_page_in w (record { goal = g; stage = look_stage_in w.stage })))))) goals
    ∙ ap (λ (j : Patient (OnPage Look)). Some (Working (Watching j))) (looking_back job)

pub confirming_stage : (job : Patient (OnPage Look)) (image : Memory) (left : SavedLeft) (goal : SavedGoal) (work : SavedWork) → goal_in goal ≡ job.conversation.conversation.conversation.goal →
    work ≡ work_of_look job → stage_in 8 left goal work image ≡ Some (Working (Confirming job))
confirming_stage job image left goal work goals is =
    ap (λ (w : SavedWork). stage_in 8 left goal w image) is
    ∙ ap (λ (g : Goal). let w = work_of_look job in Some (Working (Confirming (patient_in w (on_page_in w (record { goal = g; stage = look_stage_in w.stage })))))) goals
    ∙ ap (λ (j : Patient (OnPage Look)). Some (Working (Confirming j))) (looking_back job)

-- these are the numbers of the port, but for what is in it
pub record Stands (saved : SavedPort) (port : Port) : Type 0 where
  pub magic : saved.magic ≡ port_magic
  pub times : times_in saved.times ≡ port.times
  pub due : saved.due ≡ port.due
  pub recheck_at : saved.recheck_at ≡ port.recheck_at
  pub back_off : saved.back_off ≡ port.back_off
  pub outstanding : outstanding_in saved.outstanding ≡ port.outstanding
  pub vain : saved.vain ≡ number_of port.vain
  pub selection : saved.selection ≡ (numbers_of_page port.keeper.selected).0
  pub page : saved.page ≡ (numbers_of_page port.keeper.selected).1
  pub identifier : saved.identifier ≡ port.keeper.identifier
  pub flags : flags_in saved.flags ≡ port.keeper.flags
  pub held : saved.held ≡ number_of port.held
  pub request : request_in saved.request saved.request_lanes ≡ port.request
  pub refusals : saved.refusals ≡ port.silence.refusals
  pub since : saved.silent_since ≡ port.silence.since
  pub apply_refused : saved.apply_refused ≡ number_of port.apply_refused

with_stage : (saved : SavedPort) (port : Port) → Stands saved port → port_with saved port.stage ≡ port
with_stage saved port stands =
    let vain = ap (λ (n : ℕ). n == 1) stands.vain ∙ yes_back port.vain in
    let held = ap (λ (n : ℕ). n == 1) stands.held ∙ yes_back port.held in
    let apply_refused = ap (λ (n : ℕ). n == 1) stands.apply_refused ∙ yes_back port.apply_refused in
    let selected =
    ap (λ (n : ℕ). page_in n saved.page) stands.selection
    ∙ ap (λ (n : ℕ). page_in (numbers_of_page port.keeper.selected).0 n) stands.page
    ∙ page_back port.keeper.selected in
    λ i. record {
      times = stands.times i;
      stage = port.stage;
      due = stands.due i;
      recheck_at = stands.recheck_at i;
      back_off = stands.back_off i;
      outstanding = stands.outstanding i;
      vain = vain i;
      keeper = record { selected = selected i; identifier = stands.identifier i; flags = stands.flags i };
      held = held i;
      request = stands.request i;
      silence = record { refusals = stands.refusals i; since = stands.since i };
      apply_refused = apply_refused i;
    }

pub saved_back : (saved : SavedPort) (port : Port) (image : Memory) → Stands saved port →
    stage_in saved.stage saved.left saved.goal saved.work image ≡ Some port.stage → port_in saved image ≡ Some port
unfolding port_in
saved_back saved port image stands is =
    ap (λ (n : ℕ). if n == port_magic then option_map (port_with saved) (stage_in saved.stage saved.left saved.goal saved.work image) else None) stands.magic
    ∙ ap (option_map (port_with saved)) is ∙ ap (λ (p : Port). Some p) (with_stage saved port stands)
