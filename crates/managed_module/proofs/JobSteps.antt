-- One operation of each job at a simulated module: it leads nearer to the job's end, or less is left to be waited for.
use Rattle.std.proofs.Common.{◌≡◌, ℕ, zero, suc, ◌+◌, ◌-◌, ◌≤◌, ◌/◌, ◌%◌, ◌&&◌, ◌||◌, ◌==◌, Bool, true, false, [], ◌∷◌, Option, Some, None, Result, Ok, Err, length, map, refl, sym, ap, subst, ◌∙◌, if◌then◌else◌, arith}
use Rattle.std.specs.FinSet as set
use Rattle.std.specs.List.{range_with_len}
use Rattle.std.proofs.lemmas.Bool.{eqb-true}
use Rattle.std.proofs.lemmas.Bool.Decides.{nat_tests}
use Rattle.bus_model.specs.declared.device.Dev.TheVariants.{A0}
use Rattle.bus_model.specs.declared.operation.Op.{Op}
use Rattle.bus_model.specs.declared.operation.Reply.{Reply}
use Rattle.bus_model.specs.declared.operation.Reply.TheVariants.{Bytes, Done, Refused}
use Rattle.bus_model.specs.Operations.{Answers}
use Rattle.bus_model.specs.ScriptedBus.{passed_on, ticked_times}
use Rattle.conversations.specs.declared.next.Next.TheVariants.{Do}
use Rattle.conversations.specs.declared.on_page.OnPage.{OnPage}
use Rattle.conversations.specs.Selecting.{IsFetch}
use Rattle.field_tables.specs.LaneSets.{IsLane}
use Rattle.field_tables.specs.Registers.{byte_count, first_byte}
use Rattle.field_tables.specs.declared.field.Register.TheVariants as registers
use Rattle.module_states.specs.Codes as module_codes
use Rattle.module_states.specs.declared.state.ModuleState.{ModuleState}
use Rattle.module_states.specs.declared.state.ModuleState.TheVariants as module_is
use Rattle.control_sets.specs.declared.fault.ProvisionFault.{ProvisionFault}
use Rattle.control_sets.specs.declared.procedures.judgement.ReplyJudgement.{ReplyJudgement}
use Rattle.control_sets.specs.declared.procedures.judgement.ReplyJudgement.TheVariants.{Met, NotYet, Fails}
use Rattle.control_sets.specs.declared.procedures.power.Power.{Power}
use Rattle.control_sets.specs.declared.procedures.power.Power.TheVariants.{Awake}
use Rattle.control_sets.specs.declared.procedures.power.PowerChange.{PowerChange}
use Rattle.control_sets.specs.declared.procedures.power.PowerStage.{PowerStage}
use Rattle.control_sets.specs.declared.procedures.power.PowerStage.TheVariants as stage
use Rattle.control_sets.specs.declared.procedures.procedure.TaskList.{TaskList}
use Rattle.control_sets.specs.OutcomeCodes.{module_code}
use Rattle.control_sets.specs.OutcomeOperations.{read_module_state}
use Rattle.control_sets.specs.PowerControls.{read_controls, set_controls, wanted_controls}
use Rattle.control_sets.specs.PowerProgress.{change_after, judged_power, moved_to, operation_at, power_wants, stage_after, stage_judged, wants_by}
use Rattle.control_sets.specs.Progress.{after_reply}
use Rattle.control_sets.specs.Progress as progress
use Rattle.module_reading.specs.ImageReading as reader
use Rattle.module_reading.specs.Regions as regions
use Rattle.module_reading.specs.declared.region.Region.{Region}
use Rattle.module_reading.specs.declared.region.Region.TheVariants.{Lower, FirstPage, Page}
use Rattle.paged_memory.specs.declared.page_addressing.PageAddressing.{PageAddressing}
use Rattle.paged_memory.specs.KnownPages.{is_awaited, missing_page, wanted}
use Rattle.port_manager.specs.declared.deciding.Goal.{Goal}
use Rattle.port_manager.specs.declared.job.Job.{Job}
use Rattle.port_manager.specs.declared.job.Job.TheVariants as jobs
use Rattle.port_manager.specs.Jobs.{activation_of, asked, paged_halves, paged_tasks, procedure_after, provisioning_of, waking_after}
use Rattle.port_manager.specs.Patients.{after_on, wants_on}
use Rattle.port_manager.proofs.LeftLaws.{region_wanted}
use Rattle.port_manager.proofs.PatientLaws.{asked_on, asked_within, kept_within}
use Rattle.port_manager.proofs.TurnCases.{later}
use Rattle.sim_module.specs.declared.delays.Delays.{Delays}
use Rattle.sim_module.specs.declared.module.SimModule.{SimModule}
use Rattle.sim_module.specs.Down.{asks_low_power, has_low_power}
use Rattle.sim_module.specs.Modules.{conduct}
use Rattle.sim_module.specs.ShownBytes.{shown_byte}
use Rattle.sim_module.specs.Ticks.{ticked}
use Rattle.sim_liveness.specs.Released.{IsInUse}
use Rattle.sim_liveness.specs.Timing.{CountersRun, until_ready}
use Rattle.sim_liveness.proofs.InTime.{kept_delays, module_wakes, none_left_awake, power_is}
use Rattle.sim_liveness.proofs.LeftAlone.{leaves, power_kept}
use Rattle.sim_liveness.proofs.Longest.{longest_ready}
use Rattle.sim_liveness.proofs.ReadStates.{read_state}
use Rattle.managed_module.specs.Bounds.{IsSteady, most_waits, until_activated, until_applied, until_awake, until_deactivated}
use Rattle.managed_module.specs.Managed.{HasHalves, IsCmisJob}
use Rattle.managed_module.proofs.FirstLooks.{IsConfirming, confirming_goes_on, confirming_tick}
use Rattle.managed_module.proofs.Halves.{reads_half, stores_half}
use Rattle.managed_module.proofs.OwnTasks.{activation_tells, module_after, provision_tells, reply_of, steady_read}
use Rattle.managed_module.proofs.ProcedureSteps.{IsHarmless, KnownBy, fetch_is_harmless, harmless_leaves, known_tick, step, wanted_is_harmless}
use Rattle.managed_module.proofs.Procedures.{Activates, Provisions, Unless, activates_left, activates_tick, provisions_left, provisions_tick}
use Rattle.managed_module.proofs.SteadyModules.{controls_stored, counters_passed, counters_tick, leaves_all, steady_awake, steady_left, steady_tick}
use Rattle.managed_module.proofs.Waits.{LinkedJob, task_answered, way}

-- ---- what is left to be waited for

abbrev pub reading_waits : ℕ → Bool → ℕ
reading_waits most true = until_deactivated most + (until_applied most + until_activated most)
reading_waits most false = most_waits most

abbrev pub Wakes : ℕ → PowerStage → SimModule → ℕ → Type 0
Wakes most stage.Unread sim less = reading_waits most false ≤ less
Wakes most (stage.Found byte) sim less = reading_waits most false ≤ less
Wakes most stage.Stored sim less = (has_low_power sim ≡ false) × ((ticks : ℕ) × (until_ready sim.delays sim.state sim.ticks_left ≤ ticks) × (ticks + reading_waits most true ≤ less))
Wakes most stage.Met sim less = reading_waits most true ≤ less

-- the lanes of the goal are those that its control bytes use
pub record IsWhole (goal : Goal) : Type 0 where
  pub eight : length goal.control ≡ 8
  pub used : (lane : ℕ) → IsLane lane → set.contains goal.lanes lane ≡ true → IsInUse goal.control lane
  pub taken : (lane : ℕ) → IsLane lane → IsInUse goal.control lane → set.contains goal.lanes lane ≡ true

abbrev pub JobAt : ℕ → Job → SimModule → ℕ → Type 0
JobAt most (jobs.Reading job woken) sim less = IsSteady most sim × (reading_waits most woken ≤ less)
JobAt most (jobs.Waking job) sim less = (job.conversation.conversation.power ≡ Awake) × IsSteady most sim × Wakes most job.conversation.conversation.stage sim less
JobAt most (jobs.Sleeping job) sim less = ⊥
JobAt most (jobs.Provisioning job goal) sim less =
    (job.conversation.conversation.conversation.work ≡ provisioning_of goal) × IsWhole goal × CountersRun most sim × KnownBy job.conversation.conversation.selection sim
    × Unless job.conversation.conversation.conversation.fault (Provisions most goal.outside job.conversation.conversation.conversation.met sim less)
JobAt most (jobs.Activating job goal) sim less =
    (job.conversation.conversation.conversation.work ≡ activation_of goal) × IsWhole goal × CountersRun most sim × KnownBy job.conversation.conversation.selection sim
    × Unless job.conversation.conversation.conversation.fault (Activates most goal.control goal.lanes job.conversation.conversation.conversation.met sim less)
JobAt most (jobs.Confirming job) sim less = IsConfirming most job sim
JobAt most (jobs.Watching job) sim less = Unit {0}

-- ---- while ticks come

wakes_tick : (most : ℕ) (at : PowerStage) (sim : SimModule) (less : ℕ) → IsSteady most sim → Wakes most at sim less → Wakes most at (ticked sim) less
wakes_tick most stage.Unread sim less steady w = w
wakes_tick most (stage.Found byte) sim less steady w = w
wakes_tick most stage.Stored sim less steady (awake, (ticks, near, few)) =
    let nearer = (module_wakes most sim steady.counters.time awake steady.counters.state).1 in
    let near_after : until_ready (ticked sim).delays (ticked sim).state (ticked sim).ticks_left ≤ ticks =
    subst (λ (d : Delays). until_ready d (ticked sim).state (ticked sim).ticks_left ≤ ticks) (sym (kept_delays sim)) (omega (arith, nearer, near)) in
    (power_is sim ∙ awake, (ticks, near_after, few))
wakes_tick most stage.Met sim less steady w = w

unless_tick : {P Q : Type 0} (fault : Option ProvisionFault) → (P → Q) → Unless fault P → Unless fault Q
unless_tick None f p = f p
unless_tick (Some fault) f p = tt

pub job_tick : (most : ℕ) (job : Job) (sim : SimModule) (less : ℕ) → JobAt most job sim less → JobAt most job (ticked sim) less
job_tick most (jobs.Reading job woken) sim less (steady, few) = (steady_tick most sim steady, few)
job_tick most (jobs.Waking job) sim less (awake, steady, w) = (awake, steady_tick most sim steady, wakes_tick most job.conversation.conversation.stage sim less steady w)
job_tick most (jobs.Sleeping job) sim less at = at
job_tick most (jobs.Provisioning job goal) sim less (work, whole, run, known, p) = (
  work,
  whole,
  counters_tick most sim run,
  known_tick job.conversation.conversation.selection sim known,
  unless_tick job.conversation.conversation.conversation.fault (provisions_tick most goal.outside job.conversation.conversation.conversation.met sim less) p,
)
job_tick most (jobs.Activating job goal) sim less (work, whole, run, known, p) = (
  work,
  whole,
  counters_tick most sim run,
  known_tick job.conversation.conversation.selection sim known,
  unless_tick job.conversation.conversation.conversation.fault (activates_tick most goal.control goal.lanes job.conversation.conversation.conversation.met sim less whole.used) p,
)
job_tick most (jobs.Confirming job) sim less at = confirming_tick most job sim at
job_tick most (jobs.Watching job) sim less at = tt

pub job_paused : (most : ℕ) (job : Job) (count : ℕ) (sim : SimModule) (less : ℕ) → JobAt most job sim less → JobAt most job (ticked_times conduct count sim) less
job_paused most job zero sim less at = at
job_paused most job (suc count) sim less at = job_tick most job (ticked_times conduct count sim) less (job_paused most job count sim less at)

-- ---- an operation

-- nothing came of it
abbrev pub IsIdle : Job → Op → Reply → Type 0
IsIdle (jobs.Reading job woken) op reply = ⊥
IsIdle (jobs.Waking job) op reply = (job.conversation.conversation.stage ≡ stage.Stored) × (change_after job.conversation.conversation reply ≡ job.conversation.conversation)
IsIdle (jobs.Sleeping job) op reply = ⊥
IsIdle (jobs.Provisioning job goal) op reply = (progress.wants job.conversation.conversation.conversation ≡ Do op) × (after_reply job.conversation.conversation.conversation reply ≡ job.conversation.conversation.conversation)
IsIdle (jobs.Activating job goal) op reply = (progress.wants job.conversation.conversation.conversation ≡ Do op) × (after_reply job.conversation.conversation.conversation reply ≡ job.conversation.conversation.conversation)
IsIdle (jobs.Confirming job) op reply = ⊥
IsIdle (jobs.Watching job) op reply = ⊥

pub record GoesOn (most : ℕ) (job : Job) (op : Op) (reply : Reply) (after : SimModule) (left : ℕ) : Type 0 where
  pub less : ℕ
  pub at : JobAt most (later job reply) after less
  pub fewer : less ≤ left
  pub waits : IsIdle job op reply → less + 1 ≤ left

-- ---- readings

region_fetches : (region : Region) → IsFetch (regions.operation region)
region_fetches (Lower dev) = tt
region_fetches FirstPage = tt
region_fetches (Page page) = tt

pub steady_harmless : (most : ℕ) (sim : SimModule) (op : Op) → IsHarmless op → IsSteady most sim → IsSteady most (module_after sim op)
steady_harmless most sim op harmless steady =
    let mid = (passed_on conduct op sim).1 in
    steady_tick most mid (steady_left most sim mid (leaves_all sim mid (harmless_leaves op sim harmless)) (counters_passed most op sim steady.counters) steady)

-- ---- waking up

-- a bit that is 1 is taken out
abbrev without : Bool → ℕ → ℕ → ℕ
without on bit byte = if on then byte - bit else byte

allow_off : (byte : ℕ) (on : Bool) → (byte / 64 % 2 == 1) ≡ on → without on 64 byte / 64 % 2 ≡ 0
allow_off byte true e = let one : byte / 64 % 2 ≡ 1 = eqb-true (byte / 64 % 2) 1 e in omega (arith, one)
allow_off byte false e = grind (arith, nat_tests, e)

request_off : (byte : ℕ) (on : Bool) → (byte / 16 % 2 == 1) ≡ on → (without on 16 byte / 16 % 2 ≡ 0) × (without on 16 byte / 64 % 2 ≡ byte / 64 % 2)
request_off byte true e = let one : byte / 16 % 2 ≡ 1 = eqb-true (byte / 16 % 2) 1 e in (omega (arith, one), omega (arith, one))
request_off byte false e = (grind (arith, nat_tests, e), refl)

reset_off : (byte : ℕ) (on : Bool) → (byte / 8 % 2 == 1) ≡ on → (without on 8 byte / 16 % 2 ≡ byte / 16 % 2) × (without on 8 byte / 64 % 2 ≡ byte / 64 % 2)
reset_off byte true e = let one : byte / 8 % 2 ≡ 1 = eqb-true (byte / 8 % 2) 1 e in (omega (arith, one), omega (arith, one))
reset_off byte false e = (refl, refl)

not_one : (n : ℕ) → n ≡ 0 → (n == 1) ≡ false
not_one n zeroth = grind (arith, nat_tests, zeroth)

-- what is stored to wake a module up asks for no low power, whatever the pin
awake_controls : (byte : ℕ) (pin : Bool) → asks_low_power (wanted_controls Awake byte) pin ≡ false
unfolding wanted_controls
awake_controls byte pin =
    let one = without (byte / 64 % 2 == 1) 64 byte in
    let two = without (one / 16 % 2 == 1) 16 one in
    let three = without (two / 8 % 2 == 1) 8 two in
    let first = allow_off byte (byte / 64 % 2 == 1) refl in
    let second = request_off one (one / 16 % 2 == 1) refl in
    let third = reset_off two (two / 8 % 2 == 1) refl in
    let request : (three / 16 % 2 == 1) ≡ false = not_one (three / 16 % 2) (third.0 ∙ second.0) in
    let allow : (three / 64 % 2 == 1) ≡ false = not_one (three / 64 % 2) (third.1 ∙ second.1 ∙ first) in
    (λ i. request i || (allow i && pin))

ready_judged : (state : ModuleState) → state ≡ module_is.Ready → judged_power Awake (module_codes.code_of state) ≡ Met
ready_judged state is = ap (λ (state : ModuleState). judged_power Awake (module_codes.code_of state)) is

module _ (most : ℕ) (sim : SimModule) (has : HasHalves sim) (steady : IsSteady most sim) (left : ℕ) where
  -- after an operation of the stage
  record IsWoken (before after : PowerStage) (op : Op) (idle : Type 0) : Type 0 where
    calm : IsSteady most (module_after sim op)
    less : ℕ
    at : Wakes most after (module_after sim op) less
    fewer : less ≤ left
    idles : idle → less + 1 ≤ left

  abbrev stage_of : PowerChange → PowerStage
  stage_of change = change.stage

  abbrev Idle : PowerChange → Reply → Type 0
  Idle change reply = (change.stage ≡ stage.Stored) × (change_after change reply ≡ change)

  unread_step : (reply : Reply) → reading_waits most false ≤ left → IsWoken stage.Unread (stage_of (change_after (record { power = Awake; stage = stage.Unread; fault = None }) reply)) read_controls (Idle (record { power = Awake; stage = stage.Unread; fault = None }) reply)
  unread_step (Bytes bytes) few = record { calm = steady_read most sim has (first_byte registers.GlobalControls) (byte_count registers.GlobalControls) steady; less = left; at = few; fewer = omega arith; idles = λ idle. absurd (let wrong : stage.Unread ≡ stage.Stored = idle.0 in cc) }
  unread_step Done few = record { calm = steady_read most sim has (first_byte registers.GlobalControls) (byte_count registers.GlobalControls) steady; less = left; at = few; fewer = omega arith; idles = λ idle. absurd (let wrong : stage.Unread ≡ stage.Stored = idle.0 in cc) }
  unread_step Refused few = record { calm = steady_read most sim has (first_byte registers.GlobalControls) (byte_count registers.GlobalControls) steady; less = left; at = few; fewer = omega arith; idles = λ idle. absurd (let wrong : stage.Unread ≡ stage.Stored = idle.0 in cc) }

  -- the controls are stored
  module _ (byte : ℕ) where
    abbrev stores : Op
    stores = set_controls (wanted_controls Awake byte)

    stored_is : (passed_on conduct stores sim).1 ≡ record sim { control = wanted_controls Awake byte }
    stored_is = stores_half sim (first_byte registers.GlobalControls) (wanted_controls Awake byte ∷ []) has ∙ controls_stored sim (wanted_controls Awake byte)

    awake_mid : has_low_power (passed_on conduct stores sim).1 ≡ false
    awake_mid = ap (λ (s : SimModule). has_low_power s) stored_is ∙ awake_controls byte sim.pin

    steady_mid : IsSteady most (passed_on conduct stores sim).1
    steady_mid = steady_awake most sim (passed_on conduct stores sim).1 (ap (λ (s : SimModule). s.lanes) stored_is) awake_mid (counters_passed most stores sim steady.counters) steady

    steady_found : IsSteady most (module_after sim stores)
    steady_found = steady_tick most (passed_on conduct stores sim).1 steady_mid

    found_step : (reply : Reply) → reading_waits most false ≤ left → IsWoken (stage.Found byte) (stage_of (change_after (record { power = Awake; stage = stage.Found byte; fault = None }) reply)) stores (Idle (record { power = Awake; stage = stage.Found byte; fault = None }) reply)
    found_step (Bytes bytes) few = record { calm = steady_found; less = left; at = few; fewer = omega arith; idles = λ idle. absurd (let wrong : stage.Found byte ≡ stage.Stored = idle.0 in cc) }
    found_step Done few = record {
      calm = steady_found;
      less = left;
      at = (
        power_is (passed_on conduct stores sim).1 ∙ awake_mid,
        (until_awake most, longest_ready most (module_after sim stores).delays (module_after sim stores).state (module_after sim stores).ticks_left steady_found.counters.time steady_found.counters.state, few),
      );
      fewer = omega arith;
      idles = λ idle. absurd (let wrong : stage.Found byte ≡ stage.Stored = idle.0 in cc);
    }
    found_step Refused few = record { calm = steady_found; less = left; at = few; fewer = omega arith; idles = λ idle. absurd (let wrong : stage.Found byte ≡ stage.Stored = idle.0 in cc) }

  -- the state is read
  abbrev state_read : Op
  state_read = read_module_state

  abbrev state_mid : SimModule
  state_mid = (passed_on conduct state_read sim).1

  ready_near : (ticks : ℕ) → has_low_power sim ≡ false → until_ready sim.delays sim.state sim.ticks_left ≤ ticks → (has_low_power (module_after sim state_read) ≡ false)
      × (until_ready (module_after sim state_read).delays (module_after sim state_read).state (module_after sim state_read).ticks_left ≤ ticks - 1)
  ready_near ticks awake near =
      let same = leaves sim A0 (first_byte registers.GlobalStatus) (byte_count registers.GlobalStatus) in
      let run = counters_passed most state_read sim steady.counters in
      let awake_mid : has_low_power state_mid ≡ false = power_kept sim state_mid same ∙ awake in
      let nearer = (module_wakes most state_mid run.time awake_mid run.state).1 in
      let near_mid : until_ready state_mid.delays state_mid.state state_mid.ticks_left ≤ ticks =
      subst (λ (d : Delays). until_ready d state_mid.state state_mid.ticks_left ≤ ticks) (sym same.delays)
      (subst (λ (state : ModuleState). until_ready sim.delays state state_mid.ticks_left ≤ ticks) (sym same.state) (subst (λ (n : ℕ). until_ready sim.delays sim.state n ≤ ticks) (sym same.ticks_left) near)) in (
        power_is state_mid ∙ awake_mid,
        subst (λ (d : Delays). until_ready d (ticked state_mid).state (ticked state_mid).ticks_left ≤ ticks - 1) (sym (kept_delays state_mid)) (omega (arith, nearer, near_mid)),
      )

  stored_state : (ticks : ℕ) → has_low_power sim ≡ false → until_ready sim.delays sim.state sim.ticks_left ≤ ticks → ticks + reading_waits most true ≤ left → Wakes most stage.Stored (module_after sim state_read) left
  stored_state ticks awake near few = let nearer = ready_near ticks awake near in (nearer.0, (ticks - 1, nearer.1, omega (arith, few)))

  read_steady : IsSteady most (module_after sim state_read)
  read_steady = steady_read most sim has (first_byte registers.GlobalStatus) (byte_count registers.GlobalStatus) steady

  abbrev stored_change : PowerChange
  stored_change = record { power = Awake; stage = stage.Stored; fault = None }

  stored_by : (ticks : ℕ) (judged : ReplyJudgement) → has_low_power sim ≡ false → until_ready sim.delays sim.state sim.ticks_left ≤ ticks → ticks + reading_waits most true ≤ left → judged_power Awake (module_codes.code_of sim.state) ≡ judged
      → IsWoken stage.Stored (stage_of (moved_to stored_change (stage_judged judged))) state_read (moved_to stored_change (stage_judged judged) ≡ stored_change)
  stored_by ticks Met awake near few j = record { calm = read_steady; less = left; at = omega (arith, few); fewer = omega arith; idles = λ idle. absurd (let wrong : stage.Met ≡ stage.Stored = ap (λ (c : PowerChange). c.stage) idle in cc) }
  stored_by zero NotYet awake near few j =
      let ready : sim.state ≡ module_is.Ready = none_left_awake most sim.delays sim.state sim.ticks_left steady.counters.state near in
      absurd (let wrong : Met ≡ NotYet = sym (ready_judged sim.state ready) ∙ j in cc)
  stored_by (suc ticks) NotYet awake near few j =
      let nearer = ready_near (suc ticks) awake near in
      record { calm = read_steady; less = ticks + reading_waits most true; at = (nearer.0, (ticks, omega (arith, nearer.1), omega arith)); fewer = omega (arith, few); idles = λ idle. omega (arith, few) }
  stored_by ticks (Fails fault) awake near few j =
      record { calm = read_steady; less = left; at = stored_state ticks awake near few; fewer = omega arith; idles = λ idle. absurd (let wrong : Some fault ≡ None = ap (λ (c : PowerChange). c.fault) idle in cc) }

  stored_step : (reply : Reply) (ticks : ℕ) → reply ≡ reply_of sim state_read → has_low_power sim ≡ false → until_ready sim.delays sim.state sim.ticks_left ≤ ticks → ticks + reading_waits most true ≤ left
      → IsWoken stage.Stored (stage_of (change_after stored_change reply)) state_read (Idle stored_change reply)
  stored_step reply ticks gives awake near few =
      let (page, reads) = reads_half sim (first_byte registers.GlobalStatus) (byte_count registers.GlobalStatus) has in
      let bytes = map (shown_byte sim page) (range_with_len (first_byte registers.GlobalStatus) (byte_count registers.GlobalStatus)) in
      let code : module_code bytes ≡ module_codes.code_of sim.state = read_state sim page in
      let is : change_after stored_change reply ≡ moved_to stored_change (stage_judged (judged_power Awake (module_codes.code_of sim.state))) =
      ap (change_after stored_change) (gives ∙ reads) ∙ ap (λ (code : ℕ). moved_to stored_change (stage_judged (judged_power Awake code))) code in
      let woken = stored_by ticks (judged_power Awake (module_codes.code_of sim.state)) awake near few refl in
      subst (λ (after : PowerChange). IsWoken stage.Stored after.stage state_read ((stage.Stored ≡ stage.Stored) × (after ≡ stored_change))) (sym is)
      (record { calm = woken.calm; less = woken.less; at = woken.at; fewer = woken.fewer; idles = λ idle. woken.idles idle.1 })

  -- whichever stage
  change_step : (power : Power) (at : PowerStage) (fault : Option ProvisionFault) (op : Op) (reply : Reply) → power ≡ Awake → wants_by fault (operation_at power at) ≡ Do op → reply ≡ reply_of sim op → Wakes most at sim left
      → IsWoken at (stage_of (change_after (record { power = power; stage = at; fault = fault }) reply)) op (Idle (record { power = power; stage = at; fault = fault }) reply)
  change_step power at (Some fault) op reply awake wants gives w = absurd cc
  change_step power stage.Met None op reply awake wants gives w = absurd cc
  change_step power stage.Unread None op reply awake wants gives w =
      let same : read_controls ≡ op = cc in
      subst (λ (op : Op). IsWoken stage.Unread (stage_of (change_after (record { power = power; stage = stage.Unread; fault = None }) reply)) op (Idle (record { power = power; stage = stage.Unread; fault = None }) reply)) same
      (subst (λ (power : Power). IsWoken stage.Unread (stage_of (change_after (record { power = power; stage = stage.Unread; fault = None }) reply)) read_controls (Idle (record { power = power; stage = stage.Unread; fault = None }) reply)) (sym awake) (unread_step reply w))
  change_step power (stage.Found byte) None op reply awake wants gives w =
      let same : set_controls (wanted_controls power byte) ≡ op = cc in
      subst (λ (op : Op). IsWoken (stage.Found byte) (stage_of (change_after (record { power = power; stage = stage.Found byte; fault = None }) reply)) op (Idle (record { power = power; stage = stage.Found byte; fault = None }) reply)) same
      (subst (λ (power : Power). IsWoken (stage.Found byte) (stage_of (change_after (record { power = power; stage = stage.Found byte; fault = None }) reply)) (set_controls (wanted_controls power byte)) (Idle (record { power = power; stage = stage.Found byte; fault = None }) reply)) (sym awake)
      (found_step byte reply w))
  change_step power stage.Stored None op reply awake wants gives (low, (ticks, near, few)) =
      let same : read_module_state ≡ op = cc in
      subst (λ (op : Op). IsWoken stage.Stored (stage_of (change_after (record { power = power; stage = stage.Stored; fault = None }) reply)) op (Idle (record { power = power; stage = stage.Stored; fault = None }) reply)) same
      (subst (λ (power : Power). IsWoken stage.Stored (stage_of (change_after (record { power = power; stage = stage.Stored; fault = None }) reply)) read_module_state (Idle (record { power = power; stage = stage.Stored; fault = None }) reply)) (sym awake)
      (stored_step reply ticks (gives ∙ ap (reply_of sim) (sym same)) low near few))

-- the power that is wanted stays
same_power : (change : PowerChange) (reply : Reply) → (change_after change reply).power ≡ change.power
same_power change reply = by (stage_after change.power change.stage reply) where
  by : (found : Result PowerStage ProvisionFault) → (moved_to change found).power ≡ change.power
  by (Ok at) = refl
  by (Err fault) = refl

-- ---- each job

pub job_goes_on : (most : ℕ) (sim : SimModule) (job : Job) (op : Op) (reply : Reply) (left : ℕ) → HasHalves sim → IsCmisJob job → LinkedJob job sim → JobAt most job sim left → asked job ≡ Some op → Answers op reply → reply ≡ reply_of sim op
    → GoesOn most job op reply (module_after sim op) left
job_goes_on most sim (jobs.Reading job woken) op reply left has cmis link (steady, few) asks answers gives =
    let on = job.conversation.conversation in
    let a = asked_on paged_halves job op asks in
    let region = region_wanted (reader.in_hand on.conversation) a.inner a.wants in
    let by = way sim has job op reply asks answers gives cmis link in
    let fetches : IsHarmless a.inner = fetch_is_harmless a.inner (subst IsFetch region.2 (region_fetches region.0)) in
    let harmless : IsHarmless op =
    subst IsHarmless (sym (a.is ∙ ap (λ (by : PageAddressing). wanted by on.selection (reader.page_by (reader.in_hand on.conversation)) a.inner) by))
    (wanted_is_harmless (is_awaited on.selection) a.inner (missing_page on.selection (reader.page_by (reader.in_hand on.conversation))) fetches) in
    record { less = left; at = (steady_harmless most sim op harmless steady, few); fewer = omega arith; waits = λ idle. absurd idle }
job_goes_on most sim (jobs.Waking job) op reply left has cmis link (awake, steady, w) asks answers gives =
    let change = job.conversation.conversation in
    let wants = asked_within power_wants job op asks in
    let woken = change_step most sim has steady left change.power change.stage change.fault op reply awake wants gives w in
    let at : JobAt most (jobs.Waking (waking_after job reply)) (module_after sim op) woken.less =
    kept_within (λ (after : PowerChange). (after.power ≡ Awake) × IsSteady most (module_after sim op) × Wakes most after.stage (module_after sim op) woken.less) power_wants change_after job reply
    (same_power change reply ∙ awake, woken.calm, woken.at) in
    record { less = woken.less; at = at; fewer = woken.fewer; waits = λ idle. woken.idles idle }
job_goes_on most sim (jobs.Sleeping job) op reply left has cmis link at asks answers gives = absurd at
job_goes_on most sim (jobs.Provisioning job goal) op reply left has cmis link (work, whole, run, known, p) asks answers gives =
    let on = job.conversation.conversation in
    let t = asked_on paged_tasks job op asks in
    let next = step most (provisioning_of goal) (Provisions most goal.outside) (provisions_tick most goal.outside) (provisions_left most goal.outside)
    (λ sim has met task left e p. provision_tells most sim has goal.control goal.outside left met task e p) sim has run left on t.inner op reply work known p t.wants t.is gives
    (task_answered sim has job op reply asks answers gives link) in
    let at : JobAt most (jobs.Provisioning (procedure_after job reply) goal) (module_after sim op) next.less =
    kept_within (λ (on : OnPage TaskList). (on.conversation.work ≡ provisioning_of goal) × IsWhole goal × CountersRun most (module_after sim op) × KnownBy on.selection (module_after sim op)
    × Unless on.conversation.fault (Provisions most goal.outside on.conversation.met (module_after sim op) next.less)) (wants_on paged_tasks) (after_on paged_tasks) job reply
    (next.same, whole, next.counters, next.mapped, next.at) in
    record { less = next.less; at = at; fewer = next.fewer; waits = λ idle. next.idles idle }
job_goes_on most sim (jobs.Activating job goal) op reply left has cmis link (work, whole, run, known, p) asks answers gives =
    let on = job.conversation.conversation in
    let t = asked_on paged_tasks job op asks in
    let next = step most (activation_of goal) (Activates most goal.control goal.lanes) (λ met sim left p. activates_tick most goal.control goal.lanes met sim left whole.used p) (activates_left most goal.control goal.lanes)
    (λ sim has met task left e p. activation_tells most sim has goal.control goal.lanes left whole.eight whole.used whole.taken met task e p) sim has run left on t.inner op reply work known p t.wants t.is gives
    (task_answered sim has job op reply asks answers gives link) in
    let at : JobAt most (jobs.Activating (procedure_after job reply) goal) (module_after sim op) next.less =
    kept_within (λ (on : OnPage TaskList). (on.conversation.work ≡ activation_of goal) × IsWhole goal × CountersRun most (module_after sim op) × KnownBy on.selection (module_after sim op)
    × Unless on.conversation.fault (Activates most goal.control goal.lanes on.conversation.met (module_after sim op) next.less)) (wants_on paged_tasks) (after_on paged_tasks) job reply
    (next.same, whole, next.counters, next.mapped, next.at) in
    record { less = next.less; at = at; fewer = next.fewer; waits = λ idle. next.idles idle }
job_goes_on most sim (jobs.Confirming job) op reply left has cmis link at asks answers gives =
    record { less = left; at = confirming_goes_on most job sim op reply has at asks gives; fewer = omega arith; waits = λ idle. absurd idle }
job_goes_on most sim (jobs.Watching job) op reply left has cmis link at asks answers gives = record { less = left; at = tt; fewer = omega arith; waits = λ idle. absurd idle }
