-- Waking up a module whose states don't last for longer than the port waits doesn't fail, and the module is ready then.
use Rattle.std.proofs.Common.{[], ◌≡◌, ◌⊎◌, inl, inr, ℕ, ◌+◌, ◌*◌, ◌-◌, ◌≤◌, false, ◌∷◌, Option, Some, None, map, refl, sym, ap, subst, ◌∙◌, true, arith}
use Rattle.std.specs.List.{range_with_len}
use Rattle.std.specs.Prelude.{slice_index}
use Rattle.bus_model.specs.declared.device.Dev.TheVariants.{A0}
use Rattle.bus_model.specs.declared.operation.Op.{Op}
use Rattle.bus_model.specs.declared.operation.Reply.{Reply}
use Rattle.bus_model.specs.declared.operation.Reply.TheVariants.{Bytes, Done, Refused}
use Rattle.bus_model.specs.Operations.{Answers}
use Rattle.bus_model.specs.ScriptedBus.{passed_on, ticked_times}
use Rattle.conversations.specs.declared.next.Next.{Next}
use Rattle.conversations.specs.declared.next.Next.TheVariants.{Do, End}
use Rattle.conversations.specs.declared.pausing.Patience.{Patience}
use Rattle.conversations.specs.declared.pausing.Timed.{Timed}
use Rattle.conversations.specs.declared.pausing.Timed.TheVariants.{InTime}
use Rattle.conversations.specs.declared.within.Spent.{Spent}
use Rattle.conversations.specs.Wanted.{op_of}
use Rattle.field_tables.specs.Registers.{byte_count, first_byte}
use Rattle.field_tables.specs.declared.field.Register.TheVariants as registers
use Rattle.module_states.specs.Codes as module_codes
use Rattle.module_states.specs.declared.state.ModuleState.{ModuleState}
use Rattle.module_states.specs.declared.state.ModuleState.TheVariants as module_is
use Rattle.paged_memory.specs.Images.{Memory}
use Rattle.control_sets.specs.declared.fault.ProvisionFault.{ProvisionFault}
use Rattle.control_sets.specs.declared.procedures.power.Power.{Power}
use Rattle.control_sets.specs.declared.procedures.power.Power.TheVariants.{Awake}
use Rattle.control_sets.specs.declared.procedures.power.PowerChange.{PowerChange}
use Rattle.control_sets.specs.declared.procedures.power.PowerStage.{PowerStage}
use Rattle.control_sets.specs.declared.procedures.power.PowerStage.TheVariants as stage
use Rattle.control_sets.specs.Durations.{patience_for}
use Rattle.control_sets.specs.OutcomeCodes.{module_code}
use Rattle.control_sets.specs.OutcomeOperations.{read_module_state}
use Rattle.control_sets.specs.PowerProgress.{PatientPower, change_after, judged_power, moved_to, operation_at, patient_power, power_wants, stage_judged, wants_by}
use Rattle.port_manager.specs.declared.job.Job.TheVariants as jobs
use Rattle.port_manager.specs.declared.turn.Note.TheVariants as note
use Rattle.port_manager.specs.Jobs.{reading, waking_after, waking_wants}
use Rattle.port_manager.specs.Patients.{pause_after}
use Rattle.port_manager.specs.Turns.{IsWakingTurn, Turn, fault_in, going, woken_up}
use Rattle.port_manager.specs.Turns as turns
use Rattle.port_manager.proofs.LeftLaws.{left_at_stage, left_of_power, left_of_waking}
use Rattle.port_manager.proofs.PatientLaws.{asked_within, kept_within, never_waits}
use Rattle.port_manager.proofs.TurnCases.{power_never}
use Rattle.sim_module.specs.declared.module.SimModule.{SimModule}
use Rattle.sim_module.specs.Down.{has_low_power}
use Rattle.sim_module.specs.Modules.{conduct}
use Rattle.sim_module.specs.ShownBytes.{shown_byte}
use Rattle.sim_liveness.specs.Timing.{ModuleRuns}
use Rattle.sim_liveness.proofs.LeftAlone.{leaves}
use Rattle.sim_liveness.proofs.ReadStates.{read_state}
use Rattle.managed_module.specs.Bounds.{IsSteady, most_waits}
use Rattle.managed_module.specs.Managed.{HasHalves}
use Rattle.managed_module.specs.Succeeds.{IsAwaited}
use Rattle.managed_module.proofs.Halves.{reads_half, stores_half}
use Rattle.managed_module.proofs.JobSteps.{Wakes, job_goes_on, job_paused, reading_waits}
use Rattle.managed_module.proofs.JobTurns.{change_nearer, ends_or_goes, woken_few}
use Rattle.managed_module.proofs.Links.{not_refused}
use Rattle.managed_module.proofs.OwnLanes.{KeepsLanes, lanes_after}
use Rattle.managed_module.proofs.SteadyModules.{controls_stored}
use Rattle.control_sets.specs.PowerControls.{read_controls, set_controls, wanted_controls}
use Rattle.managed_module.proofs.OwnPatience.{HasTime, ends_in_time, time_advanced}
use Rattle.managed_module.proofs.OwnTasks.{module_after, reply_of}
use Rattle.managed_module.proofs.Procedures.{IsAwake, awake_left, awake_tick}
use Rattle.managed_module.proofs.Waits.{power_a0}

-- no fault was found, and the state may be read as often as the module needs to come to it
pub record IsOwnWaking (most : ℕ) (job : PatientPower) (sim : SimModule) : Type 0 where
  pub power : job.conversation.conversation.power ≡ Awake
  pub none : job.conversation.conversation.fault ≡ None
  pub steady : IsSteady most sim
  pub less : ℕ
  pub wakes : Wakes most job.conversation.conversation.stage sim less
  pub time : HasTime (less - reading_waits most true + left_of_waking job) job

pub waking_paused : (most : ℕ) (job : PatientPower) (count : ℕ) (sim : SimModule) → IsOwnWaking most job sim → IsOwnWaking most job (ticked_times conduct count sim)
waking_paused most job count sim w =
    let at = job_paused most (jobs.Waking job) count sim w.less (w.power, w.steady, w.wakes) in
    record { power = w.power; none = w.none; steady = at.1; less = w.less; wakes = at.2; time = w.time }

-- ---- at the beginning

abbrev pub begun_waking : Patience → PatientPower
begun_waking patience = patient_power (record { power = Awake; stage = stage.Unread; fault = None }) patience false 0 0

enough : (most pause limit : ℕ) → (3 * most + 5) * pause ≤ limit → (2 * most + 4) * pause ≤ limit
enough most pause limit time = omega (arith, time, more most pause) where
  more : (most pause : ℕ) → (3 * most + 5) * pause ≡ (2 * most + 4) * pause + (most * pause + pause)
  more most pause = grind arith

waits_awake : (most : ℕ) → most_waits most - reading_waits most true + 3 ≡ 2 * most + 4
waits_awake most = omega arith

pub waking_begins : (most : ℕ) (memory : Memory) (sim : SimModule) → IsAwaited most memory → IsSteady most sim → IsOwnWaking most (begun_waking (patience_for memory)) sim
waking_begins most memory sim awaited steady =
    let patience = patience_for memory in record {
      power = refl;
      none = refl;
      steady = steady;
      less = most_waits most;
      wakes = omega arith;
      time = record {
        pauses = subst (λ (n : ℕ). 0 + n * patience.pause ≤ patience.limit) (sym (waits_awake most)) (omega (arith, enough most patience.pause patience.limit awaited.time));
        steps = omega (arith, waits_awake most, awaited.ticks);
      };
    }

-- ---- one operation

module _ (most : ℕ) (sim : SimModule) (has : HasHalves sim) (steady : IsSteady most sim) where
  -- no fault is found, and the state that is awaited is the module's
  abbrev Told : Op → PowerChange → Type 0
  Told op change = (change.fault ≡ None) × (change.stage ≡ stage.Met → IsAwake (module_after sim op))

  abbrev stored : PowerChange
  stored = record { power = Awake; stage = stage.Stored; fault = None }

  abbrev after_state : ModuleState → PowerChange
  after_state state = moved_to stored (stage_judged (judged_power Awake (module_codes.code_of state)))

  awake_read : sim.state ≡ module_is.Ready → has_low_power sim ≡ false → IsAwake (module_after sim read_module_state)
  awake_read ready low =
      let mid = (passed_on conduct read_module_state sim).1 in
      awake_tick most mid (awake_left most sim mid (leaves sim A0 (first_byte registers.GlobalStatus) (byte_count registers.GlobalStatus)) (ready, low))

  state_told : (state : ModuleState) → sim.state ≡ state → has_low_power sim ≡ false → Told read_module_state (after_state state)
  state_told module_is.LowPwr e low = (refl, λ met. absurd (let wrong : stage.Stored ≡ stage.Met = met in cc))
  state_told module_is.PwrUp e low = (refl, λ met. absurd (let wrong : stage.Stored ≡ stage.Met = met in cc))
  state_told module_is.Ready e low = (refl, λ met. awake_read e low)
  state_told module_is.PwrDn e low = (refl, λ met. absurd (let wrong : stage.Stored ≡ stage.Met = met in cc))
  state_told module_is.Fault e low = absurd (subst (λ (state : ModuleState). ModuleRuns most state sim.ticks_left) e steady.counters.state)

  stored_told : (reply : Reply) → reply ≡ reply_of sim read_module_state → has_low_power sim ≡ false → Told read_module_state (change_after stored reply)
  stored_told reply gives low =
      let (page, reads) = reads_half sim (first_byte registers.GlobalStatus) (byte_count registers.GlobalStatus) has in
      let code : module_code (map (shown_byte sim page) (range_with_len (first_byte registers.GlobalStatus) (byte_count registers.GlobalStatus))) ≡ module_codes.code_of sim.state = read_state sim page in
      let is : change_after stored reply ≡ after_state sim.state =
      ap (change_after stored) (gives ∙ reads) ∙ ap (λ (code : ℕ). moved_to stored (stage_judged (judged_power Awake code))) code in
      subst (Told read_module_state) (sym is) (state_told sim.state refl low)

  abbrev change_at : Power → PowerStage → Option ProvisionFault → PowerChange
  change_at power at fault = record { power = power; stage = at; fault = fault }

  change_told : (less : ℕ) (power : Power) (at : PowerStage) (fault : Option ProvisionFault) (op : Op) (reply : Reply) → power ≡ Awake → fault ≡ None → wants_by fault (operation_at power at) ≡ Do op → reply ≡ reply_of sim op → Wakes most at sim less
      → Told op (change_after (change_at power at fault) reply)
  change_told less power stage.Unread fault op (Bytes bytes) awake none wants gives w = (none, λ met. absurd (let wrong : stage.Found (slice_index bytes.items 0) ≡ stage.Met = met in cc))
  change_told less power stage.Unread fault op Done awake none wants gives w = (none, λ met. absurd (let wrong : stage.Unread ≡ stage.Met = met in cc))
  change_told less power stage.Unread fault op Refused awake none wants gives w = (none, λ met. absurd (let wrong : stage.Unread ≡ stage.Met = met in cc))
  change_told less power (stage.Found byte) fault op (Bytes bytes) awake none wants gives w = (none, λ met. absurd (let wrong : stage.Found byte ≡ stage.Met = met in cc))
  change_told less power (stage.Found byte) fault op Done awake none wants gives w = (none, λ met. absurd (let wrong : stage.Stored ≡ stage.Met = met in cc))
  change_told less power (stage.Found byte) fault op Refused awake none wants gives w = (none, λ met. absurd (let wrong : stage.Found byte ≡ stage.Met = met in cc))
  change_told less power stage.Stored (Some fault) op reply awake none wants gives w = absurd cc
  change_told less power stage.Stored None op reply awake none wants gives (low, near) =
      let same : read_module_state ≡ op = cc in
      subst (λ (op : Op). Told op (change_after (change_at power stage.Stored None) reply)) same
      (subst (λ (power : Power). Told read_module_state (change_after (change_at power stage.Stored None) reply)) (sym awake) (stored_told reply (gives ∙ ap (reply_of sim) (sym same)) low))
  change_told less power stage.Met (Some fault) op reply awake none wants gives w = absurd cc
  change_told less power stage.Met None op reply awake none wants gives w = absurd cc

some_by : (power : Power) (at : PowerStage) (fault : Option ProvisionFault) (op : Op) → wants_by fault (operation_at power at) ≡ Do op → 1 ≤ left_at_stage at fault
some_by power at (Some fault) op wants = absurd cc
some_by power stage.Unread None op wants = omega arith
some_by power (stage.Found byte) None op wants = omega arith
some_by power stage.Stored None op wants = omega arith
some_by power stage.Met None op wants = absurd cc

ended_by : (power : Power) (at : PowerStage) (fault end : Option ProvisionFault) → fault ≡ None → wants_by fault (operation_at power at) ≡ End end → (at ≡ stage.Met) × (end ≡ None)
ended_by power at (Some fault) end none ends = absurd cc
ended_by power stage.Unread None end none ends = absurd cc
ended_by power (stage.Found byte) None end none ends = absurd cc
ended_by power stage.Stored None end none ends = absurd cc
ended_by power stage.Met None end none ends = (refl, let same : ◌≡◌ {A = Next (Option ProvisionFault)} (End None) (End end) = ends in cc)

module _ (most : ℕ) (sim : SimModule) (has : HasHalves sim) (job : PatientPower) (w : IsOwnWaking most job sim) (op : Op) (reply : Reply) (asks : op_of (waking_wants job) ≡ Some op) (answers : Answers op reply) (gives : reply ≡ reply_of sim op) where
  abbrev change : PowerChange
  change = job.conversation.conversation

  abbrev after : SimModule
  after = module_after sim op

  abbrev next : PatientPower
  next = waking_after job reply

  wants : power_wants change ≡ Do op
  wants = asked_within power_wants job op asks

  answered : reply ≡ Refused → ⊥
  answered is = not_refused sim op has (power_a0 change.power change.stage change.fault op wants) (sym gives ∙ is)

  told : Told most sim has w.steady op (change_after change reply)
  told = change_told most sim has w.steady w.less change.power change.stage change.fault op reply w.power w.none wants gives w.wakes

  -- no operation changes lanes
  power_lanes : (power : Power) (at : PowerStage) (fault : Option ProvisionFault) → wants_by fault (operation_at power at) ≡ Do op → (passed_on conduct op sim).1.lanes ≡ sim.lanes
  power_lanes power at (Some fault) wants = absurd cc
  power_lanes power stage.Unread None wants =
      let same : read_controls ≡ op = cc in
      subst (λ (op : Op). (passed_on conduct op sim).1.lanes ≡ sim.lanes) same (leaves sim A0 (first_byte registers.GlobalControls) (byte_count registers.GlobalControls)).lanes
  power_lanes power (stage.Found byte) None wants =
      let same : set_controls (wanted_controls power byte) ≡ op = cc in
      subst (λ (op : Op). (passed_on conduct op sim).1.lanes ≡ sim.lanes) same
      (ap (λ (s : SimModule). s.lanes) (stores_half sim (first_byte registers.GlobalControls) (wanted_controls power byte ∷ []) has ∙ controls_stored sim (wanted_controls power byte)))
  power_lanes power stage.Stored None wants =
      let same : read_module_state ≡ op = cc in
      subst (λ (op : Op). (passed_on conduct op sim).1.lanes ≡ sim.lanes) same (leaves sim A0 (first_byte registers.GlobalStatus) (byte_count registers.GlobalStatus)).lanes
  power_lanes power stage.Met None wants = absurd cc

  pub waking_lanes : (first : SimModule) → KeepsLanes first sim → KeepsLanes first after
  waking_lanes first spares = lanes_after most first sim (passed_on conduct op sim).1 w.steady (power_lanes change.power change.stage change.fault wants) spares

  -- the conversation within is what the reply makes of it
  kept : (P : PowerChange → Type 0) → P (change_after change reply) → P next.conversation.conversation
  kept P p = kept_within P power_wants change_after job reply p

  left_is : left_of_waking next ≡ left_of_power (change_after change reply)
  left_is = kept (λ after. left_of_power after ≡ left_of_power (change_after change reply)) refl

  pub record IsNext : Type 0 where
    pub now : IsOwnWaking most next after
    pub more : ℕ
    pub fewer : more + 1 ≤ w.less - reading_waits most true + left_of_waking job
    pub left : left_of_waking next ≤ more

  is_next : IsNext
  is_next =
      let on = job_goes_on most sim (jobs.Waking job) op reply w.less has tt tt (w.power, w.steady, w.wakes) asks answers gives in
      let less = on.less - reading_waits most true in
      let few = woken_few most next.conversation.conversation.stage after on.less on.at.2 in
      let was = woken_few most change.stage sim w.less w.wakes in
      by on.less few was on.at on.fewer on.waits (change_nearer change.power change.stage change.fault op reply wants answers answered) where
        by : (less : ℕ) → reading_waits most true ≤ less → reading_waits most true ≤ w.less → (next.conversation.conversation.power ≡ Awake) × IsSteady most after × Wakes most next.conversation.conversation.stage after less → less ≤ w.less
            → ((change.stage ≡ stage.Stored) × (change_after change reply ≡ change) → less + 1 ≤ w.less)
            → (left_of_power (change_after change reply) + 1 ≤ left_of_power change) ⊎ ((change.stage ≡ stage.Stored) × (change_after change reply ≡ change)) → IsNext
        by less few was at fewer waits either =
            let near : less - reading_waits most true + left_of_waking next + 1 ≤ w.less - reading_waits most true + left_of_waking job = nearer either in record {
              now = record {
                power = at.0;
                none = kept (λ after. after.fault ≡ None) told.0;
                steady = at.1;
                less = less;
                wakes = at.2;
                time = time_advanced power_wants change_after (w.less - reading_waits most true + left_of_waking job) (less - reading_waits most true + left_of_waking next) job reply near w.time;
              };
              more = less - reading_waits most true + left_of_waking next;
              fewer = near;
              left = omega arith;
            } where
              nearer : (left_of_power (change_after change reply) + 1 ≤ left_of_power change) ⊎ ((change.stage ≡ stage.Stored) × (change_after change reply ≡ change))
                  → less - reading_waits most true + left_of_waking next + 1 ≤ w.less - reading_waits most true + left_of_waking job
              nearer (inl less_left) = omega (arith, less_left, left_is, few, was, fewer)
              nearer (inr idle) = omega (arith, ap left_of_power idle.1, left_is, few, was, waits idle)

  met : (end : Option ProvisionFault) → power_wants (change_after change reply) ≡ End end → (end ≡ None) × IsAwake after
  met end ends =
      let both = ended_by (change_after change reply).power (change_after change reply).stage (change_after change reply).fault end told.0 ends in
      (both.1, told.1 both.0)

  module _ (Q : Turn → Type 0) (goes : IsOwnWaking most next after → Q (going (pause_after power_wants change_after job reply) (jobs.Waking next))) (woken : IsSteady most after → IsAwake after → Q (turns.On (reading true) note.Woken)) where
    ended : (spent : Spent (Timed (Option ProvisionFault))) (turn : Turn) → waking_wants next ≡ End spent → turn ≡ woken_up next.conversation.conversation.stage (fault_in spent.end) → Q turn
    ended spent turn e is =
        let (end, in_time, own) = ends_in_time power_wants change_after (w.less - reading_waits most true + left_of_waking job) is_next.more job reply spent is_next.fewer w.time
        (λ op does. omega (arith, some_by (change_after change reply).power (change_after change reply).stage (change_after change reply).fault op does, left_is, is_next.left)) power_never e in
        let (none, awake) = met end own in
        let no_fault : fault_in spent.end ≡ None = ap fault_in (in_time ∙ ap (λ (end : Option ProvisionFault). Some (InTime end)) none) in
        subst Q (sym (is ∙ ap (woken_up next.conversation.conversation.stage) no_fault)) (woken is_next.now.steady awake)

    -- it goes on, or the module is ready
    pub waking_turns : (turn : Turn) → IsWakingTurn job reply turn → Q turn
    waking_turns turn is =
        ends_or_goes (waking_wants next) (pause_after power_wants change_after job reply) (jobs.Waking next) (λ end turn. turn ≡ woken_up next.conversation.conversation.stage (fault_in end)) turn Q is
        (λ op e. goes is_next.now) (λ time e. never_waits power_wants change_after job reply time power_never e) (λ spent e ended_in. ended spent turn e ended_in)
