-- The tasks of provisioning a plan of the module's own, once its control bytes are staged: each is met, or waits.
use Rattle.std.proofs.Common.{◌≡◌, inl, inr, ℕ, zero, suc, ◌==◌, not, Bool, true, false, List, [], ◌∷◌, Some, None, All, length, map, unwrap_or, refl, sym, ap, subst, ◌∙◌, if◌then◌else◌}
use Rattle.std.specs.FinSet as set
use Rattle.std.specs.List.{range_with_len}
use Rattle.std.specs.Prelude.{slice_get}
use Rattle.std.proofs.lemmas.Bool.{not-false}
use Rattle.bus_model.specs.declared.device.Dev.TheVariants.{A0}
use Rattle.bus_model.specs.declared.operation.Op.TheVariants.{Fetch}
use Rattle.bus_model.specs.declared.operation.Reply.{Reply}
use Rattle.bus_model.specs.ScriptedBus.{passed_on}
use Rattle.field_tables.specs.LaneSets.{IsLane, Lanes, byte_of, is_empty, lanes_in}
use Rattle.field_tables.specs.Registers.{byte_count, first_byte}
use Rattle.field_tables.specs.declared.field.Register.TheVariants as registers
use Rattle.paged_memory.specs.Images.{Memory}
use Rattle.datapath_states.specs.StatusCodes.{status_code_of}
use Rattle.datapath_states.specs.declared.status.ConfigStatus.{ConfigStatus}
use Rattle.datapath_states.specs.declared.status.ConfigStatus.TheVariants.{Rejected}
use Rattle.applications.specs.Advertised.{advertised_under}
use Rattle.applications.specs.declared.conventions.Conventions.{Conventions}
use Rattle.plan_certificate.specs.declared.path.Path.{Path}
use Rattle.control_sets.specs.declared.fault.ProvisionFault.TheVariants.{ActiveDiffers}
use Rattle.control_sets.specs.declared.procedures.judgement.ReplyJudgement.{ReplyJudgement}
use Rattle.control_sets.specs.declared.procedures.judgement.ReplyJudgement.TheVariants.{Met, NotYet, Fails}
use Rattle.control_sets.specs.declared.procedures.task.Task.{Task}
use Rattle.control_sets.specs.declared.procedures.task.Task.TheVariants as tasks
use Rattle.control_sets.specs.Judgements.{all_lanes_have, at_lane, differing_lane, judged_statuses, judgement, met_unless}
use Rattle.control_sets.specs.PlanLanes.{is_taken, lanes_outside}
use Rattle.control_sets.specs.Tasks.{operation, provisioning}
use Rattle.control_sets.proofs.LaneBits.{in_byte_of}
use Rattle.port_manager.specs.declared.deciding.Goal.{Goal}
use Rattle.sim_module.specs.declared.lane.Lane.{Lane}
use Rattle.sim_module.specs.declared.module.SimModule.{SimModule}
use Rattle.sim_module.specs.Applies.{applied, applied_all, is_applicable, refusal}
use Rattle.sim_module.specs.KeptPaths.{IsActivePath}
use Rattle.sim_module.specs.Lanes.{is_in_progress, lane_at, staged_bytes}
use Rattle.sim_module.specs.Modules.{conduct}
use Rattle.sim_module.specs.OwnAdverts.{own_advert}
use Rattle.sim_module.specs.Record.{fixed_of}
use Rattle.sim_module.specs.ShownBytes.{shown_byte}
use Rattle.sim_module.proofs.IdleModule.{Shows}
use Rattle.sim_module.proofs.SoundModule.{either}
use Rattle.sim_liveness.specs.Accepted.{IsStagedPlan, read_by}
use Rattle.sim_liveness.specs.Timing.{CountersRun}
use Rattle.sim_liveness.proofs.AcceptedPlans.{accepts_plans, in_mask as in_plan_mask}
use Rattle.sim_liveness.proofs.InTime.{none_left}
use Rattle.sim_liveness.proofs.ReadStates.{active_is}
use Rattle.managed_module.specs.Managed.{HasHalves}
use Rattle.managed_module.specs.ManagedPlans.{IsGoalFor}
use Rattle.managed_module.proofs.Halves.{reads_half}
use Rattle.managed_module.proofs.PlanPhases.{Applies, Becomes, IsDown, Rests, fixed_passed, memory_as, provisions_tick}
use Rattle.managed_module.proofs.PlanReplies.{Well, never_fails, statuses_fine}
use Rattle.managed_module.proofs.PlanTaking.{Phase, Tells, check_well, deinit_well, down_well, eight, find_well, read_well, stage_well}
use Rattle.managed_module.proofs.OwnTasks.{OnItsPage, active_judged, after_store, are_applied, by_task, done, in_mask, inside_is, made_by, module_after, not_empty, outside_is, reply_of, status_codes, statuses_end, statuses_told, steady_applied}
use Rattle.managed_module.proofs.Procedures.{IsAwake}
use Rattle.managed_module.proofs.StagedBytes.{lane_is_of, lanes_are, same_differs}
use Rattle.managed_module.proofs.SteadyModules.{apply_stored, counters_passed}

-- a read of the Active Control Set that is the plan's
pub active_met : (most : ℕ) (memory : Memory) (control : List ℕ) (sim : SimModule) (has : HasHalves sim) → Rests most memory control sim → Shows 0x11 sim → (reply : Reply) → reply ≡ reply_of sim (operation (tasks.CheckActive control)) → judgement (tasks.CheckActive control) reply ≡ Met
active_met most memory control sim has rests shows reply gives =
    let (half, reads) = reads_half sim (first_byte registers.ActiveControl) (byte_count registers.ActiveControl) has in
    let bytes = map (shown_byte sim half) (range_with_len (first_byte registers.ActiveControl) (byte_count registers.ActiveControl)) in
    let are : bytes ≡ control = sym (active_is sim half shows rests.steady.eight) ∙ rests.active in
    ap (judgement (tasks.CheckActive control)) (gives ∙ reads) ∙ active_judged control bytes ∙ ap (λ (bytes : List ℕ). met_unless ActiveDiffers (differing_lane bytes control)) are ∙ ap (met_unless ActiveDiffers) (same_differs control)

module _ (most : ℕ) (conventions : Conventions) (memory : Memory) (paths kept : List Path) (goal : Goal) (active : List ℕ) (fits : IsGoalFor conventions paths kept goal memory active) (sim : SimModule) (has : HasHalves sim) where
  abbrev mask : Lanes
  mask = lanes_in (byte_of goal.outside)

  abbrev Fine : ℕ → SimModule → Type 0
  Fine = Phase most conventions memory paths kept goal active fits sim has

  abbrev Does : ℕ → Task → Type 0
  Does = Tells most conventions memory paths kept goal active fits sim has

  after_read : (met address count : ℕ) → Fine met sim → Fine met (module_after sim (Fetch A0 address count))
  after_read = read_well most conventions memory paths kept goal active fits sim has

  len : length goal.control ≡ 8
  len = eight most conventions memory paths kept goal active fits sim has

  -- ---- the module takes the plan

  -- a lane is applied if no kept path has it
  free_or_kept : (lane : ℕ) → IsLane lane → set.contains goal.outside lane ≡ not (is_taken (advertised_under conventions memory) kept lane)
  free_or_kept lane within =
      sym (in_byte_of goal.outside lane within) ∙ ap (λ (lanes : Lanes). set.contains (lanes_in (byte_of lanes)) lane) fits.outside ∙ in_plan_mask (advertised_under conventions memory) kept lane within

  -- and has its byte already if one has it
  kept_byte : (lane : ℕ) → IsLane lane → Rests most memory active sim → set.contains goal.outside lane ≡ false → (lane_at sim lane).active ≡ at_lane goal.control lane
  kept_byte lane within rests out =
      let taken : is_taken (advertised_under conventions memory) kept lane ≡ true = not-false (is_taken (advertised_under conventions memory) kept lane) (sym (free_or_kept lane within) ∙ out) in
      lane_is_of (λ (l : Lane). l.active) sim active lane rests.steady.eight rests.active within ∙ fits.bytes lane within taken

  staged_plan : (is : IsDown most memory active goal.outside sim) → staged_bytes sim ≡ goal.control → IsStagedPlan conventions paths kept sim
  staged_plan is staged =
      let rests = is.rests in
      let mine : IsGoalFor conventions paths kept goal sim.image active = subst (λ (m : Memory). IsGoalFor conventions paths kept goal m active) (sym rests.memory.image) fits in
      let read : (lane : ℕ) → is_taken (read_by conventions sim) kept lane ≡ is_taken (advertised_under conventions memory) kept lane =
      (λ lane. ap (λ (m : Memory). is_taken (advertised_under conventions m) kept lane) rests.memory.image) in
      record {
        own = rests.memory.own ∙ ap own_advert (sym rests.memory.image);
        eight = rests.steady.eight;
        plan = mine.plan;
        keeps = mine.keeps;
        active = subst (λ (bytes : List ℕ). All (IsActivePath (read_by conventions sim) bytes) kept) (sym rests.active) mine.up;
        staged = staged ∙ mine.control;
        down = λ lane within free.
            let outside : set.contains goal.outside lane ≡ true = free_or_kept lane within ∙ ap not (sym (read lane) ∙ free) in
            none_left most sim.delays (lane_at sim lane).path (lane_at sim lane).ticks_left (rests.steady.counters.lanes lane within) (is.down.near lane within outside);
      }

  taken : (is : IsDown most memory active goal.outside sim) → staged_bytes sim ≡ goal.control → is_applicable sim mask ≡ true
  taken is staged =
      let outside : goal.outside ≡ lanes_outside (read_by conventions sim) kept = (subst (λ (m : Memory). IsGoalFor conventions paths kept goal m active) (sym is.rests.memory.image) fits).outside in
      ap (λ (lanes : Lanes). is_applicable sim (lanes_in (byte_of lanes))) outside ∙ accepts_plans conventions paths kept sim (staged_plan is staged)

  -- ---- the apply

  begun_is : (lane : Lane) (status : ConfigStatus) (byte : ℕ) (applicable : Bool) → applicable ≡ true → lane.staged ≡ byte → Becomes true (made_by false applicable lane status) byte
  begun_is lane status byte true e staged = inl (ap (λ (byte : ℕ). Some byte) staged, refl)
  begun_is lane status byte false e staged = absurd cc

  module _ (is : IsDown most memory active goal.outside sim) (staged : staged_bytes sim ≡ goal.control) where
    abbrev BecomesIn : SimModule → ℕ → Bool → Type 0
    BecomesIn next lane inside = Becomes inside (lane_at next lane) (at_lane goal.control lane)

    still : (lane : ℕ) → IsLane lane → set.contains goal.outside lane ≡ false → (next : Lane) → next ≡ lane_at sim lane → Becomes false next (at_lane goal.control lane)
    still lane within out next same = subst (λ (l : Lane). Becomes false l (at_lane goal.control lane)) (sym same) (kept_byte lane within is.rests out, is.rests.steady.none lane within)

    begins : (lane : ℕ) → IsLane lane → set.contains goal.outside lane ≡ true → BecomesIn (applied_all sim mask) lane true
    begins lane within inside =
        subst (λ (l : Lane). Becomes true l (at_lane goal.control lane)) (sym (inside_is most goal.outside sim is.rests.steady lane within inside))
        (begun_is (lane_at sim lane) (unwrap_or (refusal sim mask lane) Rejected) (at_lane goal.control lane) (is_applicable sim mask) (taken is staged) (lane_is_of (λ (l : Lane). l.staged) sim goal.control lane is.rests.steady.eight staged within))

    each_by : (empty : Bool) → is_empty mask ≡ empty → (lane : ℕ) → IsLane lane → (inside : Bool) → set.contains goal.outside lane ≡ inside → BecomesIn (if empty then sim else applied_all sim mask) lane inside
    each_by true e lane within true inside = absurd (not_empty mask lane (in_mask most goal.outside sim is.rests.steady lane true within inside) e)
    each_by true e lane within false out = still lane within out (lane_at sim lane) refl
    each_by false e lane within true inside = begins lane within inside
    each_by false e lane within false out = still lane within out (lane_at (applied_all sim mask) lane) (outside_is most goal.outside sim is.rests.steady lane within out)

    each_applied : (lane : ℕ) → IsLane lane → BecomesIn (applied sim mask) lane (set.contains goal.outside lane)
    unfolding applied
    each_applied lane within = each_by (is_empty mask) refl lane within (set.contains goal.outside lane) refl

    awake_applied : IsAwake (applied sim mask)
    unfolding applied
    awake_applied = either IsAwake (is_empty mask) sim (applied_all sim mask) is.rests.awake is.rests.awake

    pub apply_well : Does 5 (tasks.Apply (byte_of goal.outside))
    apply_well page reply gives judged j =
        let bits = byte_of goal.outside in
        let op = operation (tasks.Apply bits) in
        let mid = (passed_on conduct op sim).1 in
        let next = applied sim mask in
        let met : Met ≡ judged = sym (ap (judgement (tasks.Apply bits)) (done most sim has (first_byte registers.ApplyDPInit) (bits ∷ []) reply gives)) ∙ j in
        let set_to : mid ≡ next = after_store sim (first_byte registers.ApplyDPInit) (bits ∷ []) next has (apply_stored sim bits (page 0x10 refl)) in
        let applies : Applies most memory goal.control goal.outside next = record {
          ticks = most;
          are = are_applied most goal.outside sim is.rests.steady (subst (CountersRun most) set_to (counters_passed most op sim is.rests.steady.counters));
          awake = awake_applied;
          memory = memory_as memory sim next (sym (ap (λ (s : SimModule). fixed_of s) set_to) ∙ fixed_passed op sim) is.rests.memory;
          each = each_applied;
        } in
        let at_mid : Fine 6 mid = subst (λ (s : SimModule). Fine 6 s) (sym set_to) applies in
        subst (λ (judged : ReplyJudgement). Well Fine 5 judged (module_after sim op)) met (provisions_tick most memory goal.control active goal.outside 6 mid at_mid)

  -- ---- it is done

  module _ (applies : Applies most memory goal.control goal.outside sim) where
    inside_each : (lane : ℕ) → IsLane lane → set.contains goal.outside lane ≡ true → Becomes true (lane_at sim lane) (at_lane goal.control lane)
    inside_each lane within inside = subst (λ (b : Bool). Becomes b (lane_at sim lane) (at_lane goal.control lane)) inside (applies.each lane within)

    all_told : OnItsPage (tasks.AwaitApplied goal.outside) sim → (reply : Reply) → reply ≡ reply_of sim (operation (tasks.AwaitApplied goal.outside))
        → judgement (tasks.AwaitApplied goal.outside) reply ≡ judged_statuses goal.outside (status_codes sim)
    all_told page reply gives = statuses_told most sim has goal.outside (page 0x11 refl) reply gives

    has_byte : (lane : ℕ) (inside : Bool) → (inside ≡ true → is_in_progress (lane_at sim lane) ≡ true → ⊥) → Becomes inside (lane_at sim lane) (at_lane goal.control lane) → (lane_at sim lane).active ≡ at_lane goal.control lane
    has_byte lane true over (inl (kept, status)) = absurd (over refl (ap (λ (status : ConfigStatus). status_code_of status == 12) status))
    has_byte lane true over (inr is) = is.active
    has_byte lane false over (same, none) = same

    rests_now : judged_statuses goal.outside (status_codes sim) ≡ Met → Rests most memory goal.control sim
    rests_now ended =
        let over : (lane : ℕ) → IsLane lane → set.contains goal.outside lane ≡ true → is_in_progress (lane_at sim lane) ≡ true → ⊥ = λ lane within inside on. statuses_end sim goal.outside lane within inside ended on in
        record {
          steady = steady_applied most goal.outside applies.ticks sim applies.are over;
          awake = applies.awake;
          memory = applies.memory;
          active = lanes_are (λ (l : Lane). l.active) sim goal.control applies.are.eight len (λ lane within. has_byte lane (set.contains goal.outside lane) (over lane within) (applies.each lane within));
        }

    pub await_well : Does 6 (tasks.AwaitApplied goal.outside)
    await_well page reply gives Met j = after_read 7 (first_byte registers.ConfigStatus) (byte_count registers.ConfigStatus) (rests_now (sym (all_told page reply gives) ∙ j))
    await_well page reply gives NotYet j = after_read 6 (first_byte registers.ConfigStatus) (byte_count registers.ConfigStatus) applies
    await_well page reply gives (Fails fault) j =
        never_fails (all_lanes_have 1 goal.outside (status_codes sim)) fault (sym (statuses_fine sim goal.outside (at_lane goal.control) inside_each) ∙ sym (all_told page reply gives) ∙ j)

  pub active_well : Rests most memory goal.control sim → Does 7 (tasks.CheckActive goal.control)
  active_well rests page reply gives judged j =
      subst (λ (judged : ReplyJudgement). Well Fine 7 judged (module_after sim (operation (tasks.CheckActive goal.control)))) (sym (active_met most memory goal.control sim has rests (page 0x11 refl) reply gives) ∙ j)
      (after_read 8 (first_byte registers.ActiveControl) (byte_count registers.ActiveControl) rests)

  -- ---- whichever task

  pub provisioning_well : (met : ℕ) (task : Task) → slice_get (provisioning goal.control goal.outside) met ≡ Some task → Fine met sim → Does met task
  provisioning_well zero task e at = by_task (Does 0) tasks.FindReady task e (find_well most conventions memory paths kept goal active fits sim has at)
  provisioning_well (suc zero) task e at = by_task (Does 1) (tasks.Deinitialize (byte_of goal.outside)) task e (deinit_well most conventions memory paths kept goal active fits sim has at)
  provisioning_well (suc (suc zero)) task e (rests, bits) = by_task (Does 2) (tasks.AwaitDeactivated goal.outside) task e (down_well most conventions memory paths kept goal active fits sim has rests bits)
  provisioning_well (suc (suc (suc zero))) task e at = by_task (Does 3) (tasks.Stage goal.control) task e (stage_well most conventions memory paths kept goal active fits sim has at)
  provisioning_well (suc (suc (suc (suc zero)))) task e (is, staged) = by_task (Does 4) (tasks.CheckStaged goal.control) task e (check_well most conventions memory paths kept goal active fits sim has is staged)
  provisioning_well (suc (suc (suc (suc (suc zero))))) task e (is, staged) = by_task (Does 5) (tasks.Apply (byte_of goal.outside)) task e (apply_well is staged)
  provisioning_well (suc (suc (suc (suc (suc (suc zero)))))) task e at = by_task (Does 6) (tasks.AwaitApplied goal.outside) task e (await_well at)
  provisioning_well (suc (suc (suc (suc (suc (suc (suc zero))))))) task e at = by_task (Does 7) (tasks.CheckActive goal.control) task e (active_well at)
  provisioning_well (suc (suc (suc (suc (suc (suc (suc (suc met)))))))) task e at = absurd (let none : None ≡ Some task = e in cc)
