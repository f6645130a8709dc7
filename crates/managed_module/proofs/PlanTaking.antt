-- The tasks of provisioning a plan of the module's own, up to its control bytes being staged: each is met, or waits.
use Rattle.std.proofs.Common.{◌≡◌, inl, ℕ, ◌≤◌, List, [], ◌∷◌, length, map, refl, sym, ap, subst, ◌∙◌, arith}
use Rattle.std.specs.FinSet as set
use Rattle.std.specs.List.{range_with_len}
use Rattle.bus_model.specs.declared.device.Dev.TheVariants.{A0}
use Rattle.bus_model.specs.declared.operation.Op.TheVariants.{Fetch}
use Rattle.bus_model.specs.declared.operation.Reply.{Reply}
use Rattle.bus_model.specs.ScriptedBus.{passed_on}
use Rattle.field_tables.specs.LaneSets.{Lanes, byte_of, lanes_in}
use Rattle.field_tables.specs.Registers.{byte_count, first_byte}
use Rattle.field_tables.specs.declared.field.Register.TheVariants as registers
use Rattle.paged_memory.specs.Images.{Memory}
use Rattle.module_states.specs.Codes as module_codes
use Rattle.module_states.specs.declared.state.ModuleState.{ModuleState}
use Rattle.module_states.specs.declared.state.ModuleState.TheVariants.{Ready}
use Rattle.datapath_states.specs.Lanes.{codes_in}
use Rattle.datapath_states.specs.StateCodes.{code_of}
use Rattle.datapath_states.specs.declared.state.PathState.{PathState}
use Rattle.datapath_states.specs.declared.state.PathState.TheVariants.{Deactivated}
use Rattle.applications.specs.Advertised.{advertised_under}
use Rattle.applications.specs.declared.conventions.Conventions.{Conventions}
use Rattle.plan_certificate.specs.declared.path.Path.{Path}
use Rattle.control_sets.specs.declared.fault.ProvisionFault.TheVariants.{StagedDiffers}
use Rattle.control_sets.specs.declared.procedures.judgement.ReplyJudgement.{ReplyJudgement}
use Rattle.control_sets.specs.declared.procedures.judgement.ReplyJudgement.TheVariants.{Met, NotYet, Fails}
use Rattle.control_sets.specs.declared.procedures.task.Task.{Task}
use Rattle.control_sets.specs.declared.procedures.task.Task.TheVariants as tasks
use Rattle.control_sets.specs.Judgements.{all_lanes_have, differing_lane, judged_module, judged_states, judgement, met_if, met_unless}
use Rattle.control_sets.specs.Tasks.{operation}
use Rattle.control_sets.proofs.LaneBits.{in_byte_of}
use Rattle.port_manager.specs.declared.deciding.Goal.{Goal}
use Rattle.sim_module.specs.declared.delays.Delays.{Delays}
use Rattle.sim_module.specs.declared.module.SimModule.{SimModule}
use Rattle.sim_module.specs.Lanes.{lane_at, staged_bytes}
use Rattle.sim_module.specs.Modules.{conduct}
use Rattle.sim_module.specs.Record.{fixed_of}
use Rattle.sim_module.specs.ShownBytes.{shown_byte}
use Rattle.sim_module.specs.Stores.{stored_bytes}
use Rattle.sim_liveness.specs.Timing.{CountersRun, until_down}
use Rattle.sim_liveness.proofs.ReadStates.{shown_codes}
use Rattle.managed_module.specs.Managed.{HasHalves}
use Rattle.managed_module.specs.ManagedPlans.{IsGoalFor}
use Rattle.managed_module.proofs.GoalLanes.{length_of}
use Rattle.managed_module.proofs.Halves.{reads_half, stores_half}
use Rattle.managed_module.proofs.PlanPhases.{HoldsDown, IsDown, Provisions, Rests, fixed_passed, memory_as, provisions_harmless, provisions_tick}
use Rattle.managed_module.proofs.PlanReplies.{Well, found_down, is_met, never_fails, states_judged}
use Rattle.managed_module.proofs.OwnTasks.{OnItsPage, after_store, deactivated_judged, done, module_after, paths_told, ready_told, reply_of, staged_judged}
use Rattle.managed_module.proofs.Procedures.{GoDown}
use Rattle.managed_module.proofs.StagedBytes.{leaves_rest, same_differs, staged_is_read, stages_all}
use Rattle.managed_module.proofs.SteadyModules.{SameLane, counters_passed, deinit_stored, leaves_deinit, leaves_stage, steady_left}

-- a read of the state of a module that is ready
pub ready_is : (most : ℕ) (sim : SimModule) (has : HasHalves sim) (reply : Reply) → reply ≡ reply_of sim (operation tasks.FindReady) → sim.state ≡ Ready → judgement tasks.FindReady reply ≡ Met
ready_is most sim has reply gives ready = ready_told most sim has reply gives ∙ ap (λ (state : ModuleState). judged_module (module_codes.code_of state)) ready

-- lanes go down as they did
down_as : (lanes : Lanes) (ticks : ℕ) (sim after : SimModule) → after.deinit ≡ sim.deinit → after.delays ≡ sim.delays → ((lane : ℕ) → SameLane (lane_at sim lane) (lane_at after lane)) → GoDown lanes ticks sim → GoDown lanes ticks after
down_as lanes ticks sim after deinit delays same down = record {
  bits = λ lane within inside. ap (λ (bits : Lanes). set.contains bits lane) deinit ∙ down.bits lane within inside;
  near = λ lane within inside.
      subst (λ (d : Delays). until_down d (lane_at after lane).path (lane_at after lane).ticks_left ≤ ticks) (sym delays)
      (subst (λ (path : PathState). until_down sim.delays path (lane_at after lane).ticks_left ≤ ticks) (sym (same lane).path)
      (subst (λ (left : ℕ). until_down sim.delays (lane_at sim lane).path left ≤ ticks) (sym (same lane).ticks_left) (down.near lane within inside)));
}

module _ (most : ℕ) (conventions : Conventions) (memory : Memory) (paths kept : List Path) (goal : Goal) (active : List ℕ) (fits : IsGoalFor conventions paths kept goal memory active) (sim : SimModule) (has : HasHalves sim) where
  abbrev pub Phase : ℕ → SimModule → Type 0
  Phase = Provisions most memory goal.control active goal.outside

  abbrev pub Tells : ℕ → Task → Type 0
  Tells met task = OnItsPage task sim → (reply : Reply) → reply ≡ reply_of sim (operation task) → (judged : ReplyJudgement) → judgement task reply ≡ judged → Well Phase met judged (module_after sim (operation task))

  -- after a read
  pub read_well : (met address count : ℕ) → Phase met sim → Phase met (module_after sim (Fetch A0 address count))
  read_well met address count at = provisions_harmless most memory goal.control active goal.outside (Fetch A0 address count) sim (inl (A0, address, count, refl)) met at

  pub eight : length goal.control ≡ 8
  eight = ap (λ (control : List ℕ). length control) fits.control ∙ length_of (advertised_under conventions memory) paths

  pub find_well : Rests most memory active sim → Tells 0 tasks.FindReady
  find_well rests page reply gives judged j =
      let met : Met ≡ judged = sym (ready_is most sim has reply gives rests.awake.0) ∙ j in
      subst (λ (judged : ReplyJudgement). Well Phase 0 judged (module_after sim (operation tasks.FindReady))) met (read_well 1 (first_byte registers.GlobalStatus) (byte_count registers.GlobalStatus) rests)

  -- ---- lanes are taken down

  pub deinit_well : Rests most memory active sim → Tells 1 (tasks.Deinitialize (byte_of goal.outside))
  deinit_well rests page reply gives judged j =
      let bits = byte_of goal.outside in
      let op = operation (tasks.Deinitialize bits) in
      let next = record sim { deinit = lanes_in bits } in
      let mid = (passed_on conduct op sim).1 in
      let met : Met ≡ judged = sym (ap (judgement (tasks.Deinitialize bits)) (done most sim has (first_byte registers.DPDeinit) (bits ∷ []) reply gives)) ∙ j in
      let set_to : mid ≡ next = after_store sim (first_byte registers.DPDeinit) (bits ∷ []) next has (deinit_stored sim bits (page 0x10 refl)) in
      let run : CountersRun most next = subst (CountersRun most) set_to (counters_passed most op sim rests.steady.counters) in
      let rests_next : Rests most memory active next = record {
        steady = steady_left most sim next (leaves_deinit sim (lanes_in bits)) run rests.steady;
        awake = rests.awake;
        memory = record { image = rests.memory.image; own = rests.memory.own };
        active = rests.active;
      } in
      let bits_next : HoldsDown goal.outside next = λ lane within inside. in_byte_of goal.outside lane within ∙ inside in
      let at_mid : Phase 2 mid = subst (λ (s : SimModule). Phase 2 s) (sym set_to) (rests_next, bits_next) in
      subst (λ (judged : ReplyJudgement). Well Phase 1 judged (module_after sim op)) met (provisions_tick most memory goal.control active goal.outside 2 mid at_mid)

  states_told : OnItsPage (tasks.AwaitDeactivated goal.outside) sim → (reply : Reply) → reply ≡ reply_of sim (operation (tasks.AwaitDeactivated goal.outside))
      → judgement (tasks.AwaitDeactivated goal.outside) reply ≡ met_if (all_lanes_have (code_of Deactivated) goal.outside (shown_codes sim))
  states_told page reply gives =
      paths_told most sim has (tasks.AwaitDeactivated goal.outside) (λ bytes. judged_states goal.outside goal.outside Deactivated (codes_in bytes 8)) refl (deactivated_judged goal.outside) (page 0x11 refl) reply gives
      ∙ states_judged sim goal.outside goal.outside Deactivated

  pub down_well : Rests most memory active sim → HoldsDown goal.outside sim → Tells 2 (tasks.AwaitDeactivated goal.outside)
  down_well rests bits page reply gives Met j =
      let all = is_met (all_lanes_have (code_of Deactivated) goal.outside (shown_codes sim)) (sym (states_told page reply gives) ∙ j) in
      let down : GoDown goal.outside 0 sim = record {
        bits = bits;
        near = λ lane within inside. subst (λ (path : PathState). until_down sim.delays path (lane_at sim lane).ticks_left ≤ 0) (sym (found_down sim goal.outside lane within inside all)) (omega arith);
      } in
      read_well 3 (first_byte registers.PathStates) (byte_count registers.PathStates) (record { rests = rests; down = down })
  down_well rests bits page reply gives NotYet j = read_well 2 (first_byte registers.PathStates) (byte_count registers.PathStates) (rests, bits)
  down_well rests bits page reply gives (Fails fault) j = never_fails (all_lanes_have (code_of Deactivated) goal.outside (shown_codes sim)) fault (sym (states_told page reply gives) ∙ j)

  -- ---- control bytes are staged

  pub stage_well : IsDown most memory active goal.outside sim → Tells 3 (tasks.Stage goal.control)
  stage_well is page reply gives judged j =
      let op = operation (tasks.Stage goal.control) in
      let next = stored_bytes sim (first_byte registers.StagedControl) goal.control in
      let mid = (passed_on conduct op sim).1 in
      let met : Met ≡ judged = sym (ap (judgement (tasks.Stage goal.control)) (done most sim has (first_byte registers.StagedControl) goal.control reply gives)) ∙ j in
      let set_to : mid ≡ next = stores_half sim (first_byte registers.StagedControl) goal.control has in
      let run : CountersRun most next = subst (CountersRun most) set_to (counters_passed most op sim is.rests.steady.counters) in
      let same = leaves_stage sim goal.control in
      let rest = leaves_rest sim goal.control in
      let rests_next : Rests most memory active next = record {
        steady = steady_left most sim next same run is.rests.steady;
        awake = (same.state ∙ is.rests.awake.0, same.power ∙ is.rests.awake.1);
        memory = memory_as memory sim next (sym (ap (λ (s : SimModule). fixed_of s) set_to) ∙ fixed_passed op sim) is.rests.memory;
        active = rest.active ∙ is.rests.active;
      } in
      let down_next : IsDown most memory active goal.outside next = record { rests = rests_next; down = down_as goal.outside 0 sim next rest.deinit rest.delays same.lanes is.down } in
      let at_mid : Phase 4 mid = subst (λ (s : SimModule). Phase 4 s) (sym set_to) (down_next, stages_all sim goal.control (page 0x10 refl) is.rests.steady.eight eight) in
      subst (λ (judged : ReplyJudgement). Well Phase 3 judged (module_after sim op)) met (provisions_tick most memory goal.control active goal.outside 4 mid at_mid)

  pub check_well : IsDown most memory active goal.outside sim → staged_bytes sim ≡ goal.control → Tells 4 (tasks.CheckStaged goal.control)
  check_well is staged page reply gives judged j =
      let (half, reads) = reads_half sim (first_byte registers.StagedControl) (byte_count registers.StagedControl) has in
      let bytes = map (shown_byte sim half) (range_with_len (first_byte registers.StagedControl) (byte_count registers.StagedControl)) in
      let are : bytes ≡ goal.control = staged_is_read sim half (page 0x10 refl) is.rests.steady.eight ∙ staged in
      let met : Met ≡ judged =
      sym (ap (judgement (tasks.CheckStaged goal.control)) (gives ∙ reads) ∙ staged_judged goal.control bytes ∙ ap (λ (bytes : List ℕ). met_unless StagedDiffers (differing_lane bytes goal.control)) are ∙ ap (met_unless StagedDiffers) (same_differs goal.control)) ∙ j in
      subst (λ (judged : ReplyJudgement). Well Phase 4 judged (module_after sim (operation (tasks.CheckStaged goal.control)))) met (read_well 5 (first_byte registers.StagedControl) (byte_count registers.StagedControl) (is, staged))
