-- In each state that ends by itself a counter runs, at the start and always.
use Rattle.std.proofs.Common.{◌≡◌, ◌+◌, ℕ, Bool, true, false, List, [], ◌∷◌, Option, Some, None, take, nat_lt, refl, sym, ap, subst, ◌∙◌, if◌then◌else◌}
use Rattle.std.specs.Prelude.{◌-◌, ◌==◌, ◌&&◌, not, nat_le, is_none, is_some, unwrap_or, IsTrue}
use Rattle.std.proofs.lemmas.Bool.{leb-true}
use Rattle.bus_model.specs.declared.operation.Op.{Op}
use Rattle.bus_model.specs.declared.operation.Op.TheVariants.{Fetch, Store}
use Rattle.bus_model.specs.Keeping.{IsKeptBy}
use Rattle.field_tables.specs.FirstFault.{first_fault}
use Rattle.field_tables.specs.LaneSets.{IsLane, Lanes, is_empty, lanes_in}
use Rattle.field_tables.specs.Registers.{first_byte}
use Rattle.field_tables.specs.declared.field.Register.TheVariants as registers
use Rattle.std.specs.FinSet as set
use Rattle.paged_memory.specs.Images.{Memory}
use Rattle.module_states.specs.declared.state.ModuleState.{ModuleState}
use Rattle.module_states.specs.declared.state.ModuleState.TheVariants as module_is
use Rattle.module_states.specs.Transitions as module_table
use Rattle.datapath_states.specs.declared.state.PathState.{PathState}
use Rattle.datapath_states.specs.declared.status.ConfigStatus.{ConfigStatus}
use Rattle.datapath_states.specs.declared.status.ConfigStatus.TheVariants.{InProgress, Rejected, RejectedInvalidAppSel, RejectedInvalidDataPath, RejectedInvalidSi, RejectedLanesInUse, RejectedPartialDataPath}
use Rattle.datapath_states.specs.StatusCodes.{status_code_of}
use Rattle.sim_module.specs.declared.delays.Delays.{Delays}
use Rattle.sim_module.specs.declared.lane.Lane.{Lane}
use Rattle.sim_module.specs.declared.module.SimModule.{SimModule}
use Rattle.sim_module.specs.Applies.{applied, applied_all, applied_to, are_paths_within, begun_lane, dropped_lane, is_applicable, is_explicit, is_path_right, is_staged, refusal, refused_lane, staged_app}
use Rattle.sim_module.specs.Down.{asks_low_power, has_low_power, is_down}
use Rattle.sim_module.specs.Lanes.{is_deactivated, is_in_progress, lane_at}
use Rattle.sim_module.specs.Modules.{conduct}
use Rattle.sim_module.specs.Registers.{is_at, is_from, is_in}
use Rattle.sim_module.specs.ShownBytes.{cleared, is_mapped}
use Rattle.sim_module.specs.Soundness.{IsAlwaysKept}
use Rattle.sim_module.specs.Starts.{are_delays, byte_of_register, start, start_lane}
use Rattle.sim_module.specs.Stores.{staged_at, stored_byte, stored_bytes, stored_high, stored_low}
use Rattle.sim_module.specs.Ticks.{all_deactivated, applied_by, is_last, next_module_state, next_path_state, ticked}
use Rattle.sim_liveness.specs.Timing.{ApplyRuns, CountersRun, HaveTime, IsWithin, LaneRuns, ModuleRuns, Runs}
use Rattle.sim_liveness.proofs.InTime.{Nears_down, Nears_up, counts, kept_delays, left_is, module_left, module_next, near_down, near_up, next_down, next_up, state_by, state_is}
use Rattle.sim_liveness.proofs.AppliedInTime.{kept_count, lane_is, moved, ticked_by}
use Rattle.sim_liveness.proofs.TickedLanes.{left_next, reads_left, reads_path}
use Rattle.sim_module.proofs.LanesInTime.{made_lane}
use Rattle.sim_module.proofs.ProvisioningKeeps.{restaged}
use Rattle.sim_module.proofs.SoundModule.{either, fetched_keeps, stored_keeps}

abbrev is_progress : ConfigStatus → Bool
is_progress status = status_code_of status == status_code_of InProgress

abbrev by_any : ModuleState → Bool → Bool → Bool → ModuleState
by_any module_is.LowPwr true true true = module_is.LowPwr
by_any module_is.LowPwr true true false = module_is.LowPwr
by_any module_is.LowPwr true false true = module_is.LowPwr
by_any module_is.LowPwr true false false = module_is.LowPwr
by_any module_is.LowPwr false true true = module_is.PwrUp
by_any module_is.LowPwr false true false = module_is.PwrUp
by_any module_is.LowPwr false false true = module_is.PwrUp
by_any module_is.LowPwr false false false = module_is.PwrUp
by_any module_is.PwrUp true true true = module_is.Ready
by_any module_is.PwrUp true true false = module_is.PwrUp
by_any module_is.PwrUp true false true = module_is.Ready
by_any module_is.PwrUp true false false = module_is.PwrUp
by_any module_is.PwrUp false true true = module_is.Ready
by_any module_is.PwrUp false true false = module_is.PwrUp
by_any module_is.PwrUp false false true = module_is.Ready
by_any module_is.PwrUp false false false = module_is.PwrUp
by_any module_is.Ready true true true = module_is.PwrDn
by_any module_is.Ready true true false = module_is.PwrDn
by_any module_is.Ready true false true = module_is.Ready
by_any module_is.Ready true false false = module_is.Ready
by_any module_is.Ready false true true = module_is.Ready
by_any module_is.Ready false true false = module_is.Ready
by_any module_is.Ready false false true = module_is.Ready
by_any module_is.Ready false false false = module_is.Ready
by_any module_is.PwrDn true true true = module_is.LowPwr
by_any module_is.PwrDn true true false = module_is.PwrDn
by_any module_is.PwrDn true false true = module_is.LowPwr
by_any module_is.PwrDn true false false = module_is.PwrDn
by_any module_is.PwrDn false true true = module_is.LowPwr
by_any module_is.PwrDn false true false = module_is.PwrDn
by_any module_is.PwrDn false false true = module_is.LowPwr
by_any module_is.PwrDn false false false = module_is.PwrDn
by_any module_is.Fault true true true = module_is.Fault
by_any module_is.Fault true true false = module_is.Fault
by_any module_is.Fault true false true = module_is.Fault
by_any module_is.Fault true false false = module_is.Fault
by_any module_is.Fault false true true = module_is.Fault
by_any module_is.Fault false true false = module_is.Fault
by_any module_is.Fault false false true = module_is.Fault
by_any module_is.Fault false false false = module_is.Fault

next_any : (state : ModuleState) (low_power deactivated done : Bool) → module_next state low_power deactivated done ≡ by_any state low_power deactivated done
unfolding module_table.next_of
next_any module_is.LowPwr true true true = refl
next_any module_is.LowPwr true true false = refl
next_any module_is.LowPwr true false true = refl
next_any module_is.LowPwr true false false = refl
next_any module_is.LowPwr false true true = refl
next_any module_is.LowPwr false true false = refl
next_any module_is.LowPwr false false true = refl
next_any module_is.LowPwr false false false = refl
next_any module_is.PwrUp true true true = refl
next_any module_is.PwrUp true true false = refl
next_any module_is.PwrUp true false true = refl
next_any module_is.PwrUp true false false = refl
next_any module_is.PwrUp false true true = refl
next_any module_is.PwrUp false true false = refl
next_any module_is.PwrUp false false true = refl
next_any module_is.PwrUp false false false = refl
next_any module_is.Ready true true true = refl
next_any module_is.Ready true true false = refl
next_any module_is.Ready true false true = refl
next_any module_is.Ready true false false = refl
next_any module_is.Ready false true true = refl
next_any module_is.Ready false true false = refl
next_any module_is.Ready false false true = refl
next_any module_is.Ready false false false = refl
next_any module_is.PwrDn true true true = refl
next_any module_is.PwrDn true true false = refl
next_any module_is.PwrDn true false true = refl
next_any module_is.PwrDn true false false = refl
next_any module_is.PwrDn false true true = refl
next_any module_is.PwrDn false true false = refl
next_any module_is.PwrDn false false true = refl
next_any module_is.PwrDn false false false = refl
next_any module_is.Fault true true true = refl
next_any module_is.Fault true true false = refl
next_any module_is.Fault true false true = refl
next_any module_is.Fault true false false = refl
next_any module_is.Fault false true true = refl
next_any module_is.Fault false true false = refl
next_any module_is.Fault false false true = refl
next_any module_is.Fault false false false = refl

-- what is in progress after a tick was before, and isn't at its end
applied_progress : (lane : Lane) (kept : Option ℕ) → lane.applying ≡ kept → (is_in_progress lane ≡ true → IsTrue (is_some lane.applying)) → is_in_progress (applied_by kept lane) ≡ true → ⊥
applied_progress lane (Some byte) is keeps on = cc
applied_progress lane None is keeps on = let Keeps : Option ℕ → Type 0 = λ o. IsTrue (is_some o) in let none : Keeps None = subst Keeps is (keeps on) in absurd (let wrong : false ≡ true = none in cc)

dropped_same : (lane : Lane) (kept : Bool) → is_some lane.applying ≡ kept → ((dropped_lane lane).path ≡ lane.path) × ((dropped_lane lane).ticks_left ≡ lane.ticks_left)
dropped_same lane kept e =
    subst (λ (l : Lane). (l.path ≡ lane.path) × (l.ticks_left ≡ lane.ticks_left)) (sym (ap (λ (kept : Bool). if kept then record lane { status = Rejected; applying = None } else lane) e)) (by kept) where
      by : (kept : Bool) → ((if kept then record lane { status = Rejected; applying = None } else lane).path ≡ lane.path) × ((if kept then record lane { status = Rejected; applying = None } else lane).ticks_left ≡ lane.ticks_left)
      by true = (refl, refl)
      by false = (refl, refl)

applied_if : (sim : SimModule) (mask : Lanes) (lane : ℕ) (outside applicable : Bool)
    → let l = (if outside then dropped_lane (lane_at sim lane) else if applicable then begun_lane (lane_at sim lane) else refused_lane (lane_at sim lane) (unwrap_or (refusal sim mask lane) Rejected)) in
    (l.path ≡ (lane_at sim lane).path) × (l.ticks_left ≡ (lane_at sim lane).ticks_left)
applied_if sim mask lane true applicable = dropped_same (lane_at sim lane) (is_some (lane_at sim lane).applying) refl
applied_if sim mask lane false true = (refl, refl)
applied_if sim mask lane false false = (refl, refl)

applied_same : (sim : SimModule) (mask : Lanes) (lane : ℕ) → ((applied_to sim mask lane).path ≡ (lane_at sim lane).path) × ((applied_to sim mask lane).ticks_left ≡ (lane_at sim lane).ticks_left)
unfolding applied_to
applied_same sim mask lane = applied_if sim mask lane (not (set.contains mask lane)) (is_applicable sim mask)

-- no refusal is that an apply is in progress
no_progress : (a b c d e : Bool) → is_progress (unwrap_or (first_fault ((a, RejectedLanesInUse) ∷ (b, RejectedInvalidAppSel) ∷ (c, RejectedInvalidSi) ∷ (d, RejectedInvalidDataPath) ∷ (e, RejectedPartialDataPath) ∷ [])) Rejected) ≡ false
no_progress true b c d e = refl
no_progress false true c d e = refl
no_progress false false true d e = refl
no_progress false false false true e = refl
no_progress false false false false true = refl
no_progress false false false false false = refl

refused_progress : (sim : SimModule) (mask : Lanes) (lane : ℕ) → is_progress (unwrap_or (refusal sim mask lane) Rejected) ≡ false
unfolding refusal
refused_progress sim mask lane =
    no_progress (not (is_deactivated sim lane)) (is_staged sim lane && is_none (staged_app sim lane)) (is_staged sim lane && is_explicit sim lane) (is_staged sim lane && not (is_path_right sim lane)) (not (are_paths_within sim mask lane))

dropped_by : (lane : Lane) (kept : Option ℕ) → lane.applying ≡ kept → (is_in_progress lane ≡ true → IsTrue (is_some lane.applying))
    → is_in_progress (if is_some kept then record lane { status = Rejected; applying = None } else lane) ≡ true → ⊥
dropped_by lane (Some byte) is keeps on = cc
dropped_by lane None is keeps on = let Keeps : Option ℕ → Type 0 = λ o. IsTrue (is_some o) in let none : Keeps None = subst Keeps is (keeps on) in absurd (let wrong : false ≡ true = none in cc)

abbrev made_by : Bool → Bool → Lane → ConfigStatus → Lane
made_by outside applicable lane status = if outside then dropped_lane lane else if applicable then begun_lane lane else refused_lane lane status

both_true : (a b : Bool) → (a && b) ≡ true → (a ≡ true) × (b ≡ true)
both_true true b e = (refl, e)
both_true false b e = absurd (let same : false ≡ true = e in cc)

within : (delay : ℕ) → (nat_le 1 delay && nat_le delay 1000) ≡ true → IsWithin 1000 delay
within delay e = let both = both_true (nat_le 1 delay) (nat_le delay 1000) e in (leb-true 1 delay both.0, leb-true delay 1000 both.1)

pub have_time : (delays : Delays) → are_delays delays ≡ true → HaveTime 1000 delays
have_time delays all =
    let one = both_true _ _ all in
    let two = both_true _ _ one.1 in
    let three = both_true _ _ two.1 in
    let four = both_true _ _ three.1 in
    let five = both_true _ _ four.1 in
    let six = both_true _ _ five.1 in
    let seven = both_true _ _ six.1 in
    record {
      apply = within delays.apply one.0;
      init = within delays.init two.0;
      turn_on = within delays.turn_on three.0;
      turn_off = within delays.turn_off four.0;
      deinit = within delays.deinit five.0;
      power_up = within delays.power_up six.0;
      power_down = within delays.power_down seven.0;
    }

module _ (most : ℕ) where
  runs_any : (delays : Delays) (state : ModuleState) (left : ℕ) (low_power deactivated done : Bool) → HaveTime most delays → ModuleRuns most state left → is_last left ≡ done
      → ModuleRuns most (by_any state low_power deactivated done) (module_left delays state (by_any state low_power deactivated done) left)
  runs_any delays module_is.LowPwr left true true true time runs e = tt
  runs_any delays module_is.LowPwr left true true false time runs e = tt
  runs_any delays module_is.LowPwr left true false true time runs e = tt
  runs_any delays module_is.LowPwr left true false false time runs e = tt
  runs_any delays module_is.LowPwr left false true true time runs e = time.power_up
  runs_any delays module_is.LowPwr left false true false time runs e = time.power_up
  runs_any delays module_is.LowPwr left false false true time runs e = time.power_up
  runs_any delays module_is.LowPwr left false false false time runs e = time.power_up
  runs_any delays module_is.PwrUp left true true true time runs e = tt
  runs_any delays module_is.PwrUp left true true false time runs e = counts most left e runs
  runs_any delays module_is.PwrUp left true false true time runs e = tt
  runs_any delays module_is.PwrUp left true false false time runs e = counts most left e runs
  runs_any delays module_is.PwrUp left false true true time runs e = tt
  runs_any delays module_is.PwrUp left false true false time runs e = counts most left e runs
  runs_any delays module_is.PwrUp left false false true time runs e = tt
  runs_any delays module_is.PwrUp left false false false time runs e = counts most left e runs
  runs_any delays module_is.Ready left true true true time runs e = time.power_down
  runs_any delays module_is.Ready left true true false time runs e = time.power_down
  runs_any delays module_is.Ready left true false true time runs e = tt
  runs_any delays module_is.Ready left true false false time runs e = tt
  runs_any delays module_is.Ready left false true true time runs e = tt
  runs_any delays module_is.Ready left false true false time runs e = tt
  runs_any delays module_is.Ready left false false true time runs e = tt
  runs_any delays module_is.Ready left false false false time runs e = tt
  runs_any delays module_is.PwrDn left true true true time runs e = tt
  runs_any delays module_is.PwrDn left true true false time runs e = counts most left e runs
  runs_any delays module_is.PwrDn left true false true time runs e = tt
  runs_any delays module_is.PwrDn left true false false time runs e = counts most left e runs
  runs_any delays module_is.PwrDn left false true true time runs e = tt
  runs_any delays module_is.PwrDn left false true false time runs e = counts most left e runs
  runs_any delays module_is.PwrDn left false false true time runs e = tt
  runs_any delays module_is.PwrDn left false false false time runs e = counts most left e runs
  runs_any delays module_is.Fault left true true true time runs e = absurd runs
  runs_any delays module_is.Fault left true true false time runs e = absurd runs
  runs_any delays module_is.Fault left true false true time runs e = absurd runs
  runs_any delays module_is.Fault left true false false time runs e = absurd runs
  runs_any delays module_is.Fault left false true true time runs e = absurd runs
  runs_any delays module_is.Fault left false true false time runs e = absurd runs
  runs_any delays module_is.Fault left false false true time runs e = absurd runs
  runs_any delays module_is.Fault left false false false time runs e = absurd runs

  lane_by : (sim : SimModule) (lane : ℕ) (down : Bool) → is_down sim lane ≡ down → HaveTime most sim.delays → LaneRuns most sim lane
      → Runs most (next_path_state sim lane) (left_next sim.delays (lane_at sim lane).path (next_path_state sim lane) (lane_at sim lane).ticks_left)
  lane_by sim lane true e time runs =
      let path = (lane_at sim lane).path in
      let left = (lane_at sim lane).ticks_left in
      (subst (Nears_down most sim.delays path left) (sym (state_by sim lane true e ∙ next_down path (is_last left))) (near_down most sim.delays path left (is_last left) time runs refl)).0
  lane_by sim lane false e time runs =
      let path = (lane_at sim lane).path in
      let left = (lane_at sim lane).ticks_left in
      (subst (Nears_up most sim.delays path left) (sym (state_by sim lane false e ∙ next_up path (is_last left))) (near_up most sim.delays path left (is_last left) time runs refl)).0

  lane_ticks : (sim : SimModule) (lane : ℕ) → IsLane lane → HaveTime most sim.delays → LaneRuns most sim lane → LaneRuns most (ticked sim) lane
  lane_ticks sim lane within time runs =
      subst (λ (path : PathState). Runs most path (lane_at (ticked sim) lane).ticks_left) (sym (reads_path sim lane within))
      (subst (λ (left : ℕ). Runs most (next_path_state sim lane) left) (sym (reads_left sim lane within)) (lane_by sim lane (is_down sim lane) refl time runs))

  module_ticks : (sim : SimModule) → HaveTime most sim.delays → ModuleRuns most sim.state sim.ticks_left → ModuleRuns most (ticked sim).state (ticked sim).ticks_left
  module_ticks sim time runs =
      let to = next_any sim.state (has_low_power sim) (all_deactivated sim) (is_last sim.ticks_left) in
      let next = subst (λ (state : ModuleState). ModuleRuns most state (module_left sim.delays sim.state state sim.ticks_left)) (sym to)
      (runs_any sim.delays sim.state sim.ticks_left (has_low_power sim) (all_deactivated sim) (is_last sim.ticks_left) time runs refl) in
      subst (λ (state : ModuleState). ModuleRuns most state (ticked sim).ticks_left) (sym (state_is sim)) (subst (λ (left : ℕ). ModuleRuns most (next_module_state sim) left) (sym (left_is sim)) next)

  applies_by : (sim : SimModule) (lane : ℕ) (done : Bool) → is_last sim.apply_left ≡ done → ApplyRuns most sim lane
      → is_in_progress (ticked_by sim lane done) ≡ true → IsTrue (is_some (ticked_by sim lane done).applying) × IsWithin most (sim.apply_left - 1)
  applies_by sim lane true e runs on = absurd (applied_progress (moved sim lane) (lane_at sim lane).applying refl (λ on. (runs on).0) on)
  applies_by sim lane false e runs on = let before = runs on in (before.0, counts most sim.apply_left e before.1)

  applies_tick : (sim : SimModule) (lane : ℕ) → IsLane lane → ApplyRuns most sim lane → ApplyRuns most (ticked sim) lane
  applies_tick sim lane within runs =
      subst (λ (l : Lane). is_in_progress l ≡ true → IsTrue (is_some l.applying) × IsWithin most (ticked sim).apply_left) (sym (lane_is sim lane (is_last sim.apply_left) within refl))
      (subst (λ (left : ℕ). is_in_progress (ticked_by sim lane (is_last sim.apply_left)) ≡ true → IsTrue (is_some (ticked_by sim lane (is_last sim.apply_left)).applying) × IsWithin most left) (sym (kept_count sim))
      (applies_by sim lane (is_last sim.apply_left) refl runs))

  run_tick : (sim : SimModule) → CountersRun most sim → CountersRun most (ticked sim)
  run_tick sim run =
      record {
        applies = λ lane within. applies_tick sim lane within (run.applies lane within);
        time = subst (HaveTime most) (sym (kept_delays sim)) run.time;
        lanes = λ lane within. lane_ticks sim lane within run.time (run.lanes lane within);
        state = module_ticks sim run.time run.state;
      }

  -- what leaves the applies as they are
  same_applies : (sim after : SimModule) → after.apply_left ≡ sim.apply_left
      → ((lane : ℕ) → IsLane lane → ((lane_at after lane).status ≡ (lane_at sim lane).status) × ((lane_at after lane).applying ≡ (lane_at sim lane).applying)) → CountersRun most sim
      → (lane : ℕ) → IsLane lane → ApplyRuns most after lane
  same_applies sim after left same run lane within on =
      let before = run.applies lane within (ap is_progress (sym (same lane within).0) ∙ on) in
      (subst (λ (kept : Option ℕ). IsTrue (is_some kept)) (sym (same lane within).1) before.0, subst (IsWithin most) (sym left) before.1)

  -- what leaves the states and counters as they are
  run_same : (sim after : SimModule) → ((lane : ℕ) → IsLane lane → ApplyRuns most after lane) → after.delays ≡ sim.delays → after.state ≡ sim.state → after.ticks_left ≡ sim.ticks_left
      → ((lane : ℕ) → IsLane lane → ((lane_at after lane).path ≡ (lane_at sim lane).path) × ((lane_at after lane).ticks_left ≡ (lane_at sim lane).ticks_left)) → CountersRun most sim → CountersRun most after
  run_same sim after applies delays state left lanes run =
      record {
        applies = applies;
        time = subst (HaveTime most) (sym delays) run.time;
        lanes = λ lane within. subst (λ (path : PathState). Runs most path (lane_at after lane).ticks_left) (sym (lanes lane within).0)
            (subst (λ (left : ℕ). Runs most (lane_at sim lane).path left) (sym (lanes lane within).1) (run.lanes lane within));
        state = subst (λ (state : ModuleState). ModuleRuns most state after.ticks_left) (sym state) (subst (λ (left : ℕ). ModuleRuns most sim.state left) (sym left) run.state);
      }

  applies_if : (outside applicable : Bool) (lane : Lane) (status : ConfigStatus) (delay : ℕ) → (is_in_progress lane ≡ true → IsTrue (is_some lane.applying)) → is_progress status ≡ false → IsWithin most delay
      → is_in_progress (made_by outside applicable lane status) ≡ true → IsTrue (is_some (made_by outside applicable lane status).applying) × IsWithin most (if applicable then delay else 0)
  applies_if true applicable lane status delay keeps off some on = absurd (dropped_by lane lane.applying refl keeps on)
  applies_if false true lane status delay keeps off some on = (refl, some)
  applies_if false false lane status delay keeps off some on = absurd (let wrong : false ≡ true = sym off ∙ on in cc)

  applied_applies : (sim : SimModule) (mask : Lanes) → CountersRun most sim → (lane : ℕ) → IsLane lane → ApplyRuns most (applied_all sim mask) lane
  unfolding applied_to
  applied_applies sim mask run lane within =
      subst (λ (l : Lane). is_in_progress l ≡ true → IsTrue (is_some l.applying) × IsWithin most (if is_applicable sim mask then sim.delays.apply else 0)) (sym (made_lane (applied_to sim mask) lane within))
      (applies_if (not (set.contains mask lane)) (is_applicable sim mask) (lane_at sim lane) (unwrap_or (refusal sim mask lane) Rejected) sim.delays.apply (λ on. (run.applies lane within on).0)
      (refused_progress sim mask lane) run.time.apply)

  run_applied_all : (sim : SimModule) (mask : Lanes) → CountersRun most sim → CountersRun most (applied_all sim mask)
  run_applied_all sim mask run =
      run_same sim (applied_all sim mask) (applied_applies sim mask run) refl refl refl
      (λ lane within. subst (λ (l : Lane). (l.path ≡ (lane_at sim lane).path) × (l.ticks_left ≡ (lane_at sim lane).ticks_left)) (sym (made_lane (applied_to sim mask) lane within)) (applied_same sim mask lane)) run

  run_applied : (sim : SimModule) (mask : Lanes) → CountersRun most sim → CountersRun most (applied sim mask)
  unfolding applied
  run_applied sim mask run = either (CountersRun most) (is_empty mask) sim (applied_all sim mask) run (run_applied_all sim mask run)

  run_staged : (sim : SimModule) (lane byte : ℕ) → CountersRun most sim → CountersRun most (staged_at sim lane byte)
  run_staged sim lane byte run =
      run_same sim (staged_at sim lane byte)
      (same_applies sim (staged_at sim lane byte) refl
      (λ other within. (restaged (λ (l : Lane). l.status) sim.lanes (lane - 1) (other - 1) byte refl, restaged (λ (l : Lane). l.applying) sim.lanes (lane - 1) (other - 1) byte refl)) run) refl refl refl
      (λ other within. (restaged (λ (l : Lane). l.path) sim.lanes (lane - 1) (other - 1) byte refl, restaged (λ (l : Lane). l.ticks_left) sim.lanes (lane - 1) (other - 1) byte refl)) run

  run_high : (sim : SimModule) (address byte : ℕ) → CountersRun most sim → CountersRun most (stored_high sim address byte)
  run_high sim address byte run =
      let deinit = record sim { deinit = lanes_in byte } in
      let staged = staged_at sim (address - first_byte registers.StagedControl + 1) byte in
      let rest = if is_in registers.StagedControl address then staged else sim in
      either (CountersRun most) (is_at registers.DPDeinit address) deinit (if is_at registers.ApplyDPInit address then applied sim (lanes_in byte) else rest) (run_same sim deinit (same_applies sim deinit refl (λ lane within. (refl, refl)) run) refl refl refl (λ lane within. (refl, refl)) run)
      (either (CountersRun most) (is_at registers.ApplyDPInit address) (applied sim (lanes_in byte)) rest (run_applied sim (lanes_in byte) run)
      (either (CountersRun most) (is_in registers.StagedControl address) staged sim (run_staged sim (address - first_byte registers.StagedControl + 1) byte run) run))

  run_byte : (sim : SimModule) (address byte : ℕ) → CountersRun most sim → CountersRun most (stored_byte sim address byte)
  unfolding stored_byte
  run_byte sim address byte run =
      let next = if is_mapped sim 0x10 then stored_high sim address byte else sim in
      either (CountersRun most) (nat_lt address 128) (stored_low sim address byte) next (run_same sim (stored_low sim address byte) (same_applies sim (stored_low sim address byte) refl (λ lane within. (refl, refl)) run) refl refl refl (λ lane within. (refl, refl)) run)
      (either (CountersRun most) (is_mapped sim 0x10) (stored_high sim address byte) sim (run_high sim address byte run) run)

  run_bytes : (sim : SimModule) (address : ℕ) (bytes : List ℕ) → CountersRun most sim → CountersRun most (stored_bytes sim address bytes)
  run_bytes sim address [] run = run
  run_bytes sim address (byte ∷ bytes) run = run_bytes (stored_byte sim address byte) (address + 1) bytes (run_byte sim address byte run)

  run_cleared : (sim : SimModule) (is_read : ℕ → Bool) → CountersRun most sim → CountersRun most (cleared sim is_read)
  unfolding cleared
  run_cleared sim is_read run = run_same sim (cleared sim is_read) (same_applies sim (cleared sim is_read) refl (λ lane within. (refl, refl)) run) refl refl refl (λ lane within. (refl, refl)) run

  pub counters_run : IsAlwaysKept (CountersRun most)
  counters_run = record {
    time = record { tick = run_tick; low_power_pin = λ sim on allowed run. run_same sim (record sim { pin = on }) (same_applies sim (record sim { pin = on }) refl (λ lane within. (refl, refl)) run) refl refl refl (λ lane within. (refl, refl)) run };
    operations = run_by;
  } where
    run_by : (op : Op) → IsKeptBy conduct (CountersRun most) op
    run_by (Fetch dev address count) = λ sim run. fetched_keeps (CountersRun most) sim dev address count run (run_cleared sim (is_from address count) run)
    run_by (Store dev address bytes) = (
      λ sim run. stored_keeps (CountersRun most) sim dev address bytes.items run (run_bytes sim address bytes.items run),
      λ sim k run. stored_keeps (CountersRun most) sim dev address (take k bytes.items) run (run_bytes sim address (take k bytes.items) run),
    )

  start_runs : (low : Bool) (left : ℕ) → ModuleRuns most (if low then module_is.LowPwr else module_is.Ready) left
  start_runs true left = tt
  start_runs false left = tt

  pub new_counters_run : (memory : Memory) (delays : Delays) → HaveTime most delays → CountersRun most (start memory delays)
  unfolding start
  new_counters_run memory delays time =
      record {
        applies = λ lane within. subst (λ (l : Lane). is_in_progress l ≡ true → IsTrue (is_some l.applying) × IsWithin most 0) (sym (made_lane (start_lane memory) lane within)) (λ on. absurd (let wrong : false ≡ true = on in cc));
        time = time;
        lanes = λ lane within. subst (λ (l : Lane). Runs most l.path l.ticks_left) (sym (made_lane (start_lane memory) lane within)) tt;
        state = start_runs (asks_low_power (byte_of_register memory registers.GlobalControls 0) false) 0;
      }
