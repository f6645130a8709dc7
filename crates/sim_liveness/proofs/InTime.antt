-- A module reaches each state in time.
use Rattle.std.proofs.Common.{◌≡◌, ◌≢◌, ◌≤◌, ℕ, Bool, true, false, List, [], ◌∷◌, get_or, refl, sym, ap, subst, ◌∙◌, arith}
use Rattle.std.specs.Prelude.{◌-◌, ◌||◌}
use Rattle.std.specs.FinSet as set
use Rattle.bus_model.specs.declared.device.Dev.TheVariants.{A0}
use Rattle.field_tables.specs.LaneSets.{IsLane, Lanes}
use Rattle.control_sets.specs.HostPaths.{agree, are_same, control_at}
use Rattle.control_sets.specs.declared.control_byte.ControlByte.{ControlByte}
use Rattle.module_states.specs.declared.state.ModuleState.{ModuleState}
use Rattle.module_states.specs.declared.state.ModuleState.TheVariants as module_is
use Rattle.module_states.specs.Transitions as module_table
use Rattle.datapath_states.specs.declared.state.PathState.{PathState}
use Rattle.datapath_states.specs.declared.state.PathState.TheVariants as path_is
use Rattle.datapath_states.specs.Transitions as path_table
use Rattle.sim_module.specs.declared.delays.Delays.{Delays}
use Rattle.sim_module.specs.declared.lane.Lane.{Lane}
use Rattle.sim_module.specs.declared.module.SimModule.{SimModule}
use Rattle.sim_module.specs.Down.{has_low_power, is_down}
use Rattle.sim_module.specs.Lanes.{active_bytes, is_in_progress, no_lane, lane_at}
use Rattle.sim_module.specs.ShownBytes.{fetched}
use Rattle.sim_module.specs.Stores.{stored}
use Rattle.sim_module.specs.Ticks.{all_deactivated, is_last, is_module_state, module_delay, next_left, next_module_state, next_path_state, ticked}
use Rattle.sim_liveness.specs.Timing.{ComesUpInTime, GoesDownInTime, HaveTime, IsWithin, LaneRuns, ModuleRuns, Pause, Runs, StaysReleased, WakesInTime, after_pause, fetch, paused, select, tick, ticks_in, ticks_of, until_down, until_ready, until_up}
use Rattle.sim_module.proofs.LanesInTime.{held_down}
use Rattle.sim_liveness.proofs.LeftAlone.{LeavesIt, leaves, leaves_selected, power_kept}
use Rattle.sim_liveness.proofs.TickedLanes.{left_next, reads_left, reads_path}

pub not_last : (left : ℕ) → is_last left ≡ false → left ≢ 1
not_last left e = grind (arith, e)

pub last : (left : ℕ) → is_last left ≡ true → left ≡ 1
last left e = grind (arith, e)

abbrev pub path_next : Bool → PathState → Bool → PathState
path_next down path done = path_table.next_of path (record { down = down; done = done })

abbrev pub by_down : PathState → Bool → PathState
by_down path_is.Deactivated true = path_is.Deactivated
by_down path_is.Deactivated false = path_is.Deactivated
by_down path_is.Init true = path_is.Initialized
by_down path_is.Init false = path_is.Init
by_down path_is.Deinit true = path_is.Deactivated
by_down path_is.Deinit false = path_is.Deinit
by_down path_is.Activated true = path_is.TxTurnOff
by_down path_is.Activated false = path_is.TxTurnOff
by_down path_is.TxTurnOn true = path_is.Activated
by_down path_is.TxTurnOn false = path_is.TxTurnOn
by_down path_is.TxTurnOff true = path_is.Initialized
by_down path_is.TxTurnOff false = path_is.TxTurnOff
by_down path_is.Initialized true = path_is.Deinit
by_down path_is.Initialized false = path_is.Deinit

pub next_down : (path : PathState) (done : Bool) → path_next true path done ≡ by_down path done
unfolding path_table.next_of
next_down path_is.Deactivated true = refl
next_down path_is.Deactivated false = refl
next_down path_is.Init true = refl
next_down path_is.Init false = refl
next_down path_is.Deinit true = refl
next_down path_is.Deinit false = refl
next_down path_is.Activated true = refl
next_down path_is.Activated false = refl
next_down path_is.TxTurnOn true = refl
next_down path_is.TxTurnOn false = refl
next_down path_is.TxTurnOff true = refl
next_down path_is.TxTurnOff false = refl
next_down path_is.Initialized true = refl
next_down path_is.Initialized false = refl

abbrev pub by_up : PathState → Bool → PathState
by_up path_is.Deactivated true = path_is.Init
by_up path_is.Deactivated false = path_is.Init
by_up path_is.Init true = path_is.Initialized
by_up path_is.Init false = path_is.Init
by_up path_is.Deinit true = path_is.Deactivated
by_up path_is.Deinit false = path_is.Deinit
by_up path_is.Activated true = path_is.Activated
by_up path_is.Activated false = path_is.Activated
by_up path_is.TxTurnOn true = path_is.Activated
by_up path_is.TxTurnOn false = path_is.TxTurnOn
by_up path_is.TxTurnOff true = path_is.Initialized
by_up path_is.TxTurnOff false = path_is.TxTurnOff
by_up path_is.Initialized true = path_is.TxTurnOn
by_up path_is.Initialized false = path_is.TxTurnOn

pub next_up : (path : PathState) (done : Bool) → path_next false path done ≡ by_up path done
unfolding path_table.next_of
next_up path_is.Deactivated true = refl
next_up path_is.Deactivated false = refl
next_up path_is.Init true = refl
next_up path_is.Init false = refl
next_up path_is.Deinit true = refl
next_up path_is.Deinit false = refl
next_up path_is.Activated true = refl
next_up path_is.Activated false = refl
next_up path_is.TxTurnOn true = refl
next_up path_is.TxTurnOn false = refl
next_up path_is.TxTurnOff true = refl
next_up path_is.TxTurnOff false = refl
next_up path_is.Initialized true = refl
next_up path_is.Initialized false = refl

pub state_by : (sim : SimModule) (lane : ℕ) (down : Bool) → is_down sim lane ≡ down → next_path_state sim lane ≡ path_next down (lane_at sim lane).path (is_last (lane_at sim lane).ticks_left)
state_by sim lane down e = ap (λ (down : Bool). path_next down (lane_at sim lane).path (is_last (lane_at sim lane).ticks_left)) e

pub kept_delays : (sim : SimModule) → (ticked sim).delays ≡ sim.delays
unfolding ticked
kept_delays sim = refl

pub kept_deinit : (sim : SimModule) → (ticked sim).deinit ≡ sim.deinit
unfolding ticked
kept_deinit sim = refl

pub same_lane : (sim after : SimModule) (lane : ℕ) → LeavesIt sim after → lane_at after lane ≡ lane_at sim lane
same_lane sim after lane same = ap (λ (lanes : List Lane). get_or lanes (lane - 1) no_lane) same.lanes

agrees : (bytes : List ℕ) (lane : ℕ) → agree bytes lane lane ≡ true
agrees bytes lane = same_control (control_at bytes lane) where
  same_control : (control : ControlByte) → are_same control control ≡ true
  same_control control = grind arith

or_first : (a b : Bool) → a ≡ true → (a || b) ≡ true
or_first a b e = ap (λ (t : Bool). t || b) e

down_by_bit : (sim : SimModule) (lane : ℕ) → IsLane lane → set.contains sim.deinit lane ≡ true → is_down sim lane ≡ true
down_by_bit sim lane within bit = held_down sim lane lane within (agrees (active_bytes sim) lane) (or_first (set.contains sim.deinit lane) (is_in_progress (lane_at sim lane)) bit)

abbrev pub module_next : ModuleState → Bool → Bool → Bool → ModuleState
module_next state low_power deactivated done = module_table.next_of state (record { low_power = low_power; deactivated = deactivated; done = done })

abbrev by_wake : ModuleState → Bool → ModuleState
by_wake module_is.LowPwr done = module_is.PwrUp
by_wake module_is.PwrUp true = module_is.Ready
by_wake module_is.PwrUp false = module_is.PwrUp
by_wake module_is.Ready done = module_is.Ready
by_wake module_is.PwrDn true = module_is.LowPwr
by_wake module_is.PwrDn false = module_is.PwrDn
by_wake module_is.Fault done = module_is.Fault

next_wake : (state : ModuleState) (deactivated done : Bool) → module_next state false deactivated done ≡ by_wake state done
unfolding module_table.next_of
next_wake module_is.LowPwr deactivated true = refl
next_wake module_is.LowPwr deactivated false = refl
next_wake module_is.PwrUp deactivated true = refl
next_wake module_is.PwrUp deactivated false = refl
next_wake module_is.Ready deactivated true = refl
next_wake module_is.Ready deactivated false = refl
next_wake module_is.PwrDn deactivated true = refl
next_wake module_is.PwrDn deactivated false = refl
next_wake module_is.Fault deactivated true = refl
next_wake module_is.Fault deactivated false = refl

abbrev pub module_left : Delays → ModuleState → ModuleState → ℕ → ℕ
module_left delays state next left = next_left (is_module_state next state) left (module_delay delays next)

pub state_is : (sim : SimModule) → (ticked sim).state ≡ next_module_state sim
unfolding ticked
state_is sim = refl

pub left_is : (sim : SimModule) → (ticked sim).ticks_left ≡ module_left sim.delays sim.state (next_module_state sim) sim.ticks_left
unfolding ticked
left_is sim = refl

pub power_is : (sim : SimModule) → has_low_power (ticked sim) ≡ has_low_power sim
unfolding ticked
power_is sim = refl

module _ (most : ℕ) where
  -- a counter that isn't at its end counts on
  pub counts : (left : ℕ) → is_last left ≡ false → IsWithin most left → IsWithin most (left - 1)
  counts left e runs = (omega (arith, not_last left e, runs.0), omega (arith, runs.1))

  -- the counter runs on, and a tick less is left
  abbrev pub Nears_down : Delays → PathState → ℕ → PathState → Type 0
  Nears_down delays path left next = Runs most next (left_next delays path next left) × (until_down delays next (left_next delays path next left) ≤ until_down delays path left - 1)

  pub near_down : (delays : Delays) (path : PathState) (left : ℕ) (done : Bool) → HaveTime most delays → Runs most path left → is_last left ≡ done → Nears_down delays path left (by_down path done)
  near_down delays path_is.Deactivated left true time runs e = (tt, omega arith)
  near_down delays path_is.Deactivated left false time runs e = (tt, omega arith)
  near_down delays path_is.Init left true time runs e = (tt, omega (arith, last left e))
  near_down delays path_is.Init left false time runs e = (counts left e runs, omega (arith, runs.0))
  near_down delays path_is.Deinit left true time runs e = (tt, omega arith)
  near_down delays path_is.Deinit left false time runs e = (counts left e runs, omega (arith, runs.0))
  near_down delays path_is.Activated left true time runs e = (time.turn_off, omega arith)
  near_down delays path_is.Activated left false time runs e = (time.turn_off, omega arith)
  near_down delays path_is.TxTurnOn left true time runs e = (tt, omega (arith, last left e))
  near_down delays path_is.TxTurnOn left false time runs e = (counts left e runs, omega (arith, runs.0))
  near_down delays path_is.TxTurnOff left true time runs e = (tt, omega (arith, last left e))
  near_down delays path_is.TxTurnOff left false time runs e = (counts left e runs, omega (arith, runs.0))
  near_down delays path_is.Initialized left true time runs e = (time.deinit, omega arith)
  near_down delays path_is.Initialized left false time runs e = (time.deinit, omega arith)

  -- the counter runs on, and a tick less is left
  abbrev pub Nears_up : Delays → PathState → ℕ → PathState → Type 0
  Nears_up delays path left next = Runs most next (left_next delays path next left) × (until_up delays next (left_next delays path next left) ≤ until_up delays path left - 1)

  pub near_up : (delays : Delays) (path : PathState) (left : ℕ) (done : Bool) → HaveTime most delays → Runs most path left → is_last left ≡ done → Nears_up delays path left (by_up path done)
  near_up delays path_is.Deactivated left true time runs e = (time.init, omega arith)
  near_up delays path_is.Deactivated left false time runs e = (time.init, omega arith)
  near_up delays path_is.Init left true time runs e = (tt, omega (arith, last left e))
  near_up delays path_is.Init left false time runs e = (counts left e runs, omega (arith, runs.0))
  near_up delays path_is.Deinit left true time runs e = (tt, omega (arith, last left e))
  near_up delays path_is.Deinit left false time runs e = (counts left e runs, omega (arith, runs.0))
  near_up delays path_is.Activated left true time runs e = (tt, omega arith)
  near_up delays path_is.Activated left false time runs e = (tt, omega arith)
  near_up delays path_is.TxTurnOn left true time runs e = (tt, omega arith)
  near_up delays path_is.TxTurnOn left false time runs e = (counts left e runs, omega (arith, runs.0))
  near_up delays path_is.TxTurnOff left true time runs e = (tt, omega (arith, last left e))
  near_up delays path_is.TxTurnOff left false time runs e = (counts left e runs, omega (arith, runs.0))
  near_up delays path_is.Initialized left true time runs e = (time.turn_on, omega arith)
  near_up delays path_is.Initialized left false time runs e = (time.turn_on, omega arith)

  -- how far the lane is, after some pauses
  pub record IsOnWayDown (sim : SimModule) (lane : ℕ) (delays : Delays) (left : ℕ) : Type 0 where
    pub same : sim.delays ≡ delays
    pub bit : set.contains sim.deinit lane ≡ true
    pub runs : LaneRuns most sim lane
    pub near : until_down sim.delays (lane_at sim lane).path (lane_at sim lane).ticks_left ≤ left

  -- the same state and counter, or those of a tick
  pub lane_down : (sim : SimModule) (lane : ℕ) → IsLane lane → HaveTime most sim.delays → set.contains sim.deinit lane ≡ true → LaneRuns most sim lane
      → Runs most (lane_at (ticked sim) lane).path (lane_at (ticked sim) lane).ticks_left
      × (until_down sim.delays (lane_at (ticked sim) lane).path (lane_at (ticked sim) lane).ticks_left ≤ until_down sim.delays (lane_at sim lane).path (lane_at sim lane).ticks_left - 1)
  lane_down sim lane within time bit runs =
      let path = (lane_at sim lane).path in
      let left = (lane_at sim lane).ticks_left in
      let to = state_by sim lane true (down_by_bit sim lane within bit) ∙ next_down path (is_last left) in
      let nears = subst (Nears_down sim.delays path left) (sym to) (near_down sim.delays path left (is_last left) time runs refl) in
      subst (λ (next : PathState). Runs most next (lane_at (ticked sim) lane).ticks_left × (until_down sim.delays next (lane_at (ticked sim) lane).ticks_left ≤ until_down sim.delays path left - 1)) (sym (reads_path sim lane within))
      (subst (λ (count : ℕ). Runs most (next_path_state sim lane) count × (until_down sim.delays (next_path_state sim lane) count ≤ until_down sim.delays path left - 1)) (sym (reads_left sim lane within)) nears)

  down_left : (sim after : SimModule) (lane : ℕ) (delays : Delays) (left : ℕ) → LeavesIt sim after → IsOnWayDown sim lane delays left → IsOnWayDown after lane delays (left - 0)
  down_left sim after lane delays left same way =
      let is = same_lane sim after lane same in
      record {
        same = same.delays ∙ way.same;
        bit = ap (λ (lanes : Lanes). set.contains lanes lane) same.deinit ∙ way.bit;
        runs = subst (λ (l : Lane). Runs most l.path l.ticks_left) (sym is) way.runs;
        near = subst (λ (d : Delays). until_down d (lane_at after lane).path (lane_at after lane).ticks_left ≤ left - 0) (sym same.delays)
            (subst (λ (l : Lane). until_down sim.delays l.path l.ticks_left ≤ left - 0) (sym is) (omega (arith, way.near)));
      }

  down_after : (sim : SimModule) (lane : ℕ) (delays : Delays) (left : ℕ) (pause : Pause) → IsLane lane → HaveTime most delays → IsOnWayDown sim lane delays left → IsOnWayDown (after_pause pause sim) lane delays (left - ticks_of pause)
  down_after sim lane delays left tick within time way =
      let next = lane_down sim lane within (subst (HaveTime most) (sym way.same) time) way.bit way.runs in
      record {
        same = kept_delays sim ∙ way.same;
        bit = ap (λ (lanes : Lanes). set.contains lanes lane) (kept_deinit sim) ∙ way.bit;
        runs = next.0;
        near = subst (λ (d : Delays). until_down d (lane_at (ticked sim) lane).path (lane_at (ticked sim) lane).ticks_left ≤ left - 1) (sym (kept_delays sim)) (omega (arith, next.1, way.near));
      }
  down_after sim lane delays left (fetch dev address count) within time way = down_left sim (fetched sim dev address count).1 lane delays left (leaves sim dev address count) way
  down_after sim lane delays left (select bank page) within time way = down_left sim (stored sim A0 126 (bank ∷ page ∷ [])).1 lane delays left (leaves_selected sim bank page) way

  down_paused : (sim : SimModule) (lane : ℕ) (left : ℕ) (pauses : List Pause) → IsLane lane → HaveTime most sim.delays → IsOnWayDown sim lane sim.delays left → IsOnWayDown (paused pauses sim) lane sim.delays (left - ticks_in pauses)
  down_paused sim lane left [] within time way = subst (IsOnWayDown sim lane sim.delays) (omega arith) way
  down_paused sim lane left (pause ∷ before) within time way =
      subst (IsOnWayDown (paused (pause ∷ before) sim) lane sim.delays) (omega arith)
      (down_after (paused before sim) lane sim.delays (left - ticks_in before) pause within time (down_paused sim lane left before within time way))

  pub none_left : (delays : Delays) (path : PathState) (left : ℕ) → Runs most path left → until_down delays path left ≤ 0 → path ≡ path_is.Deactivated
  none_left delays path_is.Deactivated left runs few = refl
  none_left delays path_is.Deinit left runs few = absurd (omega (arith, runs.0, few))
  none_left delays path_is.Initialized left runs few = absurd (omega (arith, few))
  none_left delays path_is.TxTurnOff left runs few = absurd (omega (arith, few))
  none_left delays path_is.Activated left runs few = absurd (omega (arith, few))
  none_left delays path_is.TxTurnOn left runs few = absurd (omega (arith, few))
  none_left delays path_is.Init left runs few = absurd (omega (arith, few))

  pub goes_down : GoesDownInTime most
  goes_down sim lane pauses within time runs bit long =
      let left = until_down sim.delays (lane_at sim lane).path (lane_at sim lane).ticks_left in
      let way = down_paused sim lane left pauses within time (record { same = refl; bit = bit; runs = runs; near = omega arith }) in
      none_left (paused pauses sim).delays (lane_at (paused pauses sim) lane).path (lane_at (paused pauses sim) lane).ticks_left way.runs (omega (arith, way.near, long))

  pub record IsOnWayUp (sim : SimModule) (lane : ℕ) (delays : Delays) (left : ℕ) : Type 0 where
    pub same : sim.delays ≡ delays
    pub runs : LaneRuns most sim lane
    pub near : until_up sim.delays (lane_at sim lane).path (lane_at sim lane).ticks_left ≤ left

  pub lane_up : (sim : SimModule) (lane : ℕ) → IsLane lane → HaveTime most sim.delays → is_down sim lane ≡ false → LaneRuns most sim lane
      → Runs most (lane_at (ticked sim) lane).path (lane_at (ticked sim) lane).ticks_left
      × (until_up sim.delays (lane_at (ticked sim) lane).path (lane_at (ticked sim) lane).ticks_left ≤ until_up sim.delays (lane_at sim lane).path (lane_at sim lane).ticks_left - 1)
  lane_up sim lane within time free runs =
      let path = (lane_at sim lane).path in
      let left = (lane_at sim lane).ticks_left in
      let to = state_by sim lane false free ∙ next_up path (is_last left) in
      let nears = subst (Nears_up sim.delays path left) (sym to) (near_up sim.delays path left (is_last left) time runs refl) in
      subst (λ (next : PathState). Runs most next (lane_at (ticked sim) lane).ticks_left × (until_up sim.delays next (lane_at (ticked sim) lane).ticks_left ≤ until_up sim.delays path left - 1)) (sym (reads_path sim lane within))
      (subst (λ (count : ℕ). Runs most (next_path_state sim lane) count × (until_up sim.delays (next_path_state sim lane) count ≤ until_up sim.delays path left - 1)) (sym (reads_left sim lane within)) nears)

  up_left : (sim after : SimModule) (lane : ℕ) (delays : Delays) (left : ℕ) → LeavesIt sim after → IsOnWayUp sim lane delays left → IsOnWayUp after lane delays (left - 0)
  up_left sim after lane delays left same way =
      let is = same_lane sim after lane same in
      record {
        same = same.delays ∙ way.same;
        runs = subst (λ (l : Lane). Runs most l.path l.ticks_left) (sym is) way.runs;
        near = subst (λ (d : Delays). until_up d (lane_at after lane).path (lane_at after lane).ticks_left ≤ left - 0) (sym same.delays)
            (subst (λ (l : Lane). until_up sim.delays l.path l.ticks_left ≤ left - 0) (sym is) (omega (arith, way.near)));
      }

  up_after : (sim : SimModule) (lane : ℕ) (delays : Delays) (left : ℕ) (pause : Pause) → IsLane lane → HaveTime most delays → is_down sim lane ≡ false → IsOnWayUp sim lane delays left → IsOnWayUp (after_pause pause sim) lane delays (left - ticks_of pause)
  up_after sim lane delays left tick within time free way =
      let next = lane_up sim lane within (subst (HaveTime most) (sym way.same) time) free way.runs in
      record {
        same = kept_delays sim ∙ way.same;
        runs = next.0;
        near = subst (λ (d : Delays). until_up d (lane_at (ticked sim) lane).path (lane_at (ticked sim) lane).ticks_left ≤ left - 1) (sym (kept_delays sim)) (omega (arith, next.1, way.near));
      }
  up_after sim lane delays left (fetch dev address count) within time free way = up_left sim (fetched sim dev address count).1 lane delays left (leaves sim dev address count) way
  up_after sim lane delays left (select bank page) within time free way = up_left sim (stored sim A0 126 (bank ∷ page ∷ [])).1 lane delays left (leaves_selected sim bank page) way

  up_paused : (sim : SimModule) (lane : ℕ) (left : ℕ) (pauses : List Pause) → IsLane lane → HaveTime most sim.delays → StaysReleased sim lane pauses → IsOnWayUp sim lane sim.delays left → IsOnWayUp (paused pauses sim) lane sim.delays (left - ticks_in pauses)
  up_paused sim lane left [] within time free way = subst (IsOnWayUp sim lane sim.delays) (omega arith) way
  up_paused sim lane left (pause ∷ before) within time free way =
      subst (IsOnWayUp (paused (pause ∷ before) sim) lane sim.delays) (omega arith)
      (up_after (paused before sim) lane sim.delays (left - ticks_in before) pause within time free.0 (up_paused sim lane left before within time free.1 way))

  pub none_left_up : (delays : Delays) (path : PathState) (left : ℕ) → Runs most path left → until_up delays path left ≤ 0 → path ≡ path_is.Activated
  none_left_up delays path_is.Activated left runs few = refl
  none_left_up delays path_is.TxTurnOn left runs few = absurd (omega (arith, runs.0, few))
  none_left_up delays path_is.Initialized left runs few = absurd (omega (arith, few))
  none_left_up delays path_is.Init left runs few = absurd (omega (arith, few))
  none_left_up delays path_is.Deactivated left runs few = absurd (omega (arith, few))
  none_left_up delays path_is.TxTurnOff left runs few = absurd (omega (arith, few))
  none_left_up delays path_is.Deinit left runs few = absurd (omega (arith, few))

  pub comes_up_in_time : ComesUpInTime most
  comes_up_in_time sim lane pauses within time runs free long =
      let left = until_up sim.delays (lane_at sim lane).path (lane_at sim lane).ticks_left in
      let way = up_paused sim lane left pauses within time free (record { same = refl; runs = runs; near = omega arith }) in
      none_left_up (paused pauses sim).delays (lane_at (paused pauses sim) lane).path (lane_at (paused pauses sim) lane).ticks_left way.runs (omega (arith, way.near, long))

  abbrev Nears_wake : Delays → ModuleState → ℕ → ModuleState → Type 0
  Nears_wake delays state left next = ModuleRuns most next (module_left delays state next left) × (until_ready delays next (module_left delays state next left) ≤ until_ready delays state left - 1)

  near_wake : (delays : Delays) (state : ModuleState) (left : ℕ) (done : Bool) → HaveTime most delays → ModuleRuns most state left → is_last left ≡ done → Nears_wake delays state left (by_wake state done)
  near_wake delays module_is.LowPwr left done time runs e = (time.power_up, omega arith)
  near_wake delays module_is.PwrUp left true time runs e = (tt, omega arith)
  near_wake delays module_is.PwrUp left false time runs e = (counts left e runs, omega (arith, runs.0))
  near_wake delays module_is.Ready left done time runs e = (tt, omega arith)
  near_wake delays module_is.PwrDn left true time runs e = (tt, omega (arith, last left e))
  near_wake delays module_is.PwrDn left false time runs e = (counts left e runs, omega (arith, runs.0))
  near_wake delays module_is.Fault left done time runs e = absurd runs

  pub record IsWaking (sim : SimModule) (delays : Delays) (left : ℕ) : Type 0 where
    pub same : sim.delays ≡ delays
    pub awake : has_low_power sim ≡ false
    pub runs : ModuleRuns most sim.state sim.ticks_left
    pub near : until_ready sim.delays sim.state sim.ticks_left ≤ left

  pub module_wakes : (sim : SimModule) → HaveTime most sim.delays → has_low_power sim ≡ false → ModuleRuns most sim.state sim.ticks_left
      → ModuleRuns most (ticked sim).state (ticked sim).ticks_left × (until_ready sim.delays (ticked sim).state (ticked sim).ticks_left ≤ until_ready sim.delays sim.state sim.ticks_left - 1)
  module_wakes sim time awake runs =
      let to = ap (λ (low_power : Bool). module_next sim.state low_power (all_deactivated sim) (is_last sim.ticks_left)) awake ∙ next_wake sim.state (all_deactivated sim) (is_last sim.ticks_left) in
      let nears = subst (Nears_wake sim.delays sim.state sim.ticks_left) (sym to) (near_wake sim.delays sim.state sim.ticks_left (is_last sim.ticks_left) time runs refl) in
      subst (λ (next : ModuleState). ModuleRuns most next (ticked sim).ticks_left × (until_ready sim.delays next (ticked sim).ticks_left ≤ until_ready sim.delays sim.state sim.ticks_left - 1)) (sym (state_is sim))
      (subst (λ (count : ℕ). ModuleRuns most (next_module_state sim) count × (until_ready sim.delays (next_module_state sim) count ≤ until_ready sim.delays sim.state sim.ticks_left - 1)) (sym (left_is sim)) nears)

  wakes_left : (sim after : SimModule) (delays : Delays) (left : ℕ) → LeavesIt sim after → IsWaking sim delays left → IsWaking after delays (left - 0)
  wakes_left sim after delays left same way =
      record {
        same = same.delays ∙ way.same;
        awake = power_kept sim after same ∙ way.awake;
        runs = subst (λ (state : ModuleState). ModuleRuns most state after.ticks_left) (sym same.state) (subst (λ (count : ℕ). ModuleRuns most sim.state count) (sym same.ticks_left) way.runs);
        near = subst (λ (d : Delays). until_ready d after.state after.ticks_left ≤ left - 0) (sym same.delays)
            (subst (λ (state : ModuleState). until_ready sim.delays state after.ticks_left ≤ left - 0) (sym same.state)
            (subst (λ (count : ℕ). until_ready sim.delays sim.state count ≤ left - 0) (sym same.ticks_left) (omega (arith, way.near))));
      }

  wakes_after : (sim : SimModule) (delays : Delays) (left : ℕ) (pause : Pause) → HaveTime most delays → IsWaking sim delays left → IsWaking (after_pause pause sim) delays (left - ticks_of pause)
  wakes_after sim delays left tick time way =
      let next = module_wakes sim (subst (HaveTime most) (sym way.same) time) way.awake way.runs in
      record {
        same = kept_delays sim ∙ way.same;
        awake = power_is sim ∙ way.awake;
        runs = next.0;
        near = subst (λ (d : Delays). until_ready d (ticked sim).state (ticked sim).ticks_left ≤ left - 1) (sym (kept_delays sim)) (omega (arith, next.1, way.near));
      }
  wakes_after sim delays left (fetch dev address count) time way = wakes_left sim (fetched sim dev address count).1 delays left (leaves sim dev address count) way
  wakes_after sim delays left (select bank page) time way = wakes_left sim (stored sim A0 126 (bank ∷ page ∷ [])).1 delays left (leaves_selected sim bank page) way

  wakes_paused : (sim : SimModule) (left : ℕ) (pauses : List Pause) → HaveTime most sim.delays → IsWaking sim sim.delays left → IsWaking (paused pauses sim) sim.delays (left - ticks_in pauses)
  wakes_paused sim left [] time way = subst (IsWaking sim sim.delays) (omega arith) way
  wakes_paused sim left (pause ∷ before) time way =
      subst (IsWaking (paused (pause ∷ before) sim) sim.delays) (omega arith)
      (wakes_after (paused before sim) sim.delays (left - ticks_in before) pause time (wakes_paused sim left before time way))

  pub none_left_awake : (delays : Delays) (state : ModuleState) (left : ℕ) → ModuleRuns most state left → until_ready delays state left ≤ 0 → state ≡ module_is.Ready
  none_left_awake delays module_is.Ready left runs few = refl
  none_left_awake delays module_is.PwrUp left runs few = absurd (omega (arith, runs.0, few))
  none_left_awake delays module_is.LowPwr left runs few = absurd (omega (arith, few))
  none_left_awake delays module_is.PwrDn left runs few = absurd (omega (arith, few))
  none_left_awake delays module_is.Fault left runs few = absurd runs

  pub wakes_in_time : WakesInTime most
  wakes_in_time sim pauses time runs awake long =
      let left = until_ready sim.delays sim.state sim.ticks_left in
      let way = wakes_paused sim left pauses time (record { same = refl; awake = awake; runs = runs; near = omega arith }) in
      none_left_awake (paused pauses sim).delays (paused pauses sim).state (paused pauses sim).ticks_left way.runs (omega (arith, way.near, long))
