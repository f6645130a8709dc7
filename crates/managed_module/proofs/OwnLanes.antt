-- What page 11h of a module shows of its lanes, and that a lane in no path stays so.
use Rattle.std.proofs.Common.{◌≡◌, ℕ, ◌+◌, ◌-◌, ◌==◌, ◌||◌, not, Bool, true, false, List, Some, zero, suc, get_or, length, map, refl, sym, ap, subst, ◌∙◌, arith}
use Rattle.std.specs.List.{range_with_len}
use Rattle.std.proofs.lemmas.List.{get_or-map}
use Rattle.std.proofs.lemmas.List.FromFn.{get_or-map-range_with_len}
use Rattle.std.specs.FinMap as finmap
use Rattle.bus_model.specs.ScriptedBus.{ticked_times}
use Rattle.field_tables.specs.LaneSets.{IsLane}
use Rattle.field_tables.specs.Numbers.{number_in}
use Rattle.field_tables.specs.Registers.{byte_count, first_byte}
use Rattle.field_tables.specs.declared.field.Register.TheVariants as registers
use Rattle.datapath_states.specs.Lanes.{code_in, codes_in}
use Rattle.datapath_states.specs.StateCodes.{code_of}
use Rattle.datapath_states.specs.Transitions.{next_of}
use Rattle.datapath_states.specs.declared.state.PathState.{PathState}
use Rattle.datapath_states.specs.declared.state.PathState.TheVariants.{Deactivated}
use Rattle.control_sets.specs.ControlBytes.{control_of}
use Rattle.control_sets.specs.HostPaths.{control_at, is_used}
use Rattle.control_sets.proofs.EightLanes.{each_of_eight}
use Rattle.port_manager.specs.Goals.{active_at, at_lane, is_activated}
use Rattle.sim_module.specs.declared.lane.Lane.{Lane}
use Rattle.sim_module.specs.declared.module.SimModule.{SimModule}
use Rattle.sim_module.specs.Down.{has_low_power, is_down, is_path_down, is_ready}
use Rattle.sim_module.specs.ActiveSets.{HasNoApply, IsAtRest}
use Rattle.sim_module.specs.Lanes.{active_bytes, lane_at, no_lane}
use Rattle.sim_module.specs.Modules.{conduct}
use Rattle.sim_module.specs.ShownBytes.{path_code, shown_byte}
use Rattle.sim_module.specs.Ticks.{is_last, moved_lane, next_path_state, ticked}
use Rattle.sim_module.proofs.IdleModule.{Shows}
use Rattle.sim_module.proofs.RestingModule.{rest_tick}
use Rattle.sim_module.proofs.LanesInTime.{settled_lane, ticked_at}
use Rattle.sim_liveness.proofs.ReadStates.{active_is, pairs, path_shown, shown_paths}
use Rattle.paged_memory.specs.Images.{Memory}
use Rattle.managed_module.specs.Bounds.{IsSteady}
use Rattle.managed_module.specs.Succeeds.{IsSpare}
use Rattle.managed_module.proofs.OwnAdverts.{lanes_key}
use Rattle.managed_module.proofs.SteadyModules.{steady_paused}

-- ---- the page

pub record ShowsLanes (page : List ℕ) (sim : SimModule) : Type 0 where
  pub active : (lane : ℕ) → IsLane lane → active_at page lane ≡ at_lane (active_bytes sim) lane
  pub states : (lane : ℕ) → IsLane lane → at_lane (codes_in page 8) lane ≡ code_of (lane_at sim lane).path

-- the image has page 11h, which shows the lanes of the module
pub record HasLanes (image : Memory) (sim : SimModule) : Type 0 where
  pub page : List ℕ
  pub there : finmap.get image lanes_key ≡ Some page
  pub shows : ShowsLanes page sim

-- the states stand in the first four bytes
first_four : (f : ℕ → ℕ) (lane : ℕ) → IsLane lane → code_in (map f (range_with_len 128 128)) lane ≡ code_in (map f (range_with_len 128 4)) lane
unfolding code_in number_in
first_four f = each_of_eight (λ lane. code_in (map f (range_with_len 128 128)) lane ≡ code_in (map f (range_with_len 128 4)) lane) refl refl refl refl refl refl refl refl

code_at : (bytes : List ℕ) (lane : ℕ) → IsLane lane → at_lane (codes_in bytes 8) lane ≡ code_in bytes lane
code_at bytes lane (from, to) = get_or-map-range_with_len (code_in bytes) 1 8 (lane - 1) lane 0 (omega (arith, from, to)) (omega (arith, from))

active_shown : (sim : SimModule) (page : List ℕ) → Shows 0x11 sim → length sim.lanes ≡ 8 → (lane : ℕ) → IsLane lane → active_at (map (shown_byte sim page) (range_with_len 128 128)) lane ≡ at_lane (active_bytes sim) lane
active_shown sim page shows eight lane (from, to) =
    let f = shown_byte sim page in
    get_or-map-range_with_len f 128 128 (78 + (lane - 1)) (206 + (lane - 1)) 0 (omega (arith, from, to)) (omega arith)
    ∙ sym (get_or-map-range_with_len f (first_byte registers.ActiveControl) (byte_count registers.ActiveControl) (lane - 1) (206 + (lane - 1)) 0 (omega (arith, from, to)) (omega arith))
    ∙ sym (ap (λ (bytes : List ℕ). get_or bytes (lane - 1) 0) (active_is sim page shows eight))

pub shows_lanes : (sim : SimModule) (page : List ℕ) → Shows 0x11 sim → length sim.lanes ≡ 8 → ShowsLanes (map (shown_byte sim page) (range_with_len 128 128)) sim
shows_lanes sim page shows eight =
    let f = shown_byte sim page in record {
      active = active_shown sim page shows eight;
      states = λ lane within.
          code_at (map f (range_with_len 128 128)) lane within ∙ first_four f lane within ∙ ap (λ (bytes : List ℕ). code_in bytes lane) (shown_paths sim page shows)
          ∙ sym (code_at (pairs (path_code sim)) lane within) ∙ path_shown sim lane within;
    }

-- a lane in no path isn't shown as activated
pub spare_shown : (page : List ℕ) (sim : SimModule) (lane : ℕ) → ShowsLanes page sim → IsLane lane → IsSpare sim lane → is_activated page lane ≡ false
spare_shown page sim lane shows within spare = ap (λ (code : ℕ). code == 4) (shows.states lane within ∙ ap code_of spare.0)

-- ---- a lane in no path

stays_down : (down done : Bool) → down ≡ true → next_of Deactivated (record { down = down; done = done }) ≡ Deactivated
unfolding next_of
stays_down true true e = refl
stays_down true false e = refl
stays_down false done e = absurd cc

active_of : (sim : SimModule) (lane : ℕ) → length sim.lanes ≡ 8 → IsLane lane → get_or (active_bytes sim) (lane - 1) 0 ≡ (lane_at sim lane).active
active_of sim lane eight (from, to) = get_or-map (λ (l : Lane). l.active) sim.lanes (lane - 1) no_lane 0 (omega (arith, from, to, eight))

or_first : (a b c d : Bool) → a ≡ true → (a || b || c || d) ≡ true
or_first a b c d e = ap (λ (t : Bool). t || b || c || d) e

unused_down : (sim : SimModule) (lane : ℕ) → length sim.lanes ≡ 8 → IsLane lane → is_used (control_of (lane_at sim lane).active) ≡ false → is_down sim lane ≡ true
unfolding is_down
unused_down sim lane eight within unused =
    or_first (not (is_used (control_at (active_bytes sim) lane))) (is_path_down sim lane) (not (is_ready sim)) (has_low_power sim)
    (ap (λ (byte : ℕ). not (is_used (control_of byte))) (active_of sim lane eight within) ∙ ap not unused)

spare_tick : (sim : SimModule) (lane : ℕ) → length sim.lanes ≡ 8 → HasNoApply sim → IsLane lane → IsSpare sim lane → IsSpare (ticked sim) lane
spare_tick sim lane eight none within (down, unused) =
    let is : lane_at (ticked sim) lane ≡ moved_lane sim.delays (lane_at sim lane) (next_path_state sim lane) = ticked_at sim lane within ∙ settled_lane sim lane (none lane within) in
    let path : next_path_state sim lane ≡ Deactivated =
    ap (λ (state : PathState). next_of state (record { down = is_down sim lane; done = is_last (lane_at sim lane).ticks_left })) down
    ∙ stays_down (is_down sim lane) (is_last (lane_at sim lane).ticks_left) (unused_down sim lane eight within unused) in
    (ap (λ (l : Lane). l.path) is ∙ path, ap (λ (l : Lane). is_used (control_of l.active)) is ∙ unused)

-- what is active stays, and lanes in no path stay so
pub record KeepsLanes (first sim : SimModule) : Type 0 where
  pub active : active_bytes sim ≡ active_bytes first
  pub spares : (lane : ℕ) → IsLane lane → IsSpare first lane → IsSpare sim lane

-- while ticks come, and after an operation that leaves the lanes as they are
pub lanes_after : (most : ℕ) (first sim mid : SimModule) → IsSteady most sim → mid.lanes ≡ sim.lanes → KeepsLanes first sim → KeepsLanes first (ticked mid)
lanes_after most first sim mid steady same keeps =
    let eight : length mid.lanes ≡ 8 = ap (λ (lanes : List Lane). length lanes) same ∙ steady.eight in
    let none : HasNoApply mid = (λ lane within. ap (λ (lanes : List Lane). (get_or lanes (lane - 1) no_lane).applying) same ∙ steady.none lane within) in
    let active : active_bytes mid ≡ active_bytes first = ap (λ (lanes : List Lane). map (λ (lane : Lane). lane.active) lanes) same ∙ keeps.active in
    let rest : IsAtRest (active_bytes first) mid = record { eight = eight; none = none; active = active } in
    let now : (lane : ℕ) → IsLane lane → IsSpare first lane → IsSpare mid lane = (λ lane within spare.
    subst (λ (lanes : List Lane). ((get_or lanes (lane - 1) no_lane).path ≡ Deactivated) × (is_used (control_of (get_or lanes (lane - 1) no_lane).active) ≡ false)) (sym same) (keeps.spares lane within spare)) in
    record { active = (rest_tick (active_bytes first) mid rest).active; spares = λ lane within spare. spare_tick mid lane eight none within (now lane within spare) }

pub lanes_paused : (most : ℕ) (first : SimModule) (count : ℕ) (sim : SimModule) → IsSteady most sim → KeepsLanes first sim → KeepsLanes first (ticked_times conduct count sim)
lanes_paused most first zero sim steady keeps = keeps
lanes_paused most first (suc count) sim steady keeps =
    let mid = ticked_times conduct count sim in
    lanes_after most first mid mid (steady_paused most count sim steady) refl (lanes_paused most first count sim steady keeps)
