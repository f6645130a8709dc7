-- What holds a lane down, and what a tick makes of a lane.
use Rattle.std.proofs.Common.{◌≡◌, ℕ, ◌-◌, ◌&&◌, ◌||◌, not, Bool, true, false, Option, Some, None, get_or, map, refl, sym, ap, ◌∙◌, if◌then◌else◌, arith}
use Rattle.std.specs.List.{list_any}
use Rattle.std.proofs.lemmas.List.FromFn.{get_or-map-range_with_len}
use Rattle.datapath_states.specs.declared.state.PathState.{PathState}
use Rattle.datapath_states.specs.declared.state.PathState.TheVariants.{Activated, Deactivated, Init}
use Rattle.datapath_states.specs.Transitions.{next_of}
use Rattle.field_tables.specs.LaneSets.{IsLane}
use Rattle.control_sets.specs.HostPaths.{agree, control_at, is_used}
use Rattle.sim_module.specs.declared.lane.Lane.{Lane}
use Rattle.sim_module.specs.declared.module.SimModule.{SimModule}
use Rattle.sim_module.specs.Lanes.{active_bytes, all_lanes, is_path_state, lane_at, no_lane}
use Rattle.sim_module.specs.Down.{has_low_power, holds_down, is_down, is_path_down, is_ready}
use Rattle.sim_module.specs.Soundness.{HoldsItsPath, LanesComeUp, LanesStayUp}
use Rattle.control_sets.proofs.EightLanes.{each_of_eight}
use Rattle.sim_module.specs.Ticks.{applied_by, applied_lane, is_last, moved_lane, next_left, next_path_state, path_delay, ticked, ticked_lane}

-- ---- lanes that are made one by one

pub made_lane : (f : ℕ → Lane) (lane : ℕ) → IsLane lane → get_or (map f all_lanes) (lane - 1) no_lane ≡ f lane
made_lane f lane (from, to) = get_or-map-range_with_len f 1 8 (lane - 1) lane no_lane (omega (arith, from, to)) (omega (arith, from))

pub ticked_at : (sim : SimModule) (lane : ℕ) → IsLane lane → lane_at (ticked sim) lane ≡ ticked_lane sim lane
unfolding ticked
ticked_at sim lane within = made_lane (ticked_lane sim) lane within

settled : (done : Bool) (moved : Lane) → moved.applying ≡ None → (if done then applied_lane moved else moved) ≡ moved
settled true moved none = ap (λ (kept : Option ℕ). applied_by kept moved) none
settled false moved none = refl

-- a lane that no apply holds
pub settled_lane : (sim : SimModule) (lane : ℕ) → (lane_at sim lane).applying ≡ None → ticked_lane sim lane ≡ moved_lane sim.delays (lane_at sim lane) (next_path_state sim lane)
unfolding ticked_lane
settled_lane sim lane none = settled (is_last sim.apply_left) (moved_lane sim.delays (lane_at sim lane) (next_path_state sim lane)) none

-- ---- down

pub any_in : (test : ℕ → Bool) (lane : ℕ) → IsLane lane → test lane ≡ true → list_any test all_lanes ≡ true
any_in test lane within passes = each_of_eight (λ n. test n ≡ true → list_any test all_lanes ≡ true)
    (λ t. grind (arith, t)) (λ t. grind (arith, t)) (λ t. grind (arith, t)) (λ t. grind (arith, t)) (λ t. grind (arith, t)) (λ t. grind (arith, t)) (λ t. grind (arith, t)) (λ t. grind (arith, t)) lane within passes

or_second : (a b c d : Bool) → b ≡ true → (a || b || c || d) ≡ true
or_second true b c d second = refl
or_second false b c d second = ap (λ (t : Bool). t || c || d) second

pub held_down : HoldsItsPath
unfolding is_down
held_down sim lane other within agrees holds =
    let both : (agree (active_bytes sim) lane other && holds_down sim other) ≡ true = ap (λ (t : Bool). t && holds_down sim other) agrees ∙ holds in
    or_second (not (is_used (control_at (active_bytes sim) lane))) (is_path_down sim lane) (not (is_ready sim)) (has_low_power sim)
    (any_in (λ n. agree (active_bytes sim) lane n && holds_down sim n) other within both)

-- ---- up

next_activated : (down done : Bool) → down ≡ false → next_of Activated (record { down = down; done = done }) ≡ Activated
unfolding next_of
next_activated true done up = cc
next_activated false true up = refl
next_activated false false up = refl

pub stays_up : LanesStayUp
stays_up sim lane within activated up none =
    let path : next_path_state sim lane ≡ (lane_at sim lane).path =
    ap (λ (state : PathState). next_of state (record { down = is_down sim lane; done = is_last (lane_at sim lane).ticks_left })) activated
    ∙ next_activated (is_down sim lane) (is_last (lane_at sim lane).ticks_left) up ∙ sym activated in
    let is : lane_at (ticked sim) lane ≡ moved_lane sim.delays (lane_at sim lane) (next_path_state sim lane) = ticked_at sim lane within ∙ settled_lane sim lane none in
    record {
      path = ap (λ (l : Lane). l.path) is ∙ path;
      active = ap (λ (l : Lane). l.active) is;
      applying = ap (λ (l : Lane). l.applying) is ∙ none;
    }

next_deactivated : (down done : Bool) → down ≡ false → next_of Deactivated (record { down = down; done = done }) ≡ Init
unfolding next_of
next_deactivated true done up = cc
next_deactivated false true up = refl
next_deactivated false false up = refl

-- of a lane after an apply that is done, what an apply changes not
but_for_apply : {X : Type 0} (f : Lane → X) → ((lane : Lane) (kept : Option ℕ) → f (applied_by kept lane) ≡ f lane) → (done : Bool) (moved : Lane) → f (if done then applied_lane moved else moved) ≡ f moved
but_for_apply f same true moved = same moved moved.applying
but_for_apply f same false moved = refl

same_path : (lane : Lane) (kept : Option ℕ) → (applied_by kept lane).path ≡ lane.path
same_path lane (Some byte) = refl
same_path lane None = refl

same_left : (lane : Lane) (kept : Option ℕ) → (applied_by kept lane).ticks_left ≡ lane.ticks_left
same_left lane (Some byte) = refl
same_left lane None = refl

moved_path : (sim : SimModule) (lane : ℕ) → (ticked_lane sim lane).path ≡ next_path_state sim lane
unfolding ticked_lane
moved_path sim lane = but_for_apply (λ (l : Lane). l.path) same_path (is_last sim.apply_left) (moved_lane sim.delays (lane_at sim lane) (next_path_state sim lane))

moved_left : (sim : SimModule) (lane : ℕ) → (ticked_lane sim lane).ticks_left ≡ (moved_lane sim.delays (lane_at sim lane) (next_path_state sim lane)).ticks_left
unfolding ticked_lane
moved_left sim lane = but_for_apply (λ (l : Lane). l.ticks_left) same_left (is_last sim.apply_left) (moved_lane sim.delays (lane_at sim lane) (next_path_state sim lane))

-- among all lanes after a tick
pub path_after : (sim : SimModule) (lane : ℕ) → IsLane lane → (get_or (map (ticked_lane sim) all_lanes) (lane - 1) no_lane).path ≡ next_path_state sim lane
path_after sim lane within = ap (λ (l : Lane). l.path) (made_lane (ticked_lane sim) lane within) ∙ moved_path sim lane

pub comes_up : LanesComeUp
comes_up sim lane within deactivated up =
    let path : next_path_state sim lane ≡ Init =
    ap (λ (state : PathState). next_of state (record { down = is_down sim lane; done = is_last (lane_at sim lane).ticks_left })) deactivated
    ∙ next_deactivated (is_down sim lane) (is_last (lane_at sim lane).ticks_left) up in
    let is = ticked_at sim lane within in
    record {
      path = ap (λ (l : Lane). l.path) is ∙ moved_path sim lane ∙ path;
      ticks_left = ap (λ (l : Lane). l.ticks_left) is ∙ moved_left sim lane
          ∙ (λ i. next_left (is_path_state (path i) (deactivated i)) (lane_at sim lane).ticks_left (path_delay sim.delays (path i)));
    }
