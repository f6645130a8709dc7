-- The state and the counter of a lane after a tick.
use Rattle.std.proofs.Common.{◌≡◌, ℕ, Bool, true, false, Option, Some, None, refl, ap, ◌∙◌, if◌then◌else◌}
use Rattle.datapath_states.specs.declared.state.PathState.{PathState}
use Rattle.field_tables.specs.LaneSets.{IsLane}
use Rattle.sim_module.specs.declared.delays.Delays.{Delays}
use Rattle.sim_module.specs.declared.lane.Lane.{Lane}
use Rattle.sim_module.specs.declared.module.SimModule.{SimModule}
use Rattle.sim_module.specs.Lanes.{is_path_state, lane_at}
use Rattle.sim_module.specs.Ticks.{applied_by, applied_lane, is_last, moved_lane, next_left, next_path_state, path_delay, ticked, ticked_lane}
use Rattle.sim_module.proofs.LanesInTime.{path_after, ticked_at}

-- what a tick makes of a counter, by the state before it and after it
abbrev pub left_next : Delays → PathState → PathState → ℕ → ℕ
left_next delays path next left = next_left (is_path_state next path) left (path_delay delays next)

same_left : (lane : Lane) (kept : Option ℕ) → (applied_by kept lane).ticks_left ≡ lane.ticks_left
same_left lane (Some byte) = refl
same_left lane None = refl

left_by : (moved : Lane) (done : Bool) → (if done then applied_lane moved else moved).ticks_left ≡ moved.ticks_left
left_by moved true = same_left moved moved.applying
left_by moved false = refl

moved_left : (sim : SimModule) (lane : ℕ) → (ticked_lane sim lane).ticks_left ≡ left_next sim.delays (lane_at sim lane).path (next_path_state sim lane) (lane_at sim lane).ticks_left
unfolding ticked_lane
moved_left sim lane = left_by (moved_lane sim.delays (lane_at sim lane) (next_path_state sim lane)) (is_last sim.apply_left)

pub reads_path : (sim : SimModule) (lane : ℕ) → IsLane lane → (lane_at (ticked sim) lane).path ≡ next_path_state sim lane
unfolding ticked
reads_path sim lane within = path_after sim lane within

pub reads_left : (sim : SimModule) (lane : ℕ) → IsLane lane → (lane_at (ticked sim) lane).ticks_left ≡ left_next sim.delays (lane_at sim lane).path (next_path_state sim lane) (lane_at sim lane).ticks_left
reads_left sim lane within = ap (λ (l : Lane). l.ticks_left) (ticked_at sim lane within) ∙ moved_left sim lane
