use Rattle.std.proofs.Common.{◌≡◌, ℕ, ◌<◌, get_or, length}
use Rattle.sim_module.specs.Lanes.{no_lane}
use Rattle.sim_module.proofs.moving.Moving.path_states.Given as goal

abbrev pub invariant-loop-index : goal.invariant-loop-index
invariant-loop-index l = record {
  len : length l.state-items ≡ 8;
  each : (k : ℕ) → k < l.index → get_or l.state-items k no_lane.path ≡ (get_or l.self.lanes k no_lane).path;
}
