use Rattle.std.proofs.Common.{◌≡◌, ℕ, ◌+◌, ◌<◌, get_or, length}
use Rattle.sim_module.specs.Lanes.{no_lane}
use Rattle.sim_module.specs.Starts.{start_lane}
use Rattle.sim_module.proofs.start.start_lanes.Given as goal

abbrev pub invariant-loop-index : goal.invariant-loop-index
invariant-loop-index l = record {
  len : length l.lane-items ≡ 8;
  each : (k : ℕ) → k < l.index → get_or l.lane-items k no_lane ≡ start_lane l.image (k + 1);
}
