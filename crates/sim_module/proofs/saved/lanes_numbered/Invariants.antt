use Rattle.std.proofs.Common.{◌≡◌, ℕ, ◌<◌, get_or, length}
use Rattle.sim_module.specs.SavedModules.{lane_of, no_numbers}
use Rattle.sim_module.proofs.saved.lanes_numbered.Given as goal

abbrev pub invariant-loop-index : goal.invariant-loop-index
invariant-loop-index l = record {
  len : length l.lane-items ≡ 8;
  each : (k : ℕ) → k < l.index → get_or l.lane-items k (lane_of no_numbers) ≡ lane_of (get_or l.saved k no_numbers);
}
