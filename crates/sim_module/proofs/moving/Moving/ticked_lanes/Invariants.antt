use Rattle.std.proofs.Common.{◌≡◌, ℕ, ◌+◌, ◌<◌, get_or, length}
use Rattle.sim_module.specs.Lanes.{no_lane}
use Rattle.sim_module.specs.Ticks.{ticked_lane}
use Rattle.sim_module.specs.Record.{bare}
use Rattle.sim_module.proofs.moving.Moving.ticked_lanes.Given as goal

abbrev pub invariant-loop-index : goal.invariant-loop-index
invariant-loop-index l = record {
  len : length l.lane-items ≡ 8;
  each : (k : ℕ) → k < l.index → get_or l.lane-items k no_lane ≡ ticked_lane (bare l.self) (k + 1);
}
