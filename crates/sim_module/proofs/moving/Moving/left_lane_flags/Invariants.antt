use Rattle.std.proofs.Common.{◌≡◌, ℕ, ◌<◌, get_or, length}
use Rattle.sim_module.specs.ShownBytes.{left_lane_flag}
use Rattle.sim_module.specs.Registers.{is_from}
use Rattle.sim_module.specs.Record.{bare}
use Rattle.sim_module.proofs.moving.Moving.left_lane_flags.Given as goal

abbrev pub invariant-loop-index : goal.invariant-loop-index
invariant-loop-index l = record {
  len : length l.flag-items ≡ 19;
  each : (k : ℕ) → k < l.index → get_or l.flag-items k 0 ≡ left_lane_flag (bare l.self) (is_from l.first l.count) k;
}
