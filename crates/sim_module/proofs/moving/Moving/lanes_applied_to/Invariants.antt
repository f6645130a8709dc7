use Rattle.std.proofs.Common.{◌≡◌, ℕ, ◌+◌, ◌<◌, get_or, length}
use Rattle.sim_module.specs.Lanes.{no_lane}
use Rattle.sim_module.specs.Applies.{applied_to}
use Rattle.sim_module.specs.Record.{module_of}
use Rattle.sim_module.proofs.moving.Moving.lanes_applied_to.Given as goal

abbrev pub invariant-loop-index : goal.invariant-loop-index
invariant-loop-index l = record {
  len : length l.lane-items ≡ 8;
  each : (k : ℕ) → k < l.index → get_or l.lane-items k no_lane ≡ applied_to (module_of l.fixed l.self) l.mask (k + 1);
}
