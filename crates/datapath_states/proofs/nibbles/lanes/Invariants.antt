use Rattle.std.proofs.Common.{◌≡◌, ℕ, ◌+◌, ◌<◌, get_or, length}
use Rattle.datapath_states.specs.Lanes.{code_in}
use Rattle.datapath_states.proofs.nibbles.lanes.Given as goal

-- the codes so far are those of the lanes
abbrev pub invariant-loop-index : goal.invariant-loop-index
invariant-loop-index g l = record {
  len : length l.lane-items ≡ g.row.N;
  each : (k : ℕ) → k < l.index → get_or l.lane-items k 0 ≡ code_in l.bytes (k + 1);
}
