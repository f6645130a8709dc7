use Rattle.std.proofs.Common.{◌≡◌, ℕ, ◌<◌, get_or, length}
use Rattle.port_manager.specs.Flags.{since_at}
use Rattle.port_manager.proofs.flags.last_since.Given as goal

abbrev pub invariant-loop-place : goal.invariant-loop-place
invariant-loop-place g l = record {
  len : length l.value-items ≡ g.row.N;
  each : (k : ℕ) → k < l.place → get_or l.value-items k 0 ≡ since_at l.last l.last l.moment k;
}
