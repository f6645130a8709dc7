use Rattle.std.proofs.Common.{◌≡◌, ℕ, ◌<◌, get_or, length}
use Rattle.port_manager.specs.Codes.{counted_at}
use Rattle.port_manager.proofs.codes.counted.Given as goal

abbrev pub invariant-loop-place : goal.invariant-loop-place
invariant-loop-place l = record {
  len : length l.count-items ≡ 8;
  each : (k : ℕ) → k < l.place → get_or l.count-items k 0 ≡ counted_at l.held l.offset l.bytes l.first k;
}
