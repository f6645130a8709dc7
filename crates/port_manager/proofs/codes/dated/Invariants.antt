use Rattle.std.proofs.Common.{◌≡◌, ℕ, ◌<◌, get_or, length}
use Rattle.port_manager.specs.Codes.{dated_at}
use Rattle.port_manager.proofs.codes.dated.Given as goal

abbrev pub invariant-loop-place : goal.invariant-loop-place
invariant-loop-place l = record {
  len : length l.moment-items ≡ 8;
  each : (k : ℕ) → k < l.place → get_or l.moment-items k 0 ≡ dated_at l.held l.offset l.bytes l.first l.now k;
}
