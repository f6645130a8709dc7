use Rattle.std.proofs.Common.{◌≡◌, ℕ, ◌<◌, get_or, length}
use Rattle.port_manager.specs.Codes.{code_read_at}
use Rattle.port_manager.proofs.codes.codes_read.Given as goal

abbrev pub invariant-loop-place : goal.invariant-loop-place
invariant-loop-place l = record {
  len : length l.code-items ≡ 8;
  each : (k : ℕ) → k < l.place → get_or l.code-items k 0 ≡ code_read_at l.held l.offset l.bytes l.first k;
}
