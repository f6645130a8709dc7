use Rattle.std.proofs.Common.{◌≡◌, ℕ, ◌<◌, get_or, length}
use Rattle.port_manager.specs.Flags.{dated_at}
use Rattle.port_manager.proofs.flags.dated.Given as goal

abbrev pub invariant-loop-place : goal.invariant-loop-place
invariant-loop-place g l = record {
  len : length l.moment-items ≡ g.row.N;
  each : (k : ℕ) → k < l.place → get_or l.moment-items k 0 ≡ dated_at l.held l.offset l.bytes l.first l.now k;
}
