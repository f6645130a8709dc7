use Rattle.std.proofs.Common.{◌≡◌, ℕ, ◌<◌, false, get_or, length}
use Rattle.command_line.specs.PlanWarnings.{is_unknown}
use Rattle.command_line.proofs.remark.warnings.unknown_in.Given as goal

abbrev pub invariant-loop-number : goal.invariant-loop-number
invariant-loop-number l = record {
  len : length l.unknown-items ≡ 256;
  each : (k : ℕ) → k < l.number → get_or l.unknown-items k false ≡ is_unknown l.advert l.weights l.table k;
}
