use Rattle.std.proofs.Common.{◌≡◌, ℕ, ◌+◌, ◌<◌, get_or, length}
use Rattle.field_tables.specs.Readings.{number_at}
use Rattle.field_tables.proofs.readings.all_numbers.Given as goal

-- the numbers so far are those of the field
abbrev pub invariant-loop-index : goal.invariant-loop-index
invariant-loop-index g l = record {
  len : length l.number-items ≡ g.row.N;
  each : (k : ℕ) → k < l.index → get_or l.number-items k 0 ≡ number_at l.image l.field (k + 1);
}
