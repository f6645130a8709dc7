use Rattle.std.proofs.Common.{◌≡◌, ℕ, ◌+◌, ◌<◌, false, get_or, length}
use Rattle.field_tables.specs.Readings.{bit_at}
use Rattle.field_tables.proofs.readings.all_bits.Given as goal

-- the bits so far are those of the field
abbrev pub invariant-loop-index : goal.invariant-loop-index
invariant-loop-index g l = record {
  len : length l.value-items ≡ g.row.N;
  each : (k : ℕ) → k < l.index → get_or l.value-items k false ≡ bit_at l.image l.field (k + 1);
}
