use Rattle.std.proofs.Common.{◌≡◌, ℕ, ◌+◌, ◌<◌, pos, get_or, length}
use Rattle.field_tables.specs.Readings.{IsWord, reading_at}
use Rattle.field_tables.proofs.readings.all_readings.Given as goal

-- the values so far are those of the field
abbrev pub invariant-loop-index : goal.invariant-loop-index
invariant-loop-index g l = record {
  len : length l.value-items ≡ g.row.N;
  each : (k : ℕ) → k < l.index → get_or l.value-items k (pos 0) ≡ reading_at l.image l.field (k + 1);
  words : (k : ℕ) → k < l.index → IsWord (get_or l.value-items k (pos 0));
}
