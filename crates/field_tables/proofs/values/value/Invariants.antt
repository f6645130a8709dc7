use Rattle.std.proofs.Common.{◌≡◌, ℕ, ◌+◌, ◌<◌, pos, get_or, length}
use Rattle.field_tables.specs.FieldValues.{row_value}
use Rattle.field_tables.specs.RowPlaces.{IsInRange}
use Rattle.field_tables.proofs.values.value.Given as goal

-- the values so far are those of the row
abbrev pub invariant-loop-index : goal.invariant-loop-index
invariant-loop-index g l = record {
  len : length l.value-items ≡ g.row.N;
  each : (k : ℕ) → k < l.index → get_or l.value-items k (pos 0) ≡ row_value l.page l.row (k + 1);
  range : (k : ℕ) → k < l.index → IsInRange l.row (get_or l.value-items k (pos 0));
}
