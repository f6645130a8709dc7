-- What memory has for a field whose half it has.
use Rattle.std.proofs.Common.{◌≡◌, ℕ, ◌+◌, ◌<◌, ℤ, pos, List, Some, length, get_or, sym, ap, ◌∙◌, arith}
use Rattle.std.proofs.lemmas.List.{ext_get_or}
use Rattle.std.proofs.lemmas.List.FromFn.{get_or-map-range_with_len, length-map-range_with_len}
use Rattle.std.specs.FinMap as map
use Rattle.paged_memory.specs.declared.key.Key.{Key}
use Rattle.paged_memory.specs.Images.{Memory}
use Rattle.field_tables.specs.declared.field.Field.{Field}
use Rattle.field_tables.specs.declared.layout.Row.{Row}
use Rattle.field_tables.specs.FieldRows.{row_of}
use Rattle.field_tables.specs.Halves.{half_key}
use Rattle.field_tables.specs.FieldValues.{field_key, of_each, row_value, value_in, values_in}

pub get-field_key : (memory : Memory) (field : Field) (row : Row) (key : Key) (bytes : List ℕ) → row ≡ row_of field → key ≡ half_key row.dev row.half row.page →
    map.get memory key ≡ Some bytes → map.get memory (field_key field) ≡ Some bytes
get-field_key memory field row key bytes same at found =
    ap (map.get memory) (ap (λ (r : Row). half_key r.dev r.half r.page) (sym same) ∙ sym at) ∙ found

pub value_in-row : (bytes : List ℕ) (field : Field) (row : Row) (i : ℕ) → row ≡ row_of field → row_value bytes row i ≡ value_in bytes field i
unfolding value_in
value_in-row bytes field row i same = ap (λ (r : Row). row_value bytes r i) same

-- a list with something of each value of a field
pub of_each-list : {A : Type 0} (default : A) (field : Field) (of : ℕ → A) (values : List A) → length values ≡ (row_of field).count →
    ((k : ℕ) → k < (row_of field).count → get_or values k default ≡ of (k + 1)) → values ≡ of_each field of
of_each-list default field of values len each =
    ext_get_or default values (of_each field of) (len ∙ sym (length-map-range_with_len of 1 (row_of field).count))
    (λ i below. each i (omega (arith, len)) ∙ sym (get_or-map-range_with_len of 1 (row_of field).count i (i + 1) default (omega (arith, len)) (omega arith)))

-- the list of a field's values, from each of them
pub values_in-row : (bytes : List ℕ) (field : Field) (row : Row) (values : List ℤ) → row ≡ row_of field → length values ≡ row.count →
    ((k : ℕ) → k < row.count → get_or values k (pos 0) ≡ row_value bytes row (k + 1)) → values ≡ values_in bytes field
values_in-row bytes field row values same len each =
    let count : row.count ≡ (row_of field).count = ap (λ (r : Row). r.count) same in
    of_each-list (pos 0) field (value_in bytes field) values (len ∙ count)
    (λ k below. each k (omega (arith, count, below)) ∙ value_in-row bytes field row (k + 1) same)
