-- The keys by which weights name what weighs something: two hexadecimal digits and `h` for an interface ID, as tables of SFF-8024
-- write it, and decimal digits for an Application's number. (docs/formats.md, "Weights"; this project's own)
use Rattle.std.specs.Prelude.{ℕ, ◌+◌, ◌*◌, Bool, ◌==◌, ◌&&◌, nat_lt, if◌then◌else◌, List, codes, find, length, Option, Some, None, slice_index}
use Rattle.std.specs.Char.{digit_value}
use Rattle.std.specs.Fmt.{decimal}
use Rattle.std.specs.List.{range_with_len}
use Rattle.std.specs.Str.{bytes_eq}
use Rattle.applications.specs.declared.weights.table.WeightTable.{WeightTable}
use Rattle.applications.specs.declared.weights.table.WeightTable.TheVariants.{Host, Media, App}

-- 0 to 9, A to F and a to f
abbrev pub is_hexadecimal : ℕ → Bool
is_hexadecimal digit = nat_lt (digit_value digit) 16

-- two hexadecimal digits and `h`
abbrev pub writes_id : List ℕ → Bool
writes_id key = length key == 3 && is_hexadecimal (slice_index key 0) && is_hexadecimal (slice_index key 1) && slice_index key 2 == 104

-- the interface ID that a key writes
unfoldable pub id_of_key : List ℕ → Option ℕ
id_of_key key = if writes_id key then Some (16 * digit_value (slice_index key 0) + digit_value (slice_index key 1)) else None

-- the number of an Application, 1 to 15, that a key writes
unfoldable pub app_of_key : List ℕ → Option ℕ
app_of_key key = find (λ number. bytes_eq key (decimal number)) (range_with_len 1 15)

-- what a key of a table names
abbrev pub named_by : WeightTable → List ℕ → Option ℕ
named_by Host key = id_of_key key
named_by Media key = id_of_key key
named_by App key = app_of_key key

-- the name of a table
unfoldable pub table_name : WeightTable → List ℕ
table_name Host = codes "host"
table_name Media = codes "media"
table_name App = codes "app"

-- the key of the weight of staying
unfoldable pub stay_name : List ℕ
stay_name = codes "stay"
