-- The codes of several lanes, four bits each, lanes counted from 1: two to a byte, the odd one in the lower four bits.
-- It is the layout `nibbles` of fields, over bytes that begin with lane 1. (docs/fields.md, "Places and layouts";
-- OIF-CMIS-05.0, Data Path States and Configuration Command Status among the lane statuses of page 11h)
use Rattle.std.specs.Prelude.{ℕ, List, map, slice_index}
use Rattle.std.specs.List.{range_with_len}
use Rattle.field_tables.specs.Layouts.{nibbles}
use Rattle.field_tables.specs.Numbers.{number_in}

-- the code of lane i
unfoldable pub code_in : List ℕ → ℕ → ℕ
code_in bytes i = number_in (slice_index bytes) (nibbles 0 i)

-- the codes of so many lanes, lane 1 first
abbrev pub codes_in : List ℕ → ℕ → List ℕ
codes_in bytes count = map (code_in bytes) (range_with_len 1 count)
