-- The rows of a table of interfaces, as far as they say how many lanes an interface has. (SFF-8024, section 4, the column of lane
-- counts)
use Rattle.std.specs.Prelude.{ℕ, ◌==◌, Bool, List, Option, find, option_map}
use Rattle.interface_lanes.specs.declared.row.Row.{Row}

-- an interface with this ID has so many lanes
abbrev pub lanes : ℕ → ℕ → Row
lanes id count = record { id = id; count = count }

abbrev pub has_id : ℕ → Row → Bool
has_id id row = row.id == id

-- the count in the row of an ID
abbrev pub count_in : List Row → ℕ → Option ℕ
count_in rows id = option_map (λ row. row.count) (find (has_id id) rows)
