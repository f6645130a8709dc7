-- How many lanes media interfaces of multi-mode fibre at 850 nm have, by their IDs. (SFF-8024, Table 4-6 MM Media Interface IDs)
use Rattle.std.specs.Prelude.{List, [], ◌∷◌}
use Rattle.interface_lanes.specs.declared.row.Row.{Row}
use Rattle.interface_lanes.specs.Rows.{lanes}

unfoldable pub multi_mode_media_lanes : List Row
multi_mode_media_lanes =
    lanes 0x01 1
    ∷ lanes 0x02 1
    ∷ lanes 0x03 1
    ∷ lanes 0x04 4
    ∷ lanes 0x05 4
    ∷ lanes 0x07 1
    ∷ lanes 0x09 4
    ∷ lanes 0x0A 4
    ∷ lanes 0x0C 2
    ∷ lanes 0x0D 1
    ∷ lanes 0x0E 4
    ∷ lanes 0x10 8
    ∷ lanes 0x11 4
    ∷ lanes 0x12 8
    ∷ lanes 0x13 1
    ∷ lanes 0x15 1
    ∷ lanes 0x16 1
    ∷ lanes 0x17 1
    ∷ lanes 0x18 4
    ∷ lanes 0x19 4
    ∷ lanes 0x1B 2
    ∷ lanes 0x1D 1
    ∷ lanes 0x1E 2
    ∷ lanes 0x1F 4
    ∷ lanes 0x20 8
    ∷ []
