-- How many lanes media interfaces of single-mode fibre have, by their IDs. (SFF-8024, Table 4-7 SM Media Interface IDs)
use Rattle.std.specs.Prelude.{List, [], ◌∷◌}
use Rattle.interface_lanes.specs.declared.row.Row.{Row}
use Rattle.interface_lanes.specs.Rows.{lanes}

unfoldable pub single_mode_media_lanes : List Row
single_mode_media_lanes =
    lanes 0x01 1
    ∷ lanes 0x02 1
    ∷ lanes 0x03 1
    ∷ lanes 0x04 1
    ∷ lanes 0x05 1
    ∷ lanes 0x06 1
    ∷ lanes 0x07 1
    ∷ lanes 0x08 1
    ∷ lanes 0x09 4
    ∷ lanes 0x0A 1
    ∷ lanes 0x0B 1
    ∷ lanes 0x0C 1
    ∷ lanes 0x0D 4
    ∷ lanes 0x0E 4
    ∷ lanes 0x0F 4
    ∷ lanes 0x10 4
    ∷ lanes 0x11 4
    ∷ lanes 0x12 4
    ∷ lanes 0x13 4
    ∷ lanes 0x14 1
    ∷ lanes 0x15 1
    ∷ lanes 0x16 1
    ∷ lanes 0x17 4
    ∷ lanes 0x18 4
    ∷ lanes 0x19 4
    ∷ lanes 0x1A 8
    ∷ lanes 0x1B 8
    ∷ lanes 0x1C 4
    ∷ lanes 0x1D 4
    ∷ lanes 0x1E 4
    ∷ lanes 0x1F 1
    ∷ lanes 0x21 1
    ∷ lanes 0x22 1
    ∷ lanes 0x23 1
    ∷ lanes 0x24 4
    ∷ lanes 0x25 4
    ∷ lanes 0x26 4
    ∷ lanes 0x27 4
    ∷ lanes 0x2C 4
    ∷ lanes 0x2D 4
    ∷ lanes 0x2E 4
    ∷ lanes 0x2F 4
    ∷ lanes 0x30 4
    ∷ lanes 0x31 4
    ∷ lanes 0x32 8
    ∷ lanes 0x33 8
    ∷ lanes 0x34 4
    ∷ lanes 0x3E 1
    ∷ lanes 0x3F 1
    ∷ lanes 0x40 1
    ∷ lanes 0x41 4
    ∷ lanes 0x42 8
    ∷ lanes 0x43 4
    ∷ lanes 0x44 1
    ∷ lanes 0x46 1
    ∷ lanes 0x47 1
    ∷ lanes 0x48 1
    ∷ lanes 0x49 1
    ∷ lanes 0x4A 1
    ∷ lanes 0x4B 1
    ∷ lanes 0x4C 1
    ∷ []
