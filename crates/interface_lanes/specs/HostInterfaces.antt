-- How many lanes host electrical interfaces have, by their IDs. (SFF-8024, Table 4-5 Host Electrical Interface IDs)
use Rattle.std.specs.Prelude.{List, [], ◌∷◌}
use Rattle.interface_lanes.specs.declared.row.Row.{Row}
use Rattle.interface_lanes.specs.Rows.{lanes}

unfoldable pub host_interface_lanes : List Row
host_interface_lanes =
    lanes 0x01 1
    ∷ lanes 0x02 4
    ∷ lanes 0x03 1
    ∷ lanes 0x04 1
    ∷ lanes 0x05 1
    ∷ lanes 0x06 4
    ∷ lanes 0x07 4
    ∷ lanes 0x08 2
    ∷ lanes 0x09 2
    ∷ lanes 0x0A 1
    ∷ lanes 0x0B 4
    ∷ lanes 0x0C 4
    ∷ lanes 0x0D 2
    ∷ lanes 0x0E 8
    ∷ lanes 0x0F 4
    ∷ lanes 0x11 8
    ∷ lanes 0x13 4
    ∷ lanes 0x14 1
    ∷ lanes 0x15 1
    ∷ lanes 0x16 1
    ∷ lanes 0x17 4
    ∷ lanes 0x18 1
    ∷ lanes 0x1A 4
    ∷ lanes 0x1B 2
    ∷ lanes 0x1C 4
    ∷ lanes 0x1D 8
    ∷ lanes 0x25 1
    ∷ lanes 0x27 1
    ∷ lanes 0x28 1
    ∷ lanes 0x29 1
    ∷ lanes 0x2A 4
    ∷ lanes 0x2B 4
    ∷ lanes 0x37 4
    ∷ lanes 0x39 4
    ∷ lanes 0x3A 4
    ∷ lanes 0x3B 4
    ∷ lanes 0x3C 2
    ∷ lanes 0x3D 8
    ∷ lanes 0x3E 4
    ∷ lanes 0x40 8
    ∷ lanes 0x41 4
    ∷ lanes 0x42 4
    ∷ lanes 0x43 2
    ∷ lanes 0x44 2
    ∷ lanes 0x45 2
    ∷ lanes 0x46 1
    ∷ lanes 0x47 2
    ∷ lanes 0x48 4
    ∷ lanes 0x49 8
    ∷ lanes 0x4B 1
    ∷ lanes 0x4C 1
    ∷ lanes 0x4D 2
    ∷ lanes 0x4E 2
    ∷ lanes 0x4F 4
    ∷ lanes 0x50 4
    ∷ lanes 0x51 8
    ∷ lanes 0x52 8
    ∷ lanes 0x53 2
    ∷ []
