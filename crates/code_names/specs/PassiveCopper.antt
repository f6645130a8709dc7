-- What the media lanes are, on a copper cable that amplifies nothing. (SFF-8024, Table 4-8 Passive Copper Cable Media Interface IDs)
use Rattle.std.specs.Prelude.{List, [], ◌∷◌, codes}
use Rattle.code_names.specs.Rows.{Row, name, reserved_from, vendor_specific_from}

unfoldable pub passive_copper_names : List Row
passive_copper_names =
    name 0x00 (codes "Undefined")
    ∷ name 0x01 (codes "Copper cable")
    ∷ reserved_from 0x02 0xBE
    ∷ name 0xBF (codes "Passive loopback module")
    ∷ vendor_specific_from 0xC0 0xFF
    ∷ []
