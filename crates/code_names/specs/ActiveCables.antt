-- What the media lanes are, on an active cable; BER is the greatest bit error ratio. (SFF-8024, Table 4-9 Active Cable Assembly Media Interface IDs)
use Rattle.std.specs.Prelude.{List, [], ◌∷◌, codes}
use Rattle.code_names.specs.Rows.{Row, name, vendor_specific_from}

unfoldable pub active_cable_names : List Row
active_cable_names =
    name 0x00 (codes "Undefined")
    ∷ name 0x01 (codes "Active cable, BER < 10^-12")
    ∷ name 0x02 (codes "Active cable, BER < 5x10^-5")
    ∷ name 0x03 (codes "Active cable, BER < 2.6x10^-4")
    ∷ name 0x04 (codes "Active cable, BER < 10^-6")
    ∷ name 0xBF (codes "Active loopback module")
    ∷ vendor_specific_from 0xC0 0xFF
    ∷ []
