-- On which kind of medium a module's Applications are, and so by which table their media interfaces are named. (OIF-CMIS-05.0, Media Type Encodings)
use Rattle.std.specs.Prelude.{List, [], ◌∷◌, codes}
use Rattle.code_names.specs.Rows.{Row, name, reserved_from, vendor_specific_from}

unfoldable pub media_type_names : List Row
media_type_names =
    name 0x00 (codes "Undefined")
    ∷ name 0x01 (codes "Optical interfaces: MMF")
    ∷ name 0x02 (codes "Optical interfaces: SMF")
    ∷ name 0x03 (codes "Passive copper cables")
    ∷ name 0x04 (codes "Active cables")
    ∷ name 0x05 (codes "BASE-T")
    ∷ reserved_from 0x06 0x3F
    ∷ vendor_specific_from 0x40 0x8F
    ∷ reserved_from 0x90 0xFF
    ∷ []
