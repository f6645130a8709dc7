-- What makes the light, or how a copper cable is equalized. (OIF-CMIS-05.0, Media Interface Technology Encodings)
use Rattle.std.specs.Prelude.{List, [], ◌∷◌, codes}
use Rattle.code_names.specs.Rows.{Row, name, reserved_from}

unfoldable pub media_technology_names : List Row
media_technology_names =
    name 0x00 (codes "850 nm VCSEL")
    ∷ name 0x01 (codes "1310 nm VCSEL")
    ∷ name 0x02 (codes "1550 nm VCSEL")
    ∷ name 0x03 (codes "1310 nm FP")
    ∷ name 0x04 (codes "1310 nm DFB")
    ∷ name 0x05 (codes "1550 nm DFB")
    ∷ name 0x06 (codes "1310 nm EML")
    ∷ name 0x07 (codes "1550 nm EML")
    ∷ name 0x08 (codes "Others")
    ∷ name 0x09 (codes "1490 nm DFB")
    ∷ name 0x0A (codes "Copper cable, unequalized")
    ∷ name 0x0B (codes "Copper cable, passive equalized")
    ∷ name 0x0C (codes "Copper cable, near and far end limiting active equalizers")
    ∷ name 0x0D (codes "Copper cable, far end limiting active equalizers")
    ∷ name 0x0E (codes "Copper cable, near end limiting active equalizers")
    ∷ name 0x0F (codes "Copper cable, linear active equalizers")
    ∷ name 0x10 (codes "C-band tunable laser")
    ∷ name 0x11 (codes "L-band tunable laser")
    ∷ reserved_from 0x15 0xFF
    ∷ []
