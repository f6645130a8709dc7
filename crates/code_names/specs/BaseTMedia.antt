-- What the media lanes are, on twisted pairs. (SFF-8024, Table 4-10 BASE-T Media Interface IDs)
use Rattle.std.specs.Prelude.{List, [], ◌∷◌, codes}
use Rattle.code_names.specs.Rows.{Row, name, reserved_from, vendor_specific_from}

unfoldable pub base_t_media_names : List Row
base_t_media_names =
    name 0x00 (codes "Undefined")
    ∷ name 0x01 (codes "1000BASE-T")
    ∷ name 0x02 (codes "2.5GBASE-T")
    ∷ name 0x03 (codes "5GBASE-T")
    ∷ name 0x04 (codes "10GBASE-T")
    ∷ reserved_from 0x05 0xBF
    ∷ vendor_specific_from 0xC0 0xFF
    ∷ []
