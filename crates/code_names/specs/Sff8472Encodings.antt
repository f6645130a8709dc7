-- How bits are coded on the medium. (SFF-8024, Table 4-2 Encoding Values, the column of SFF-8472)
use Rattle.std.specs.Prelude.{List, [], ◌∷◌, codes}
use Rattle.code_names.specs.Rows.{Row, name, reserved_from}

unfoldable pub sff8472_encoding_names : List Row
sff8472_encoding_names =
    name 0x00 (codes "Unspecified")
    ∷ name 0x01 (codes "8B/10B")
    ∷ name 0x02 (codes "4B/5B")
    ∷ name 0x03 (codes "NRZ")
    ∷ name 0x04 (codes "Manchester")
    ∷ name 0x05 (codes "SONET Scrambled")
    ∷ name 0x06 (codes "64B/66B")
    ∷ name 0x07 (codes "256B/257B")
    ∷ name 0x08 (codes "PAM4")
    ∷ reserved_from 0x09 0xFF
    ∷ []
