-- How the serial interface of a module is defined. (SFF-8472, Extended Identifier)
use Rattle.std.specs.Prelude.{List, [], ◌∷◌, codes}
use Rattle.code_names.specs.Rows.{Row, name, reserved_from}

unfoldable pub sff8472_extended_identifier_names : List Row
sff8472_extended_identifier_names =
    name 0x00 (codes "Not specified")
    ∷ name 0x01 (codes "MOD_DEF 1")
    ∷ name 0x02 (codes "MOD_DEF 2")
    ∷ name 0x03 (codes "MOD_DEF 3")
    ∷ name 0x04 (codes "Two-wire interface")
    ∷ name 0x05 (codes "MOD_DEF 5")
    ∷ name 0x06 (codes "MOD_DEF 6")
    ∷ name 0x07 (codes "MOD_DEF 7")
    ∷ reserved_from 0x08 0xFF
    ∷ []
