-- By which revision of SFF-8472 a module has diagnostics. (SFF-8472, SFF-8472 Compliance)
use Rattle.std.specs.Prelude.{List, [], ◌∷◌, codes}
use Rattle.code_names.specs.Rows.{Row, name}

unfoldable pub sff8472_revision_names : List Row
sff8472_revision_names =
    name 0x00 (codes "Not specified")
    ∷ name 0x01 (codes "Rev 9.3")
    ∷ name 0x02 (codes "Rev 9.5")
    ∷ name 0x03 (codes "Rev 10.2")
    ∷ name 0x04 (codes "Rev 10.4")
    ∷ name 0x05 (codes "Rev 11.0")
    ∷ name 0x06 (codes "Rev 11.3")
    ∷ name 0x07 (codes "Rev 11.4")
    ∷ name 0x08 (codes "Rev 12.3")
    ∷ name 0x09 (codes "Rev 12.4")
    ∷ []
