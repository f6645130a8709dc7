-- By which revision of its standard a module is made. (SFF-8636, Revision Compliance)
use Rattle.std.specs.Prelude.{List, [], ◌∷◌, codes}
use Rattle.code_names.specs.Rows.{Row, name}

unfoldable pub sff8636_revision_names : List Row
sff8636_revision_names =
    name 0x00 (codes "Not specified")
    ∷ name 0x01 (codes "SFF-8436 Rev 4.8 or earlier")
    ∷ name 0x02 (codes "SFF-8436 Rev 4.8 or earlier, bytes 186 to 189 by SFF-8636")
    ∷ name 0x03 (codes "SFF-8636 Rev 1.3 or earlier")
    ∷ name 0x04 (codes "SFF-8636 Rev 1.4")
    ∷ name 0x05 (codes "SFF-8636 Rev 1.5")
    ∷ name 0x06 (codes "SFF-8636 Rev 2.0")
    ∷ name 0x07 (codes "SFF-8636 Rev 2.5, 2.6 and 2.7")
    ∷ name 0x08 (codes "SFF-8636 Rev 2.8, 2.9 and 2.10")
    ∷ []
