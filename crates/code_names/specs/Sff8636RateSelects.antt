-- How rates are selected. (SFF-8636, Extended Rate Select Compliance)
use Rattle.std.specs.Prelude.{List, [], ◌∷◌, codes}
use Rattle.code_names.specs.Rows.{Row, name}

unfoldable pub sff8636_rate_select_names : List Row
sff8636_rate_select_names =
    name 0x00 (codes "None")
    ∷ name 0x01 (codes "Version 1")
    ∷ name 0x02 (codes "Version 2")
    ∷ []
