-- Which equalizers of a receiver's output a host can control. (OIF-CMIS-05.0, Supported Signal Integrity Controls
-- Advertisement)
use Rattle.std.specs.Prelude.{List, [], ◌∷◌, codes}
use Rattle.code_names.specs.Rows.{Row, name}

unfoldable pub output_equalizer_names : List Row
output_equalizer_names =
    name 0x00 (codes "none")
    ∷ name 0x01 (codes "pre-cursor")
    ∷ name 0x02 (codes "post-cursor")
    ∷ name 0x03 (codes "pre-cursor and post-cursor")
    ∷ []
