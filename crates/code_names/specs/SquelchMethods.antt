-- What a transmitter's squelch reduces. (OIF-CMIS-05.0, Supported Controls Advertisement)
use Rattle.std.specs.Prelude.{List, [], ◌∷◌, codes}
use Rattle.code_names.specs.Rows.{Row, name}

unfoldable pub squelch_method_names : List Row
squelch_method_names =
    name 0x00 (codes "none")
    ∷ name 0x01 (codes "OMA")
    ∷ name 0x02 (codes "average power")
    ∷ name 0x03 (codes "OMA or average power")
    ∷ []
