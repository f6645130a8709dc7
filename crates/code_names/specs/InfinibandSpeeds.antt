-- At which speeds of InfiniBand a module works, by the bits of byte 164. (SFF-8636, Extended Module Codes)
use Rattle.std.specs.Prelude.{List, [], ◌∷◌, codes}
use Rattle.code_names.specs.Rows.{Row, name, reserved_from}

unfoldable pub infiniband_speed_names : List Row
infiniband_speed_names =
    name 0x00 (codes "SDR")
    ∷ name 0x01 (codes "DDR")
    ∷ name 0x02 (codes "QDR")
    ∷ name 0x03 (codes "FDR")
    ∷ name 0x04 (codes "EDR")
    ∷ name 0x05 (codes "HDR")
    ∷ reserved_from 0x06 0x07
    ∷ []
