-- What is plugged into the module. (SFF-8024, Table 4-3 Connector Types)
use Rattle.std.specs.Prelude.{List, [], ◌∷◌, codes}
use Rattle.code_names.specs.Rows.{Row, name, reserved_from, vendor_specific_from}

unfoldable pub connector_names : List Row
connector_names =
    name 0x00 (codes "Unknown or unspecified")
    ∷ name 0x01 (codes "SC")
    ∷ name 0x02 (codes "Fibre Channel Style 1 copper")
    ∷ name 0x03 (codes "Fibre Channel Style 2 copper")
    ∷ name 0x04 (codes "BNC/TNC")
    ∷ name 0x05 (codes "Fibre Channel coax headers")
    ∷ name 0x06 (codes "Fiber Jack")
    ∷ name 0x07 (codes "LC")
    ∷ name 0x08 (codes "MT-RJ")
    ∷ name 0x09 (codes "MU")
    ∷ name 0x0A (codes "SG")
    ∷ name 0x0B (codes "Optical pigtail")
    ∷ name 0x0C (codes "MPO 1x12")
    ∷ name 0x0D (codes "MPO 2x16")
    ∷ reserved_from 0x0E 0x1F
    ∷ name 0x20 (codes "HSSDC II")
    ∷ name 0x21 (codes "Copper pigtail")
    ∷ name 0x22 (codes "RJ45")
    ∷ name 0x23 (codes "No separable connector")
    ∷ name 0x24 (codes "MXC 2x16")
    ∷ name 0x25 (codes "CS optical connector")
    ∷ name 0x26 (codes "SN optical connector")
    ∷ name 0x27 (codes "MPO 2x12")
    ∷ name 0x28 (codes "MPO 1x16")
    ∷ reserved_from 0x29 0x6E
    ∷ reserved_from 0x70 0x7F
    ∷ vendor_specific_from 0x80 0xFF
    ∷ []
