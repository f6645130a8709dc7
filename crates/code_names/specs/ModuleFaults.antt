-- What made a module fail. (OIF-CMIS-05.0, Module Fault Information)
use Rattle.std.specs.Prelude.{List, [], ◌∷◌, codes}
use Rattle.code_names.specs.Rows.{Row, name, reserved_from, vendor_specific_from}

unfoldable pub module_fault_names : List Row
module_fault_names =
    name 0x00 (codes "No fault detected")
    ∷ name 0x01 (codes "TEC runaway")
    ∷ name 0x02 (codes "Data memory corrupted")
    ∷ name 0x03 (codes "Program memory corrupted")
    ∷ reserved_from 0x04 0x1F
    ∷ vendor_specific_from 0x20 0x3F
    ∷ reserved_from 0x40 0xFF
    ∷ []
