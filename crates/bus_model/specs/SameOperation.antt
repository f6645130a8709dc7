-- Whether two operations on the bus are the same one, as a test. (docs/bus.md, "Transactions"; this project's own)
use Rattle.std.specs.Prelude.{ℕ, ◌==◌, ◌&&◌, Bool, true, false, List, [], ◌∷◌}
use Rattle.bus_model.specs.declared.device.Dev.{Dev}
use Rattle.bus_model.specs.declared.device.Dev.TheVariants.{A0, A2}
use Rattle.bus_model.specs.declared.operation.Op.{Op}
use Rattle.bus_model.specs.declared.operation.Op.TheVariants.{Fetch, Store}

abbrev pub same_device : Dev → Dev → Bool
same_device A0 A0 = true
same_device A2 A2 = true
same_device A0 A2 = false
same_device A2 A0 = false

abbrev pub same_bytes : List ℕ → List ℕ → Bool
same_bytes [] [] = true
same_bytes (byte ∷ bytes) (other ∷ others) = byte == other && same_bytes bytes others
same_bytes [] (other ∷ others) = false
same_bytes (byte ∷ bytes) [] = false

abbrev pub same_op : Op → Op → Bool
same_op (Fetch dev offset count) (Fetch dev' offset' count') = same_device dev dev' && (offset == offset' && count == count')
same_op (Store dev offset bytes) (Store dev' offset' bytes') = same_device dev dev' && (offset == offset' && same_bytes bytes.items bytes'.items)
same_op (Fetch dev offset count) (Store dev' offset' bytes') = false
same_op (Store dev offset bytes) (Fetch dev' offset' count') = false
