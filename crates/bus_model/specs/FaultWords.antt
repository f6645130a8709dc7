-- How a line names the faults of scripts and of buses: a code, and then its value. (docs/formats.md, "Faults"; this
-- project's own)
use Rattle.std.specs.Prelude.{ℕ, List, [], ◌∷◌, codes}
use Rattle.std.specs.Fmt.{decimal}
use Rattle.bus_model.specs.declared.bus.BusFault.{BusFault}
use Rattle.bus_model.specs.declared.bus.BusFault.TheVariants.{TraceFull, BadShape}
use Rattle.bus_model.specs.declared.fault.ScriptFault.{ScriptFault}
use Rattle.bus_model.specs.declared.fault.ScriptFault.TheVariants.{BadLine, TooLong}

abbrev pub bus_fault_words : BusFault → List (List ℕ)
bus_fault_words TraceFull = codes "BU1" ∷ []
bus_fault_words BadShape = codes "BU2" ∷ []

abbrev pub script_fault_words : ScriptFault → List (List ℕ)
script_fault_words (BadLine line) = codes "BU3" ∷ decimal line ∷ []
script_fault_words TooLong = codes "BU4" ∷ []
