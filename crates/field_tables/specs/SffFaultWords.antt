-- How a line names the fault of a module of SFF-8636 or SFF-8472: a code, and then its values. (docs/formats.md, "Faults")
use Rattle.std.specs.Prelude.{ℕ, List, [], ◌∷◌, codes}
use Rattle.std.specs.Fmt.{decimal}
use Rattle.paged_memory.specs.ImageText.{key_words}
use Rattle.field_tables.specs.declared.sff_fault.SffFault.{SffFault}
use Rattle.field_tables.specs.declared.sff_fault.SffFault.TheVariants.{Absent, WrongIdentifier, FlatMemory, NoDiagnostics, AddressChange, ExternalCalibration}

abbrev pub sff_fault_words : SffFault → List (List ℕ)
sff_fault_words (WrongIdentifier identifier) = codes "SF1" ∷ decimal identifier ∷ []
sff_fault_words FlatMemory = codes "SF2" ∷ []
sff_fault_words (Absent key) = codes "SF3" ∷ key_words key
sff_fault_words NoDiagnostics = codes "SF4" ∷ []
sff_fault_words ExternalCalibration = codes "SF5" ∷ []
sff_fault_words AddressChange = codes "SF6" ∷ []
