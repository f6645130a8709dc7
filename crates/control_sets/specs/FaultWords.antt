-- How a line names why a procedure ended without success: a code, and then its values. (docs/formats.md, "Faults"; this
-- project's own)
use Rattle.std.specs.Prelude.{ℕ, List, [], ◌∷◌, codes}
use Rattle.std.specs.Fmt.{decimal}
use Rattle.bus_model.specs.FaultWords.{bus_fault_words}
use Rattle.control_sets.specs.declared.fault.ProvisionFault.{ProvisionFault}
use Rattle.control_sets.specs.declared.fault.ProvisionFault.TheVariants.{Rejected, StagedDiffers, ActiveDiffers, GaveUp, Bus, ModuleState, Reserved}

abbrev pub provision_fault_words : ProvisionFault → List (List ℕ)
provision_fault_words (Rejected lane status) = codes "PV1" ∷ decimal lane ∷ decimal status ∷ []
provision_fault_words (StagedDiffers lane) = codes "PV2" ∷ decimal lane ∷ []
provision_fault_words (ActiveDiffers lane) = codes "PV3" ∷ decimal lane ∷ []
provision_fault_words GaveUp = codes "PV4" ∷ []
provision_fault_words (Bus fault) = codes "PV5" ∷ bus_fault_words fault
provision_fault_words (ModuleState code) = codes "PV6" ∷ decimal code ∷ []
provision_fault_words (Reserved code) = codes "PV7" ∷ decimal code ∷ []
