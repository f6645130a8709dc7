-- How a line names why an image is no simulated module: a code, and then its values. (docs/formats.md, "Faults"; this
-- project's own)
use Rattle.std.specs.Prelude.{ℕ, List, [], ◌∷◌, codes}
use Rattle.std.specs.Fmt.{decimal}
use Rattle.paged_memory.specs.ImageText.{key_words}
use Rattle.applications.specs.FaultWords.{advert_fault_words}
use Rattle.sim_module.specs.declared.fault.SimFault.{SimFault}
use Rattle.sim_module.specs.declared.fault.SimFault.TheVariants.{Absent, Advert, BadDelay, ActiveNotPaths}

abbrev pub sim_fault_words : SimFault → List (List ℕ)
sim_fault_words (Absent key) = codes "SM1" ∷ key_words key
sim_fault_words (Advert fault) = codes "SM2" ∷ advert_fault_words fault
sim_fault_words BadDelay = codes "SM3" ∷ []
sim_fault_words (ActiveNotPaths lane) = codes "SM4" ∷ decimal lane ∷ []
