-- How a line names the faults of what a module advertises and of weights: a code, and then its values. (docs/formats.md,
-- "Faults"; this project's own)
use Rattle.std.specs.Prelude.{ℕ, List, [], ◌∷◌, ◌++◌, codes}
use Rattle.std.specs.Fmt.{decimal}
use Rattle.paged_memory.specs.ImageText.{key_words}
use Rattle.applications.specs.declared.fault.AdvertFault.{AdvertFault}
use Rattle.applications.specs.declared.fault.AdvertFault.TheVariants.{Absent, NotCmis, Revision, NotEightLanes, FlatMemory, BadSum}
use Rattle.applications.specs.declared.weights.fault.WeightsFault.{WeightsFault}
use Rattle.applications.specs.declared.weights.fault.WeightsFault.TheVariants.{NotToml, NoHostTable, OtherKey, BadKey, SameKeyTwice, BadWeight, Memory}
use Rattle.applications.specs.declared.weights.table.WeightTable.{WeightTable}
use Rattle.applications.specs.declared.weights.table.WeightTable.TheVariants.{Host, Media, App}
use Rattle.applications.specs.WeightKeys.{table_name}

abbrev pub advert_fault_words : AdvertFault → List (List ℕ)
advert_fault_words (NotCmis identifier) = codes "AD1" ∷ decimal identifier ∷ []
advert_fault_words (Revision revision) = codes "AD2" ∷ decimal revision ∷ []
advert_fault_words FlatMemory = codes "AD3" ∷ []
advert_fault_words (Absent key) = codes "AD4" ∷ key_words key
advert_fault_words (BadSum page) = codes "AD5" ∷ decimal page ∷ []
advert_fault_words (NotEightLanes identifier) = codes "AD6" ∷ decimal identifier ∷ []

-- the table that a fault names, unless it is `host`
abbrev pub table_words : WeightTable → List (List ℕ)
table_words Host = []
table_words Media = table_name Media ∷ []
table_words App = table_name App ∷ []

abbrev pub weights_fault_words : WeightsFault → List (List ℕ)
weights_fault_words NotToml = codes "WT1" ∷ []
weights_fault_words NoHostTable = codes "WT2" ∷ []
weights_fault_words (BadKey table) = codes "WT3" ∷ table_words table
weights_fault_words (SameKeyTwice table number) = codes "WT4" ∷ table_words table ++ decimal number ∷ []
weights_fault_words (BadWeight table number) = codes "WT5" ∷ table_words table ++ decimal number ∷ []
weights_fault_words OtherKey = codes "WT6" ∷ []
weights_fault_words Memory = codes "memory" ∷ []
