-- The banks whose lanes follow those of bank 0. (OIF-CMIS-05.0, "Management Memory Map" and byte 142 of page 01h; docs/formats.md,
-- "Banks"; this project's own)
use Rattle.std.specs.Prelude.{ℕ, ◌&&◌, nat_le, nat_lt, if◌then◌else◌, Bool, List, [], ◌∷◌, ◌++◌, length}
use Rattle.std.specs.FinMap as map
use Rattle.std.specs.List.{flat_map, list_all}
use Rattle.bus_model.specs.declared.device.Dev.TheVariants.{A0}
use Rattle.observables.specs.Banks.{bank_count, lanes_of_bank}
use Rattle.paged_memory.specs.Images.{Memory}
use Rattle.paged_memory.specs.Keys.{upper_key}

-- page 01h advertises the bank, and its page 11h is there
abbrev pub has_lanes : Memory → ℕ → Bool
has_lanes memory bank = nat_lt bank (bank_count memory) && map.contains_key memory (upper_key A0 bank 0x11)

-- this bank and those after it if it has lanes, or none
abbrev pub from_bank : Memory → ℕ → List ℕ → List ℕ
from_bank memory bank later = if has_lanes memory bank then bank ∷ later else []

-- those of a CMIS module, up to the first that has no lanes; flat memory has no banks
unfoldable pub further_banks : Bool → Memory → List ℕ
further_banks flat memory = if flat then [] else from_bank memory 1 (from_bank memory 2 (from_bank memory 3 []))

-- what there is of the lanes of bank 0, and then of each of these banks
abbrev pub over_banks : {A : Type 0} → Memory → List ℕ → (ℕ → Memory → List A) → List A
over_banks memory banks of = of 0 memory ++ flat_map (λ bank. of bank (lanes_of_bank memory bank)) banks

-- there are at most three further banks
abbrev pub are_banks : List ℕ → Bool
are_banks banks = nat_le (length banks) 3 && list_all (λ (bank : ℕ). nat_le bank 3) banks
