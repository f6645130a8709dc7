-- Keys of pages: the lower half of a device has one, the upper half one for each bank and page.
-- (OIF-CMIS-05.0, "Management Memory Map"; SFF-8636, "Memory Map"; SFF-8472, "Memory Organization")
use Rattle.std.specs.Prelude.{ℕ, ◌/◌, ◌%◌, refl}
use Rattle.std.proofs.Common.{subst}
use Rattle.bus_model.specs.declared.device.Dev.{Dev}
use Rattle.bus_model.specs.declared.device.Dev.TheVariants.{A0}
use Rattle.paged_memory.specs.declared.key.Half.{Half}
use Rattle.paged_memory.specs.declared.key.Half.TheVariants.{Lower, Upper}
use Rattle.paged_memory.specs.declared.key.Key.{Key}

abbrev pub lower_key : Dev → Key
lower_key dev = record { dev = dev; half = Lower; bank = 0; page = 0; one_lower_half = λ _. (refl, refl) }

abbrev pub IsUpper : Half → Type 0
IsUpper Lower = ⊥
IsUpper Upper = Unit {0}

abbrev pub upper_key : Dev → ℕ → ℕ → Key
upper_key dev bank page = record { dev = dev; half = Upper; bank = bank; page = page; one_lower_half = λ same. absurd (subst IsUpper same tt) }

-- page p of bank b has the number 256 * b + p
abbrev pub page_key : ℕ → Key
page_key page = upper_key A0 (page / 256) (page % 256)
