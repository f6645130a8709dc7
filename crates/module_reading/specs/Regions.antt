-- The halves of a module that are read over a bus: the lower one of A0, and those that are requested of the ones that its fields stand
-- in. (docs/bus.md, "Reading an image"; OIF-CMIS-05.0, "Management Memory Map"; SFF-8636, "Memory Map"; SFF-8472, "Memory Organization"
-- and "Diagnostic Monitoring Type")
use Rattle.std.specs.Prelude.{ℕ, ◌/◌, ◌==◌, ◌&&◌, nat_lt, not, Bool, true, false, List, [], ◌∷◌, Option, Some, None, unwrap_or, if◌then◌else◌}
use Rattle.std.specs.Int.{bit_at}
use Rattle.bus_model.specs.declared.device.Dev.TheVariants.{A0, A2}
use Rattle.bus_model.specs.declared.operation.Op.{Op}
use Rattle.bus_model.specs.declared.operation.Op.TheVariants.{Fetch}
use Rattle.paged_memory.specs.declared.family.Family.{Family}
use Rattle.paged_memory.specs.declared.family.Family.TheVariants as families
use Rattle.paged_memory.specs.declared.key.Key.{Key}
use Rattle.paged_memory.specs.declared.page_addressing.PageAddressing.{PageAddressing}
use Rattle.paged_memory.specs.declared.page_addressing.PageAddressing.TheVariants.{BankAndPage}
use Rattle.paged_memory.specs.Families.{managed_by}
use Rattle.paged_memory.specs.Images.{Memory}
use Rattle.paged_memory.specs.Keys.{lower_key, page_key, upper_key}
use Rattle.paged_memory.specs.MappedPages.{selecting_in}
use Rattle.field_tables.specs.declared.field.Field.TheVariants as fields
use Rattle.field_tables.specs.declared.table.cmis.CmisField.TheVariants as cmis
use Rattle.field_tables.specs.declared.table.sff8636.Sff8636Field.TheVariants as sff8636
use Rattle.field_tables.specs.declared.table.sff8472.Sff8472Field.TheVariants as sff8472
use Rattle.field_tables.specs.Readings.{bit, number}
use Rattle.module_reading.specs.declared.region.Region.{Region}
use Rattle.module_reading.specs.declared.request.Request.{Request}
use Rattle.module_reading.specs.declared.region.Region.TheVariants.{Lower, FirstPage, Page}

abbrev pub operation : Region → Op
operation (Lower dev) = Fetch dev 0 128
operation FirstPage = Fetch A0 128 128
operation (Page page) = Fetch A0 128 128

-- the page that has to be selected
abbrev pub page_of : Region → Option ℕ
page_of (Lower dev) = None
page_of FirstPage = None
page_of (Page page) = Some page

abbrev pub key_of : Region → Key
key_of (Lower dev) = lower_key dev
key_of FirstPage = upper_key A0 0 0
key_of (Page page) = page_key page

-- all families have the identifier in the same byte
abbrev pub identifier : Memory → ℕ
identifier memory = number memory (fields.Cmis cmis.Identifier)

-- a CMIS module that has no pages but 00h
abbrev pub is_flat : Memory → Bool
is_flat memory = number memory (fields.Cmis cmis.FlatMemory) == 1

abbrev pub has_bit : ℕ → ℕ → Bool
has_bit byte number = bit_at byte number == 1

-- each half that may be requested has a bit
abbrev pub wants : Request → ℕ → Bool
wants request number = has_bit request.halves number

-- the lower half of A0, which each reading has
abbrev pub lower_alone : List Region
lower_alone = Lower A0 ∷ []

-- ---- the halves that a family's modules have, each after the bit of a request that asks for it

-- of CMIS and SFF-8636 by whether memory is flat, of SFF-8472 by whether there are diagnostics
abbrev pub halves_of : Family → Bool → List (ℕ × Region)
halves_of families.Cmis true = (0, FirstPage) ∷ []
halves_of families.Cmis false = (0, Page 0x00) ∷ (1, Page 0x01) ∷ (2, Page 0x02) ∷ (3, Page 0x11) ∷ []
halves_of families.Sff8636 true = (4, FirstPage) ∷ []
halves_of families.Sff8636 false = (4, Page 0x00) ∷ (5, Page 0x03) ∷ []
halves_of families.Sff8472 true = (6, Lower A2) ∷ []
halves_of families.Sff8472 false = []

-- page 11h of banks 1, 2 and 3
abbrev pub halves_of_banks : List (ℕ × Region)
halves_of_banks = (0, Page 0x111) ∷ (1, Page 0x211) ∷ (2, Page 0x311) ∷ []

-- CMIS modules with pages alone may have further banks
abbrev pub has_banks : Family → Bool → Bool
has_banks families.Cmis flat = not flat
has_banks family holds = false

-- bit 7 is for further banks in place of bank 0, if no half is requested by bits 3 to 6
abbrev pub is_for_banks : Request → Bool
is_for_banks request = request.halves / 8 == 16

abbrev pub halves_for : Request → Family → Bool → List (ℕ × Region)
halves_for request family holds = if is_for_banks request && has_banks family holds then halves_of_banks else halves_of family holds

abbrev pub and_if : Bool → Region → List Region → List Region
and_if wanted region regions = if wanted then region ∷ regions else regions

-- those whose bits a request has
abbrev pub requested : Request → List (ℕ × Region) → List Region
requested request [] = []
requested request (half ∷ halves) = and_if (wants request half.0) half.1 (requested request halves)

abbrev pub family_regions : Request → Family → Bool → List Region
family_regions request family holds = Lower A0 ∷ requested request (halves_for request family holds)

-- each bit is 1 but that for further banks
abbrev pub everything : Request
everything = record { halves = 0x7F }

-- page 11h of each further bank of a module that has so many banks
abbrev pub of_banks : ℕ → Request
of_banks count = record { halves = if nat_lt 3 count then 0x87 else if nat_lt 2 count then 0x83 else if nat_lt 1 count then 0x81 else 0x80 }

-- device A2 has diagnostics, and they can be read without an address change
abbrev pub has_diagnostics : Memory → Bool
has_diagnostics memory = bit memory (fields.Sff8472 sff8472.DiagPresent) && not (bit memory (fields.Sff8472 sff8472.AddressChange))

-- what decides which halves a module of a family has: of CMIS and SFF-8636 that its memory is flat, of SFF-8472 that it has diagnostics
abbrev pub decides : Family → Memory → Bool
decides families.Cmis memory = is_flat memory
decides families.Sff8636 memory = bit memory (fields.Sff8636 sff8636.FlatMemory)
decides families.Sff8472 memory = has_diagnostics memory

-- of a module of this family
abbrev pub regions_in : Request → Option Family → Memory → List Region
regions_in request (Some family) memory = family_regions request family (decides family memory)
regions_in request None memory = lower_alone

-- of a module whose lower half of A0 is in memory; that half alone if it isn't, or if its identifier is none that is read
abbrev pub regions_of : Request → Memory → List Region
regions_of request memory = regions_in request (managed_by (identifier memory)) memory

-- how the pages of a module of this family are selected
abbrev pub addressing_in : Option Family → PageAddressing
addressing_in family = unwrap_or (selecting_in family) BankAndPage

abbrev pub addressing_of : Memory → PageAddressing
addressing_of memory = addressing_in (managed_by (identifier memory))
