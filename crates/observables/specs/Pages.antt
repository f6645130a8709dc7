-- The pages that a reading of observables needs: those that describe, then limits, then samples and flags. (OIF-CMIS-05.0, page 01h
-- byte 142, "VDM Advertisement and Control", page 2Fh)
use Rattle.std.specs.Prelude.{ℕ, ◌/◌, ◌%◌, ◌==◌, Bool, false, if◌then◌else◌, List, [], ◌∷◌, map, Option, None, find, option_map}
use Rattle.std.specs.Option.{option_map_or}
use Rattle.bus_model.specs.declared.device.Dev.TheVariants.{A0}
use Rattle.paged_memory.specs.declared.family.Family.TheVariants.{Cmis}
use Rattle.paged_memory.specs.declared.key.Key.{Key}
use Rattle.paged_memory.specs.Families.{is_family, managed_by}
use Rattle.paged_memory.specs.Images.{Memory}
use Rattle.paged_memory.specs.Keys.{upper_key}
use Rattle.field_tables.specs.declared.field.Field.TheVariants as fields
use Rattle.field_tables.specs.declared.table.cmis.CmisField.TheVariants as cmis
use Rattle.field_tables.specs.Halves.{is_absent}
use Rattle.field_tables.specs.Readings.{number}
use Rattle.observables.specs.Words.{page_of, byte_in}

-- modules of other families have other things on these pages
abbrev pub is_cmis : Memory → Bool
is_cmis memory = is_family Cmis (managed_by (number memory (fields.Cmis cmis.Identifier)))

abbrev pub has_observables : Memory → Bool
has_observables memory = option_map_or (λ bytes. byte_in bytes 142 / 64 % 2 == 1) (page_of memory 0 0x01) false

-- one less than how many groups there are
abbrev pub groups : Memory → ℕ → Option ℕ
groups memory bank = option_map (λ bytes. byte_in bytes 128 % 4) (page_of memory bank 0x2F)

-- by one less than how many groups there are
abbrev pub pages_of : ℕ → List ℕ
pages_of groups =
    if groups == 0 then 0x20 ∷ 0x28 ∷ 0x24 ∷ 0x2C ∷ []
    else if groups == 1 then 0x20 ∷ 0x21 ∷ 0x28 ∷ 0x29 ∷ 0x24 ∷ 0x25 ∷ 0x2C ∷ []
    else if groups == 2 then 0x20 ∷ 0x21 ∷ 0x22 ∷ 0x28 ∷ 0x29 ∷ 0x2A ∷ 0x24 ∷ 0x25 ∷ 0x26 ∷ 0x2C ∷ []
    else 0x20 ∷ 0x21 ∷ 0x22 ∷ 0x23 ∷ 0x28 ∷ 0x29 ∷ 0x2A ∷ 0x2B ∷ 0x24 ∷ 0x25 ∷ 0x26 ∷ 0x27 ∷ 0x2C ∷ []

abbrev pub pages : Memory → ℕ → List ℕ
pages memory bank =
    if has_observables memory then option_map_or pages_of (groups memory bank) (0x2F ∷ []) else []

-- the first of these pages of a bank that memory lacks
unfoldable pub first_absent : List ℕ → ℕ → Memory → Option Key
first_absent pages bank memory = find (is_absent memory) (map (λ (page : ℕ). upper_key A0 bank page) pages)

abbrev pub absent_page : Memory → ℕ → Option Key
absent_page memory bank = if is_cmis memory then first_absent (pages memory bank) bank memory else None
