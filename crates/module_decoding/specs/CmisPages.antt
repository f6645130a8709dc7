-- Pages of a CMIS module, and those that have its details. (docs/formats.md, "details"; OIF-CMIS-05.0, "Management Characteristics" and
-- "Management Memory Map")
use Rattle.std.specs.Prelude.{ℕ, Bool, if◌then◌else◌, List, [], ◌∷◌, map, Option, find}
use Rattle.bus_model.specs.declared.device.Dev.TheVariants.{A0}
use Rattle.paged_memory.specs.declared.key.Key.{Key}
use Rattle.paged_memory.specs.Images.{Memory}
use Rattle.paged_memory.specs.Keys.{upper_key}
use Rattle.field_tables.specs.declared.field.Field.TheVariants as fields
use Rattle.field_tables.specs.declared.table.cmis.CmisField.TheVariants as cmis
use Rattle.field_tables.specs.Halves.{is_absent}
use Rattle.field_tables.specs.Readings.{bit}

-- it has no pages but 00h
abbrev pub is_flat : Memory → Bool
is_flat memory = bit memory (fields.Cmis cmis.FlatMemory)

-- those that are needed of a module that has more
abbrev pub unless_flat : Bool → List ℕ → List ℕ
unless_flat flat pages = if flat then [] else pages

-- of all that it says of itself
abbrev pub detail_pages : Memory → List ℕ
detail_pages memory = if is_flat memory then 0x00 ∷ [] else 0x00 ∷ 0x01 ∷ 0x11 ∷ []

-- the first of these pages of bank 0 that memory lacks
unfoldable pub absent_page : List ℕ → Memory → Option Key
absent_page pages memory = find (is_absent memory) (map (λ (page : ℕ). upper_key A0 0 page) pages)
