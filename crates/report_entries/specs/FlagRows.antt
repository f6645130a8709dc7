-- The flags of a report's rows, and whether a module's memory raises them. (docs/formats.md, "flags";
-- this project's own)
use Rattle.std.specs.Prelude.{ℕ, ◌+◌, ◌*◌, ◌&&◌, if◌then◌else◌, Bool, true, false, nat_le, List, [], ◌∷◌, Some, None, codes}
use Rattle.std.specs.List.{flat_map}
use Rattle.paged_memory.specs.Images.{Memory}
use Rattle.field_tables.specs.declared.field.Field.{Field}
use Rattle.field_tables.specs.FieldRows.{row_of}
use Rattle.field_tables.specs.FieldValues.{of_each}
use Rattle.field_tables.specs.Readings.{bit_at, is_of_bytes}
use Rattle.report_entries.specs.Banks.{over_banks}
use Rattle.report_entries.specs.Entries.{Entry, entry, flags}
use Rattle.report_entries.specs.declared.flag.Flag.{Flag}
use Rattle.report_entries.specs.declared.flag.FlagName.{FlagName}
use Rattle.report_entries.specs.declared.flag.FlagName.TheVariants.{Passed}
use Rattle.report_entries.specs.declared.flag.LimitKind.TheVariants.{HighAlarm, LowAlarm, HighWarning, LowWarning}
use Rattle.report_entries.specs.declared.quantity.Quantity.{Quantity}
use Rattle.report_entries.specs.declared.flag_rows.FlagPlace.{FlagPlace}
use Rattle.report_entries.specs.declared.flag_rows.FlagPlace.TheVariants.{Value, Lanes}
use Rattle.report_entries.specs.declared.flag_rows.FlagRow.{FlagRow}

-- a flag of the module, by this value of the field
abbrev pub of_module : FlagName → Field → ℕ → FlagRow
of_module name field i = record { name = name; field = field; place = Value None i; paged = false }

-- of the one lane that a module has
abbrev pub of_one_lane : FlagName → Field → ℕ → FlagRow
of_one_lane name field i = record { name = name; field = field; place = Value (Some 1) i; paged = false }

-- of each lane, by a value of its own
abbrev pub of_lanes : FlagName → Field → FlagRow
of_lanes name field = record { name = name; field = field; place = Lanes; paged = false }

abbrev pub of_paged_lanes : FlagName → Field → FlagRow
of_paged_lanes name field = record { name = name; field = field; place = Lanes; paged = true }

-- the four limits of the module's value, by four values of the field from the first on
abbrev pub past_limits : Quantity → Field → ℕ → List FlagRow
past_limits quantity field first =
    of_module (Passed quantity HighAlarm) field first
    ∷ of_module (Passed quantity LowAlarm) field (first + 1)
    ∷ of_module (Passed quantity HighWarning) field (first + 2)
    ∷ of_module (Passed quantity LowWarning) field (first + 3)
    ∷ []

-- of the lane that bank 0 or a further bank has at this place, in the memory of its lanes
abbrev pub lane_flag : FlagName → Field → ℕ → Memory → ℕ → Flag × Bool
lane_flag name field bank lanes i = (record { name = name; lane = Some (8 * bank + i) }, bit_at lanes field i)

abbrev pub lane_flags : Memory → List ℕ → FlagName → Field → List (Flag × Bool)
lane_flags memory banks name field = over_banks memory banks (λ bank lanes. of_each field (lane_flag name field bank lanes))

-- with the lanes of bank 0 and of these further banks
abbrev pub flags_at : Memory → List ℕ → FlagName → Field → FlagPlace → List (Flag × Bool)
flags_at memory banks name field (Value lane i) = (record { name = name; lane = lane }, bit_at memory field i) ∷ []
flags_at memory banks name field Lanes = lane_flags memory banks name field

unfoldable pub row_flags : Memory → List ℕ → Bool → FlagRow → List (Flag × Bool)
row_flags memory banks flat row = if row.paged && flat then [] else flags_at memory banks row.name row.field row.place

-- of a module whose memory is flat or not
abbrev pub rows_flags : Memory → List ℕ → Bool → List FlagRow → List (Flag × Bool)
rows_flags memory banks flat rows = flat_map (row_flags memory banks flat) rows

-- the entry of those that are raised
abbrev pub flags_entry : List Flag → Entry
flags_entry raised = entry (codes "flag") (flags raised)

-- ---- what each row keeps to

abbrev pub place_fits : Field → FlagPlace → Bool
place_fits field (Value lane i) = nat_le 1 i && nat_le i (row_of field).count
place_fits field Lanes = nat_le (row_of field).count 8

-- a field with a bit for each lane of a bank
abbrev pub flags_fit : Field → Bool
flags_fit field = is_of_bytes (row_of field) && nat_le (row_of field).count 8

abbrev pub flag_row_fits : FlagRow → Bool
flag_row_fits row = is_of_bytes (row_of row.field) && place_fits row.field row.place
