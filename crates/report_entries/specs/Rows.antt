-- The entries that the rows of a report make of a module's memory. (docs/formats.md, "Reports"; this project's own)
use Rattle.std.specs.Prelude.{ℕ, ℤ, ◌+◌, ◌==◌, ◌&&◌, if◌then◌else◌, Bool, true, false, nat_le, is_some, List, [], ◌∷◌, map, Option, Some, None}
use Rattle.std.specs.List.{find, flat_map, list_all, range_with_len}
use Rattle.paged_memory.specs.Images.{Memory}
use Rattle.field_tables.specs.declared.field.Field.{Field}
use Rattle.field_tables.specs.declared.field.Sum.{Sum}
use Rattle.field_tables.specs.declared.field.TextField.{TextField}
use Rattle.field_tables.specs.FieldRows.{row_of}
use Rattle.field_tables.specs.FieldValues.{of_each}
use Rattle.field_tables.specs.Readings as readings
use Rattle.field_tables.specs.Readings.{all_numbers, is_of_bytes, is_sum_right}
use Rattle.module_decoding.specs.Amounts.{amount_at, is_power, length_in, limit_amounts, power_fits, unit_of}
use Rattle.report_entries.specs.Banks.{over_banks}
use Rattle.report_entries.specs.Entries.{Entry, Content, entry, word, right, number, code, revision, text, oui, amount, lanes, limits, state, lane_states}
use Rattle.report_entries.specs.PrintedUnits.{printed_in}
use Rattle.report_entries.specs.declared.entry.LaneState.{LaneState}
use Rattle.report_entries.specs.declared.printed_unit.PrintedUnit.{PrintedUnit}
use Rattle.report_entries.specs.declared.printed_unit.PrintedUnit.TheVariants.{Metre}

-- ---- rows

-- what is shown of memory, and how
pub data Source : Type 0 where
  Word : List ℕ → Source
  -- the first word if the bit is 1, else the second
  Either : Field → List ℕ → List ℕ → Source
  Code : Field → Source
  Revision : Field → Source
  -- the number plus one
  Next : Field → Source
  Text : TextField → Source
  Oui : Field → Source
  -- whether a sum is right
  Right : Sum → Source
  -- in the unit of the field
  Amount : Field → Source
  -- tenths of a metre, times ten to the power of the second field
  Length : Field → Field → Source
  -- of each lane, times two to the power of the second field if there is one
  Lanes : Field → Option Field → Source
  -- of each limit
  Limits : Field → Option Field → Source
  -- the state of the module
  State : Field → Source
  -- for each of the eight lanes of a bank: the state of its data path, and by the second field the status of its configuration
  LaneStates : Field → Field → Source

-- what stands in place of the source if a field has this number: nothing, or a word
pub data Instead : Type 0 where
  Nothing : Field → ℕ → Instead
  Wording : Field → ℕ → List ℕ → Instead

pub record Row : Type 0 where
  pub name : List ℕ
  pub source : Source
  -- whether only for a module with paged memory
  pub paged : Bool
  -- the first that applies stands in place of the source
  pub instead : List Instead

-- a line for every module
abbrev pub always : List ℕ → Source → Row
always name source = record { name = name; source = source; paged = false; instead = [] }

-- a line for a module with paged memory; if one of these applies, it has a word or nothing instead
abbrev pub if_paged : List ℕ → Source → List Instead → Row
if_paged name source instead = record { name = name; source = source; paged = true; instead = instead }

-- the unit that a field's amounts print in
abbrev pub printed_unit : Field → PrintedUnit
printed_unit field = printed_in (unit_of field)

abbrev pub lane_state_at : Memory → Field → Field → ℕ → LaneState
lane_state_at memory paths statuses lane = record { path = readings.number_at memory paths lane; status = readings.number_at memory statuses lane }

-- ---- what is read of lanes

-- of those of bank 0 and of these further banks
abbrev pub amounts_in : Memory → List ℕ → Field → Option Field → List ℤ
amounts_in memory banks field power = over_banks memory banks (λ bank lanes. of_each field (amount_at lanes field power))

abbrev pub states_in : Memory → List ℕ → Field → Field → List LaneState
states_in memory banks paths statuses = over_banks memory banks (λ bank lanes. map (lane_state_at lanes paths statuses) (range_with_len 1 8))

-- ---- the entries of rows, with the lanes of bank 0 and of these further banks

unfoldable pub source_content : Memory → List ℕ → Source → Content
source_content memory banks (Word w) = word w
source_content memory banks (Either field one other) = word (if readings.number memory field == 1 then one else other)
source_content memory banks (Code field) = code (readings.number memory field)
source_content memory banks (Revision field) = revision (readings.number memory field)
source_content memory banks (Next field) = number (readings.number memory field + 1)
source_content memory banks (Text field) = text (readings.text memory field)
source_content memory banks (Oui field) = oui (all_numbers memory field)
source_content memory banks (Right sum) = right (is_sum_right memory sum)
source_content memory banks (Amount field) = amount (amount_at memory field None 1) (printed_unit field)
source_content memory banks (Length base power) = amount (length_in memory base power) Metre
source_content memory banks (Lanes field power) = lanes (amounts_in memory banks field power) (printed_unit field)
source_content memory banks (Limits field power) = limits (limit_amounts memory field power) (printed_unit field)
source_content memory banks (State field) = state (readings.number memory field)
source_content memory banks (LaneStates paths statuses) = lane_states (states_in memory banks paths statuses)

-- the field has this number
abbrev pub applies : Memory → Instead → Bool
applies memory (Nothing field n) = readings.number memory field == n
applies memory (Wording field n w) = readings.number memory field == n

abbrev pub deciding : Memory → List Instead → Option Instead
deciding memory cases = find (applies memory) cases

abbrev pub decided_entries : Memory → List ℕ → Row → Option Instead → List Entry
decided_entries memory banks row None = entry row.name (source_content memory banks row.source) ∷ []
decided_entries memory banks row (Some (Nothing field n)) = []
decided_entries memory banks row (Some (Wording field n w)) = entry row.name (word w) ∷ []

unfoldable pub row_entries : Memory → List ℕ → Bool → Row → List Entry
row_entries memory banks flat row = if row.paged && flat then [] else decided_entries memory banks row (deciding memory row.instead)

-- of a module whose memory is flat or not
abbrev pub rows_entries : Memory → List ℕ → Bool → List Row → List Entry
rows_entries memory banks flat rows = flat_map (row_entries memory banks flat) rows

-- ---- what each row keeps to

-- so many numbers of at most a byte
abbrev pub is_counted : Field → ℕ → Bool
is_counted field n = is_of_bytes (row_of field) && (row_of field).count == n

abbrev pub instead_fits : Instead → Bool
instead_fits (Nothing field n) = is_counted field 1
instead_fits (Wording field n w) = is_counted field 1

abbrev pub source_fits : Source → Bool
source_fits (Word w) = true
source_fits (Either field one other) = is_counted field 1
source_fits (Code field) = is_counted field 1
source_fits (Revision field) = is_counted field 1
source_fits (Next field) = is_counted field 1
source_fits (Text field) = true
source_fits (Oui field) = is_counted field 3
source_fits (Right sum) = true
source_fits (Amount field) = (row_of field).count == 1 && is_some (row_of field).unit
source_fits (Length base power) = is_counted base 1 && is_power power
source_fits (Lanes field power) = nat_le (row_of field).count 8 && power_fits power && is_some (row_of field).unit
source_fits (Limits field power) = (row_of field).count == 4 && power_fits power && is_some (row_of field).unit
source_fits (State field) = is_counted field 1
source_fits (LaneStates paths statuses) = is_counted paths 8 && is_counted statuses 8

abbrev pub row_fits : Row → Bool
row_fits row = list_all instead_fits row.instead && source_fits row.source
