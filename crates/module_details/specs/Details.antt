-- What the rows of details say of a module's memory. (docs/formats.md, "details"; SFF-8024, "Identifier Values"; this project's
-- own)
use Rattle.std.specs.Prelude.{ℕ, ◌+◌, ◌-◌, ◌*◌, ◌==◌, ◌&&◌, ◌||◌, not, nat_le, nat_lt, int_le, int_lt, if◌then◌else◌, Bool, true, false, ℤ, pos, ◌*ℤ◌, ◌-ℤ◌, unsigned_abs, List, [], ◌∷◌, Option, Some, None, option_map}
use Rattle.std.specs.List.{flat_map, list_any, range_with_len}
use Rattle.code_names.specs.Names.{name_in}
use Rattle.code_names.specs.Rows.{text_of}
use Rattle.code_names.specs.declared.table.Table.{Table}
use Rattle.field_tables.specs.declared.field.Field.{Field}
use Rattle.field_tables.specs.declared.field.Field.TheVariants as fields
use Rattle.field_tables.specs.declared.table.cmis.CmisField.TheVariants as cmis
use Rattle.field_tables.specs.declared.units.Unit.TheVariants as steps
use Rattle.field_tables.specs.FieldRows.{row_of}
use Rattle.field_tables.specs.Readings as readings
use Rattle.field_tables.specs.Readings.{all_numbers, bit_at, number, number_at, reading_at}
use Rattle.field_tables.specs.Units.{floor_div, millis_of}
use Rattle.module_decoding.specs.Amounts.{amount_at, length_in, unit_of}
use Rattle.module_decoding.specs.PaddedTexts.{trimmed}
use Rattle.paged_memory.specs.Images.{Memory}
use Rattle.report_entries.specs.Banks.{over_banks}
use Rattle.report_entries.specs.Entries.{Entry, entry, fact}
use Rattle.report_entries.specs.Facts as facts
use Rattle.report_entries.specs.Facts.{Fact}
use Rattle.report_entries.specs.PrintedUnits.{printed_in}
use Rattle.report_entries.specs.declared.fact.Place.{Place}
use Rattle.report_entries.specs.declared.fact.Place.TheVariants.{Module, Lane}
use Rattle.report_entries.specs.declared.printed_unit.PrintedUnit.{PrintedUnit}
use Rattle.report_entries.specs.declared.printed_unit.PrintedUnit.TheVariants as units
use Rattle.module_details.specs.declared.item.Case.{Case}
use Rattle.module_details.specs.declared.item.Case.TheVariants.{Within, Outside, Neither, LacksSince}
use Rattle.module_details.specs.declared.item.Values.{Values}
use Rattle.module_details.specs.declared.item.Values.TheVariants.{One, Lanes}
use Rattle.module_details.specs.Measured.{calibrates, measured_fact, measured_power}
use Rattle.module_details.specs.PowerClasses.{class_power, power_class}
use Rattle.module_details.specs.Rows.{Row, Item, Word, Either, Yes, Named, Names, Number, Revision, Version, Text, Oui, Amount, Steps, StepsIfAny, PairIfAny, TenthsIfAny, Celsius, Percent, Temperature, Level, Milliwatts, Measured, MeasuredLevel, MeasuredMilliwatts, Calibrates, ModuleState, PathState, ConfigStatus, FirstLane, BitRate, PowerClass, ClassPower}

-- ---- facts

abbrev pub name_of : Table → ℕ → List ℕ
name_of table code = text_of (name_in table code)

-- the name of value i, if it is 1
abbrev pub name_if_set : Memory → Table → Field → ℕ → ℕ → List (List ℕ)
name_if_set memory table field first i = if bit_at memory field i then name_of table (first + (i - 1)) ∷ [] else []

-- the names of the first bits that are 1, given the code of the first
abbrev pub names_up_to : Memory → Table → Field → ℕ → ℕ → List (List ℕ)
names_up_to memory table field first count = flat_map (name_if_set memory table field first) (range_with_len 1 count)

unfoldable pub names_of : Memory → Table → Field → ℕ → List (List ℕ)
names_of memory table field first = names_up_to memory table field first (row_of field).count

abbrev pub is_any : {A : Type 0} → List A → Bool
is_any [] = false
is_any (x ∷ xs) = true

-- a fact, if there is anything to say
abbrev pub if_any : Bool → Fact → Option Fact
if_any any f = if any then Some f else None

-- in two's complement of eight bits, and of 16
abbrev pub signed_byte : ℕ → ℤ
signed_byte n = if nat_lt n 128 then pos n else pos n -ℤ pos 256

abbrev pub signed_word : ℤ → ℤ
signed_word z = if int_le z (pos 32767) then z else z -ℤ pos 65536

unfoldable pub named_fact : Table → ℕ → Fact
named_fact table code = facts.named code (name_of table code)

abbrev pub names_fact : List (List ℕ) → Option Fact
names_fact names = if_any (is_any names) (facts.names names)

abbrev pub text_fact : List ℕ → Option Fact
text_fact bytes = if_any (is_any (trimmed bytes)) (facts.text bytes)

abbrev pub is_positive : ℤ → Bool
is_positive z = int_lt (pos 0) z

abbrev pub steps_fact : ℤ → ℕ → PrintedUnit → Fact
steps_fact z step unit = facts.amount (z *ℤ pos step) unit

abbrev pub amount_fact : ℤ → PrintedUnit → Option Fact
amount_fact millis unit = if_any (is_positive millis) (facts.amount millis unit)

-- the higher byte and the lower
abbrev pub pair : ℕ → ℕ → ℕ
pair high low = high * 256 + low

abbrev pub pair_fact : ℕ → ℕ → PrintedUnit → Option Fact
pair_fact n step unit = amount_fact (pos n *ℤ pos step) unit

abbrev pub celsius_fact : ℕ → Fact
celsius_fact byte = facts.amount (signed_byte byte *ℤ pos 1000) units.Celsius

abbrev pub percent_fact : ℤ → Fact
percent_fact parts = facts.amount (floor_div (parts *ℤ pos 100000) 32767) units.Percent

abbrev pub temperature_fact : ℤ → Fact
temperature_fact word = facts.amount (millis_of (signed_word word) steps.Temperature) units.Celsius

abbrev pub level_fact : Option ℕ → Option Fact
level_fact power = option_map facts.level power

abbrev pub milliwatts_fact : Option ℕ → Option Fact
milliwatts_fact power = option_map facts.milliwatts power

-- the first lane of the data path by its place in the bank; without an Application the lane is in no data path
abbrev pub first_lane_fact : ℕ → ℕ → ℕ → Option Fact
first_lane_fact bank app path = if_any (nat_lt 0 app) (facts.number (8 * bank + (path + 1)))

-- in thousandths of a gigabaud
abbrev pub bit_rate : ℕ → ℕ → ℕ
bit_rate rate more = if rate == 255 then more * 250 else rate * 100

abbrev pub bit_rate_fact : ℕ → Option Fact
bit_rate_fact rate = amount_fact (pos rate) units.Gigabaud

unfoldable pub fact_at : Memory → ℕ → Item → ℕ → Option Fact
fact_at memory bank (Word w) i = Some (facts.word w)
fact_at memory bank (Either field one other) i = Some (facts.word (if bit_at memory field i then one else other))
fact_at memory bank (Yes field) i = Some (facts.yes (bit_at memory field i))
fact_at memory bank (Named table field) i = Some (named_fact table (number_at memory field i))
fact_at memory bank (Names table field first) i = names_fact (names_of memory table field first)
fact_at memory bank (Number field more) i = Some (facts.number (number_at memory field i + more))
fact_at memory bank (Revision field) i = Some (facts.revision (number_at memory field i))
fact_at memory bank (Version field) i = Some (facts.version (number_at memory field i) (number_at memory field (i + 1)))
fact_at memory bank (Text field) i = text_fact (readings.text memory field)
fact_at memory bank (Oui field) i = Some (facts.oui (all_numbers memory field))
fact_at memory bank (Amount field power) i = Some (facts.amount (amount_at memory field power i) (printed_in (unit_of field)))
fact_at memory bank (Steps field step unit) i = Some (steps_fact (reading_at memory field i) step unit)
fact_at memory bank (StepsIfAny field step unit) i = if_any (is_positive (reading_at memory field i)) (steps_fact (reading_at memory field i) step unit)
fact_at memory bank (PairIfAny field step unit) i = pair_fact (pair (number_at memory field i) (number_at memory field (i + 1))) step unit
fact_at memory bank (TenthsIfAny base power unit) i = amount_fact (length_in memory base power) unit
fact_at memory bank (Celsius field) i = Some (celsius_fact (number_at memory field i))
fact_at memory bank (Percent field) i = Some (percent_fact (reading_at memory field i))
fact_at memory bank (Temperature field) i = Some (temperature_fact (reading_at memory field i))
fact_at memory bank (Level field) i = Some (facts.level (unsigned_abs (reading_at memory field i)))
fact_at memory bank (Milliwatts field) i = Some (facts.milliwatts (unsigned_abs (reading_at memory field i)))
fact_at memory bank (Measured monitor field) i = measured_fact memory monitor field i
fact_at memory bank (MeasuredLevel monitor field) i = level_fact (measured_power memory monitor field i)
fact_at memory bank (MeasuredMilliwatts monitor field) i = milliwatts_fact (measured_power memory monitor field i)
fact_at memory bank (Calibrates monitor) i = Some (facts.yes (calibrates memory monitor))
fact_at memory bank (ModuleState field) i = Some (facts.module_state (number_at memory field i))
fact_at memory bank (PathState field) i = Some (facts.path_state (number_at memory field i))
fact_at memory bank (ConfigStatus field) i = Some (facts.config_status (number_at memory field i))
fact_at memory bank (FirstLane apps paths) i = first_lane_fact bank (number_at memory apps i) (number_at memory paths i)
fact_at memory bank (BitRate rate more) i = bit_rate_fact (bit_rate (number_at memory rate 1) (number_at memory more 1))
fact_at memory bank PowerClass i = Some (facts.number (power_class memory))
fact_at memory bank ClassPower i = Some (facts.amount (pos (class_power memory)) units.Watt)

-- ---- rows

-- an entry, if there is anything to say
unfoldable pub fact_entries : List ℕ → Place → Option Fact → List Entry
fact_entries name place None = []
fact_entries name place (Some f) = entry name (fact place f) ∷ []

-- how many lanes a module with this identifier has at most: SFP has one, DSFP and SFP-DD have two, QSFP has four
abbrev pub most_lanes : ℕ → ℕ
most_lanes identifier =
    if identifier == 0x20 then 1
    else if identifier == 0x1B || identifier == 0x1F then 2
    else if identifier == 0x1E then 4
    else 8

abbrev pub has_lane : ℕ → ℕ → Bool
has_lane identifier lane = nat_le lane (most_lanes identifier)

-- of a lane of a bank, from the memory of the bank's lanes, if a module with this identifier has such a lane
unfoldable pub lane_entries : ℕ → List ℕ → Item → ℕ → Memory → ℕ → List Entry
lane_entries identifier name item bank lanes i = if has_lane identifier i then fact_entries name (Lane (8 * bank + i)) (fact_at lanes bank item i) else []

abbrev pub bank_entries : ℕ → List ℕ → Item → ℕ → ℕ → Memory → List Entry
bank_entries identifier name item n bank lanes = flat_map (lane_entries identifier name item bank lanes) (range_with_len 1 n)

-- of these values, with the lanes of bank 0 and of these further banks
abbrev pub values_entries : Memory → List ℕ → List ℕ → Item → Values → List Entry
values_entries memory banks name item (One i) = fact_entries name Module (fact_at memory 0 item i)
values_entries memory banks name item (Lanes n) = over_banks memory banks (bank_entries (number memory (fields.Cmis cmis.Identifier)) name item n)

abbrev pub is_within : ℕ → ℕ → ℕ → Bool
is_within low high n = nat_le low n && nat_le n high

abbrev pub applies : Memory → Case → Bool
applies memory (Within field i low high) = is_within low high (number_at memory field i)
applies memory (Outside field i low high) = not (is_within low high (number_at memory field i))
applies memory (Neither field i j) = not (bit_at memory field i || bit_at memory field j)
applies memory (LacksSince field i since first) = not (bit_at memory field i) && nat_le first (number_at memory since 1)

-- a row that says nothing of this module, whose memory is flat or not
abbrev pub is_left_out : Memory → Bool → Row → Bool
is_left_out memory flat row = row.paged && flat || list_any (applies memory) row.cases

unfoldable pub row_entries : Memory → List ℕ → Bool → Row → List Entry
row_entries memory banks flat row = if is_left_out memory flat row then [] else values_entries memory banks row.name row.item row.values

abbrev pub rows_entries : Memory → List ℕ → Bool → List Row → List Entry
rows_entries memory banks flat rows = flat_map (row_entries memory banks flat) rows
