-- What each row of details keeps to. (This project's own.)
use Rattle.std.specs.Prelude.{ℕ, ◌+◌, ◌&&◌, ◌==◌, nat_le, Bool, true, is_some}
use Rattle.std.specs.List.{list_all, range_with_len}
use Rattle.field_tables.specs.declared.field.Field.{Field}
use Rattle.field_tables.specs.FieldRows.{row_of}
use Rattle.field_tables.specs.Readings.{is_of_bytes}
use Rattle.module_decoding.specs.Amounts.{is_power, power_fits}
use Rattle.module_details.specs.declared.item.Case.{Case}
use Rattle.module_details.specs.declared.item.Case.TheVariants.{Within, Outside, Neither, LacksSince}
use Rattle.module_details.specs.declared.item.Values.{Values}
use Rattle.module_details.specs.declared.item.Values.TheVariants.{One, Lanes}
use Rattle.module_details.specs.Rows.{Row, Item, Word, Either, Yes, Named, Names, Number, Revision, Version, Text, Oui, Amount, Steps, StepsIfAny, PairIfAny, TenthsIfAny, Celsius, Percent, Temperature, Level, Milliwatts, Measured, MeasuredLevel, MeasuredMilliwatts, Calibrates, ModuleState, PathState, ConfigStatus, FirstLane, BitRate, PowerClass, ClassPower}

-- there is such a value
abbrev pub has_value : Field → ℕ → Bool
has_value field i = nat_le 1 i && nat_le i (row_of field).count

-- and it is a number of at most a byte
abbrev pub has_number : Field → ℕ → Bool
has_number field i = is_of_bytes (row_of field) && has_value field i

abbrev pub item_fits : Item → ℕ → Bool
item_fits (Word w) i = true
item_fits (Either field one other) i = has_number field i
item_fits (Yes field) i = has_number field i
item_fits (Named table field) i = has_number field i
item_fits (Names table field first) i = is_of_bytes (row_of field) && nat_le (row_of field).count 8 && nat_le first 200
item_fits (Number field more) i = has_number field i
item_fits (Revision field) i = has_number field i
item_fits (Version field) i = has_number field i && has_number field (i + 1)
item_fits (Text field) i = true
item_fits (Oui field) i = is_of_bytes (row_of field) && (row_of field).count == 3
item_fits (Amount field power) i = has_value field i && power_fits power && is_some (row_of field).unit
item_fits (Steps field step unit) i = has_value field i
item_fits (StepsIfAny field step unit) i = has_value field i
item_fits (PairIfAny field step unit) i = has_number field i && has_number field (i + 1)
item_fits (TenthsIfAny base power unit) i = (is_of_bytes (row_of base) && (row_of base).count == 1) && is_power power
item_fits (Celsius field) i = has_number field i
item_fits (Percent field) i = has_value field i
item_fits (Temperature field) i = has_value field i
item_fits (Level field) i = has_value field i
item_fits (Milliwatts field) i = has_value field i
item_fits (Measured monitor field) i = has_value field i && is_some (row_of field).unit
item_fits (MeasuredLevel monitor field) i = has_value field i
item_fits (MeasuredMilliwatts monitor field) i = has_value field i
item_fits (Calibrates monitor) i = true
item_fits (ModuleState field) i = has_number field i
item_fits (PathState field) i = has_number field i
item_fits (ConfigStatus field) i = has_number field i
item_fits (FirstLane apps paths) i = has_number apps i && has_number paths i
item_fits (BitRate rate more) i = has_number rate 1 && has_number more 1
item_fits PowerClass i = true
item_fits ClassPower i = true

abbrev pub case_fits : Case → Bool
case_fits (Within field i low high) = has_number field i
case_fits (Outside field i low high) = has_number field i
case_fits (Neither field i j) = has_number field i && has_number field j
case_fits (LacksSince field i since first) = has_number field i && has_number since 1

abbrev pub values_fit : Item → Values → Bool
values_fit item (One i) = item_fits item i
values_fit item (Lanes n) = list_all (item_fits item) (range_with_len 1 n) && nat_le n 8

abbrev pub row_fits : Row → Bool
row_fits row = list_all case_fits row.cases && values_fit row.item row.values
