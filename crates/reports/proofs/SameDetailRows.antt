-- What each row of details says of two memories is the same if it is read of halves of which both agree.
use Rattle.std.proofs.Common.{◌+◌, ◌-◌, ◌*◌, ◌^◌, ◌&&◌, ◌||◌, ℕ, Bool, true, false, List, [], ◌∷◌, Some, None, if◌then◌else◌, nat_le}
use Rattle.std.specs.Prelude.{pos, not, nat_lt, is_none, is_some}
use Rattle.std.specs.List.{range_with_len}
use Rattle.paged_memory.specs.declared.key.Key.{Key}
use Rattle.paged_memory.specs.Images.{Memory}
use Rattle.external_calibration.specs.Amounts.{amount_of}
use Rattle.external_calibration.specs.Constants.{coefficient, constants_of, line_of}
use Rattle.external_calibration.specs.Refusals.{refusal_by}
use Rattle.external_calibration.specs.declared.monitor.Monitor.{Monitor}
use Rattle.field_tables.specs.declared.field.Field.{Field}
use Rattle.field_tables.specs.declared.field.Field.TheVariants as fields
use Rattle.field_tables.specs.declared.table.cmis.CmisField.TheVariants as cmis
use Rattle.field_tables.specs.declared.table.sff8636.Sff8636Field.TheVariants as sff8636
use Rattle.field_tables.specs.declared.table.sff8472.Sff8472Field.TheVariants as sff8472
use Rattle.field_tables.specs.FieldRows.{row_of}
use Rattle.field_tables.specs.Readings.{number}
use Rattle.module_decoding.specs.Amounts.{amount_at, unit_of}
use Rattle.module_details.specs.declared.item.Case.{Case}
use Rattle.module_details.specs.declared.item.Case.TheVariants.{Within, Outside, Neither, LacksSince}
use Rattle.module_details.specs.declared.item.Values.{Values}
use Rattle.module_details.specs.declared.item.Values.TheVariants.{One, Lanes}
use Rattle.module_details.specs.Details.{amount_fact, applies, bank_entries, bit_rate, bit_rate_fact, celsius_fact, fact_at, fact_entries, first_lane_fact, if_any, is_positive, is_within, lane_entries, level_fact, milliwatts_fact, most_lanes, name_if_set, name_of, named_fact, names_fact, names_of, pair_fact, percent_fact, row_entries, rows_entries, steps_fact, temperature_fact, text_fact, values_entries}
use Rattle.module_details.specs.Details as details
use Rattle.module_details.specs.Families.{tables_entries}
use Rattle.module_details.specs.Measured as measured
use Rattle.module_details.specs.Measured.{calibrated, calibrates, measured_fact, measured_power}
use Rattle.module_details.specs.PowerClasses.{class_power, power_class, power_of}
use Rattle.module_details.specs.Rows.{Row, Item, Word, Either, Yes, Named, Names, Number, Revision, Version, Text, Oui, Amount, Steps, StepsIfAny, PairIfAny, TenthsIfAny, Celsius, Percent, Temperature, Level, Milliwatts, Measured, MeasuredLevel, MeasuredMilliwatts, Calibrates, ModuleState, PathState, ConfigStatus, FirstLane, BitRate, PowerClass, ClassPower}
use Rattle.report_entries.specs.Facts as facts
use Rattle.report_entries.specs.PrintedUnits.{printed_in}
use Rattle.report_entries.specs.declared.fact.Place.TheVariants.{Module, Lane}
use Rattle.report_entries.specs.declared.printed_unit.PrintedUnit.TheVariants as units
use Rattle.reports.proofs.BankLanes.{lanes_agree}
use Rattle.reports.proofs.SameIf.{KeysAgree, SameIf, always, amount_read, any, bit_read, by, by_two, each, either, length_read, number_read, numbers_read, over_banks_same, pair, text_read, value_read}

-- a row that is left out of flat memory, or where a test says so
abbrev left_out : {A : Type 0} {s t : Bool} {u v : List A} (absent : Bool) → SameIf s t → SameIf u v → SameIf (if absent || s then [] else u) (if absent || t then [] else v)
left_out true test content = always []
left_out false test content = either test (always []) content

module _ {a b : Memory} {keys : List Key} (agree : KeysAgree a b keys) where
  abbrev class_same : SameIf (power_class a) (power_class b)
  unfolding power_class
  class_same =
      let high = number_read agree (fields.Sff8636 sff8636.PowerClassHigh) 1 in
      either (bit_read agree (fields.Sff8636 sff8636.PowerClass8) 1) (always 8) (either (by (nat_lt 0) high) (by (λ n. n + 4) high) (by (λ n. n + 1) (number_read agree (fields.Sff8636 sff8636.PowerClass) 1)))

  -- ---- by which the host calibrates, if it has to

  abbrev coefficient_same : (i : ℕ) → SameIf (coefficient a i) (coefficient b i)
  coefficient_same i = by_two (λ high low. high * 2 ^ 16 + low) (number_read agree (fields.Sff8472 sff8472.RxPowerCoefficients) i) (number_read agree (fields.Sff8472 sff8472.RxPowerCoefficients) (i + 1))

  abbrev line_same : (i : ℕ) → SameIf (line_of a i) (line_of b i)
  line_same i = by_two (λ slope offset. record { slope = slope; offset = offset }) (number_read agree (fields.Sff8472 sff8472.Slopes) i) (value_read agree (fields.Sff8472 sff8472.Offsets) i)

  unfoldable pub constants_same : SameIf (constants_of a) (constants_of b)
  unfolding constants_of
  constants_same =
      let power = pair (pair (coefficient_same 1) (coefficient_same 3)) (pair (coefficient_same 5) (pair (coefficient_same 7) (coefficient_same 9))) in
      let lines = pair (pair (line_same 1) (line_same 2)) (pair (line_same 3) (line_same 4)) in
      by_two (λ power lines. record {
        rx_power = record { fourth = power.0.0; third = power.0.1; second = power.1.0; first = power.1.1.0; zeroth = power.1.1.1 };
        tx_bias = lines.0.0;
        tx_power = lines.0.1;
        temperature = lines.1.0;
        vcc = lines.1.1;
      }) power lines

  module _ (monitor : Monitor) (field : Field) (i : ℕ) where
    abbrev calibrated_same : SameIf (calibrated a monitor field i) (calibrated b monitor field i)
    unfolding calibrated constants_same
    calibrated_same = by_two (λ constants steps. if is_some (refusal_by constants monitor) then None else Some (amount_of constants monitor steps)) constants_same (value_read agree field i)

    abbrev measured_same : SameIf (measured_fact a monitor field i) (measured_fact b monitor field i)
    unfolding measured_fact amount_at calibrated_same
    measured_same =
        either (bit_read agree (fields.Sff8472 sff8472.External) 1) (by (λ millis. measured.amount_fact millis monitor) calibrated_same)
        (by (λ millis. Some (facts.amount millis (printed_in (unit_of field)))) (amount_read agree field None i))

    abbrev measured_power_same : SameIf (measured_power a monitor field i) (measured_power b monitor field i)
    unfolding measured_power calibrated_same
    measured_power_same = either (bit_read agree (fields.Sff8472 sff8472.External) 1) (by measured.power_in calibrated_same) (by (λ n. Some n) (number_read agree field i))

  -- ---- what rows say

  abbrev fact_same : (bank : ℕ) (item : Item) (i : ℕ) → SameIf (fact_at a bank item i) (fact_at b bank item i)
  unfolding fact_at amount_at names_of class_same class_power calibrates constants_same measured_same measured_power_same
  fact_same bank (Word w) i = always (Some (facts.word w))
  fact_same bank (Either field one other) i = by (λ set. Some (facts.word (if set then one else other))) (bit_read agree field i)
  fact_same bank (Yes field) i = by (λ set. Some (facts.yes set)) (bit_read agree field i)
  fact_same bank (Named table field) i = by (λ n. Some (named_fact table n)) (number_read agree field i)
  fact_same bank (Names table field first) i =
      by names_fact (each (name_if_set a table field first) (name_if_set b table field first)
      (λ i. by (λ set. if set then name_of table (first + (i - 1)) ∷ [] else []) (bit_read agree field i)) (range_with_len 1 (row_of field).count))
  fact_same bank (Number field more) i = by (λ n. Some (facts.number (n + more))) (number_read agree field i)
  fact_same bank (Revision field) i = by (λ n. Some (facts.revision n)) (number_read agree field i)
  fact_same bank (Version field) i = by_two (λ major minor. Some (facts.version major minor)) (number_read agree field i) (number_read agree field (i + 1))
  fact_same bank (Text field) i = by text_fact (text_read agree field)
  fact_same bank (Oui field) i = by (λ bytes. Some (facts.oui bytes)) (numbers_read agree field)
  fact_same bank (Amount field power) i = by (λ millis. Some (facts.amount millis (printed_in (unit_of field)))) (amount_read agree field power i)
  fact_same bank (Steps field step unit) i = by (λ z. Some (steps_fact z step unit)) (value_read agree field i)
  fact_same bank (StepsIfAny field step unit) i = by (λ z. if_any (is_positive z) (steps_fact z step unit)) (value_read agree field i)
  fact_same bank (PairIfAny field step unit) i = by_two (λ high low. pair_fact (details.pair high low) step unit) (number_read agree field i) (number_read agree field (i + 1))
  fact_same bank (TenthsIfAny base power unit) i = by (λ millis. amount_fact millis unit) (length_read agree base power)
  fact_same bank (Celsius field) i = by (λ n. Some (celsius_fact n)) (number_read agree field i)
  fact_same bank (Percent field) i = by (λ z. Some (percent_fact z)) (value_read agree field i)
  fact_same bank (Temperature field) i = by (λ z. Some (temperature_fact z)) (value_read agree field i)
  fact_same bank (Level field) i = by (λ n. Some (facts.level n)) (number_read agree field i)
  fact_same bank (Milliwatts field) i = by (λ n. Some (facts.milliwatts n)) (number_read agree field i)
  fact_same bank (Measured monitor field) i = measured_same monitor field i
  fact_same bank (MeasuredLevel monitor field) i = by level_fact (measured_power_same monitor field i)
  fact_same bank (MeasuredMilliwatts monitor field) i = by milliwatts_fact (measured_power_same monitor field i)
  fact_same bank (Calibrates monitor) i = by (λ constants. Some (facts.yes (is_none (refusal_by constants monitor)))) constants_same
  fact_same bank (ModuleState field) i = by (λ n. Some (facts.module_state n)) (number_read agree field i)
  fact_same bank (PathState field) i = by (λ n. Some (facts.path_state n)) (number_read agree field i)
  fact_same bank (ConfigStatus field) i = by (λ n. Some (facts.config_status n)) (number_read agree field i)
  fact_same bank (FirstLane apps paths) i = by_two (λ app path. first_lane_fact bank app path) (number_read agree apps i) (number_read agree paths i)
  fact_same bank (BitRate rate more) i = by_two (λ rate more. bit_rate_fact (bit_rate rate more)) (number_read agree rate 1) (number_read agree more 1)
  fact_same bank PowerClass i = by (λ class. Some (facts.number class)) class_same
  fact_same bank ClassPower i =
      by (λ power. Some (facts.amount (pos power) units.Watt)) (either (bit_read agree (fields.Sff8636 sff8636.PowerClass8) 1) (by (λ n. n * 100) (number_read agree (fields.Sff8636 sff8636.MaxPower) 1)) (by power_of class_same))

  abbrev applies_same : (case : Case) → SameIf (applies a case) (applies b case)
  applies_same (Within field i low high) = by (is_within low high) (number_read agree field i)
  applies_same (Outside field i low high) = by (λ n. not (is_within low high n)) (number_read agree field i)
  applies_same (Neither field i j) = by_two (λ one other. not (one || other)) (bit_read agree field i) (bit_read agree field j)
  applies_same (LacksSince field i since first) = by_two (λ set n. not set && nat_le first n) (bit_read agree field i) (number_read agree since 1)

-- which lanes a bank has, the module's identifier tells
module _ {a b : Memory} {keys : List Key} (agree : KeysAgree a b keys) where
  abbrev lane_same : {x y : Memory} {others : List Key} → KeysAgree x y others → (name : List ℕ) (item : Item) (bank i : ℕ) → SameIf (lane_entries (number a (fields.Cmis cmis.Identifier)) name item bank x i) (lane_entries (number b (fields.Cmis cmis.Identifier)) name item bank y i)
  unfolding lane_entries fact_same
  lane_same lanes name item bank i =
      either (by (λ id. nat_le i (most_lanes id)) (number_read agree (fields.Cmis cmis.Identifier) 1)) (by (fact_entries name (Lane (8 * bank + i))) (fact_same lanes bank item i)) (always [])

  abbrev bank_same : {x y : Memory} {others : List Key} → KeysAgree x y others → (name : List ℕ) (item : Item) (n bank : ℕ) → SameIf (bank_entries (number a (fields.Cmis cmis.Identifier)) name item n bank x) (bank_entries (number b (fields.Cmis cmis.Identifier)) name item n bank y)
  unfolding lane_same
  bank_same {x} {y} lanes name item n bank = each (lane_entries (number a (fields.Cmis cmis.Identifier)) name item bank x) (lane_entries (number b (fields.Cmis cmis.Identifier)) name item bank y) (lane_same lanes name item bank) (range_with_len 1 n)

  abbrev values_same : (banks name : List ℕ) (item : Item) (values : Values) → SameIf (values_entries a banks name item values) (values_entries b banks name item values)
  unfolding bank_same fact_same
  values_same banks name item (One i) = by (fact_entries name Module) (fact_same agree 0 item i)
  values_same banks name item (Lanes n) =
      over_banks_same agree banks (bank_entries (number a (fields.Cmis cmis.Identifier)) name item n) (bank_entries (number b (fields.Cmis cmis.Identifier)) name item n) (bank_same agree name item n 0) (λ bank. bank_same (lanes_agree agree bank) name item n bank)

  abbrev row_same : (banks : List ℕ) (flat : Bool) (row : Row) → SameIf (row_entries a banks flat row) (row_entries b banks flat row)
  unfolding row_entries values_same
  row_same banks flat row = left_out (row.paged && flat) (any (applies a) (applies b) (applies_same agree) row.cases) (values_same banks row.name row.item row.values)

  unfoldable pub tables_same : (banks : List ℕ) (flat : Bool) (tables : List (List Row)) → SameIf (tables_entries a banks flat tables) (tables_entries b banks flat tables)
  unfolding row_same
  tables_same banks flat tables = each (rows_entries a banks flat) (rows_entries b banks flat) (λ rows. each (row_entries a banks flat) (row_entries b banks flat) (row_same banks flat) rows) tables
