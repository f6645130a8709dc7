-- How facts are shown in the text of a report. (docs/formats.md, "details" and "Values in reports"; this project's own)
use Rattle.std.specs.Prelude.{ℕ, ◌/◌, ◌%◌, Bool, if◌then◌else◌, List, [], ◌∷◌, ◌++◌, codes}
use Rattle.std.specs.Fmt.{decimal}
use Rattle.std.specs.List.{flat_map}
use Rattle.hex.specs.Hex.{encode_lower}
use Rattle.decibels.specs.Dbm.{dbm_text}
use Rattle.decibels.specs.Levels.{level_of}
use Rattle.field_tables.specs.LaneSets.{byte_of}
use Rattle.report_entries.specs.Facts.{Fact, key_text, word, yes, number, named, names, revision, version, text, oui, amount, level, milliwatts, lane_set, module_state, path_state, config_status}
use Rattle.report_entries.specs.Lines.{line}
use Rattle.report_entries.specs.PrintedUnits.{unit_name}
use Rattle.report_entries.specs.Shown as shown
use Rattle.report_entries.specs.Shown.{byte_code, measure, printable}
use Rattle.report_entries.specs.States.{module_state_text, path_state_text, status_text}
use Rattle.report_entries.specs.declared.fact.Place.{Place}

abbrev pub yes_word : Bool → List ℕ
yes_word b = if b then codes "yes" else codes "no"

abbrev pub quoted : List ℕ → List ℕ
quoted name = 34 ∷ name ++ 34 ∷ []

-- the code, and its name in quotes
unfoldable pub named_text : ℕ → List ℕ → List ℕ
named_text code name = byte_code code ++ 32 ∷ quoted name

-- each name in quotes, with a space before it
unfoldable pub spaced_names : List (List ℕ) → List ℕ
spaced_names list = flat_map (λ (name : List ℕ). 32 ∷ quoted name) list

unfoldable pub version_text : ℕ → ℕ → List ℕ
version_text major minor = decimal major ++ 46 ∷ decimal minor

abbrev pub four_digits : ℕ → List ℕ
four_digits n = decimal (n / 1000 % 10) ++ decimal (n / 100 % 10) ++ decimal (n / 10 % 10) ++ decimal (n % 10)

-- tenths of a microwatt as a decimal fraction of a milliwatt
unfoldable pub milliwatts_text : ℕ → List ℕ
milliwatts_text power = decimal (power / 10000) ++ 46 ∷ four_digits (power % 10000)

unfoldable pub level_text : ℕ → List ℕ
level_text power = dbm_text (level_of power)

-- a value and its unit
unfoldable pub in_unit : List ℕ → List ℕ → List ℕ
in_unit value unit = value ++ 32 ∷ unit

-- the key, a space and the value; names have their own spaces
unfoldable pub fact_line : List ℕ → Place → Fact → List ℕ
fact_line name place (word w) = line (key_text name place) w
fact_line name place (yes b) = line (key_text name place) (yes_word b)
fact_line name place (number n) = line (key_text name place) (decimal n)
fact_line name place (named code title) = line (key_text name place) (named_text code title)
fact_line name place (names list) = key_text name place ++ spaced_names list
fact_line name place (revision byte) = line (key_text name place) (shown.revision byte)
fact_line name place (version major minor) = line (key_text name place) (version_text major minor)
fact_line name place (text bytes) = line (key_text name place) (printable bytes)
fact_line name place (oui bytes) = line (key_text name place) (encode_lower bytes)
fact_line name place (amount millis unit) = line (key_text name place) (measure millis (unit_name unit))
fact_line name place (level power) = line (key_text name place) (in_unit (level_text power) (codes "dBm"))
fact_line name place (milliwatts power) = line (key_text name place) (in_unit (milliwatts_text power) (codes "mW"))
fact_line name place (lane_set set) = line (key_text name place) (byte_code (byte_of set))
fact_line name place (module_state code) = line (key_text name place) (module_state_text code)
fact_line name place (path_state code) = line (key_text name place) (path_state_text code)
fact_line name place (config_status code) = line (key_text name place) (status_text code)
