-- The text of a report. (docs/formats.md, "Reports" and "Values in reports"; this project's own)
use Rattle.std.specs.Prelude.{ℕ, ℤ, List, [], ◌∷◌, map}
use Rattle.std.specs.Fmt.{decimal}
use Rattle.std.specs.List.{enumerate_from, flat_map}
use Rattle.hex.specs.Hex.{encode_lower}
use Rattle.field_tables.specs.declared.readings.PerLimit.{PerLimit}
use Rattle.field_tables.specs.LaneSets.{byte_of}
use Rattle.text_lines.specs.Lines.{text_of}
use Rattle.report_entries.specs.AppText.{app_line}
use Rattle.report_entries.specs.Entries.{Entry, Content, word, right, number, code, revision, text, oui, amount, lanes, limits, state, lane_states, flags, apps, lane_set, fact}
use Rattle.report_entries.specs.FactText.{fact_line}
use Rattle.report_entries.specs.Flags.{flag_lines}
use Rattle.report_entries.specs.Lines.{line}
use Rattle.report_entries.specs.Monitors.{each_limit, lane_measure, limits_text}
use Rattle.report_entries.specs.PrintedUnits.{unit_name}
use Rattle.report_entries.specs.States.{lane_codes_text, module_state_text}
use Rattle.report_entries.specs.declared.entry.LaneState.{LaneState}
use Rattle.report_entries.specs.declared.printed_unit.PrintedUnit.{PrintedUnit}
use Rattle.report_entries.specs.declared.shown.Thousandths.{Thousandths}
use Rattle.report_entries.specs.Shown as shown
use Rattle.report_entries.specs.Shown.{byte_code, measure, printable, sum_word}

-- an amount of a lane
unfoldable pub lane_line : List ℕ → PrintedUnit → ℕ → ℤ → List ℕ
lane_line name unit lane millis = line name (lane_measure lane (measure millis (unit_name unit)))

-- those of the lanes, lane 1 first
abbrev pub lane_lines : List ℕ → PrintedUnit → List ℤ → List (List ℕ)
lane_lines name unit values = map (λ (l : ℕ × ℤ). lane_line name unit l.0 l.1) (enumerate_from 1 values)

-- the states of a lane
unfoldable pub lane_state_line : List ℕ → ℕ → LaneState → List ℕ
lane_state_line name lane s = line name (lane_codes_text lane s.path s.status)

abbrev pub lane_state_lines : List ℕ → List LaneState → List (List ℕ)
lane_state_lines name states = map (λ (l : ℕ × LaneState). lane_state_line name l.0 l.1) (enumerate_from 1 states)

abbrev pub in_thousandths : PerLimit ℤ → PerLimit Thousandths
in_thousandths levels = each_limit (λ (millis : ℤ). record { 0 = millis }) levels

unfoldable pub content_lines : List ℕ → Content → List (List ℕ)
content_lines name (word w) = line name w ∷ []
content_lines name (right is_right) = line name (sum_word is_right) ∷ []
content_lines name (number n) = line name (decimal n) ∷ []
content_lines name (code byte) = line name (byte_code byte) ∷ []
content_lines name (revision byte) = line name (shown.revision byte) ∷ []
content_lines name (text bytes) = line name (printable bytes) ∷ []
content_lines name (oui bytes) = line name (encode_lower bytes) ∷ []
content_lines name (amount millis unit) = line name (measure millis (unit_name unit)) ∷ []
content_lines name (lanes values unit) = lane_lines name unit values
content_lines name (limits levels unit) = line name (limits_text (in_thousandths levels)) ∷ []
content_lines name (state n) = line name (module_state_text n) ∷ []
content_lines name (lane_states states) = lane_state_lines name states
content_lines name (flags raised) = flag_lines name raised
content_lines name (apps listed) = map (app_line name) listed
content_lines name (lane_set set) = line name (byte_code (byte_of set)) ∷ []
content_lines name (fact place f) = fact_line name place f ∷ []

abbrev pub entry_lines : Entry → List (List ℕ)
entry_lines e = content_lines e.name e.content

abbrev pub entries_lines : List Entry → List (List ℕ)
entries_lines entries = flat_map entry_lines entries

abbrev pub report_text : List Entry → List ℕ
report_text entries = text_of (entries_lines entries)
