-- A report as JSON: an object that has the members of each entry, in their order. (docs/formats.md, "JSON"; this project's
-- own)
use Rattle.std.specs.Prelude.{◌≡◌, ℕ, ◌==◌, if◌then◌else◌, ℤ, List, [], ◌∷◌, ◌++◌, map, codes, Option, Some, None, option_map}
use Rattle.std.specs.Fmt.{decimal}
use Rattle.std.specs.List.{flat_map}
use Rattle.hex.specs.Hex.{encode_lower}
use Rattle.field_tables.specs.declared.readings.PerLimit.{PerLimit}
use Rattle.field_tables.specs.LaneSets.{byte_of}
use Rattle.applications.specs.Usable.{is_usable}
use Rattle.applications.specs.declared.app.App.{App}
use Rattle.json.specs.Json as json
use Rattle.json.specs.Json.{Json, document}
use Rattle.json.specs.Layout.{pretty}
use Rattle.json.specs.Tree.{json_tokens}
use Rattle.module_states.specs.Codes as module_codes
use Rattle.module_states.specs.Names as module_names
use Rattle.datapath_states.specs.Names as path_names
use Rattle.datapath_states.specs.Names.{status_name}
use Rattle.datapath_states.specs.StateCodes as path_codes
use Rattle.datapath_states.specs.StatusCodes.{status_at}
use Rattle.report_entries.specs.Entries.{Entry, Content, word, right, number, code, revision, text, oui, amount, lanes, limits, state, lane_states, flags, apps, lane_set, fact}
use Rattle.report_entries.specs.Facts as facts
use Rattle.report_entries.specs.Facts.{Fact}
use Rattle.report_entries.specs.FactText.{level_text, milliwatts_text, version_text}
use Rattle.report_entries.specs.FlagNames.{flag_name}
use Rattle.report_entries.specs.JsonScalars.{scalar_json}
use Rattle.report_entries.specs.JsonTrees.{Member, array_of, object_of}
use Rattle.report_entries.specs.PrintedUnits.{unit_key}
use Rattle.report_entries.specs.Shown as shown
use Rattle.module_decoding.specs.PaddedTexts.{shown_byte}
use Rattle.report_entries.specs.Shown.{printable, thousandths}
use Rattle.report_entries.specs.declared.entry.LaneState.{LaneState}
use Rattle.report_entries.specs.declared.fact.Place.{Place}
use Rattle.report_entries.specs.declared.fact.Place.TheVariants.{Module, Lane, App as of_app}
use Rattle.report_entries.specs.declared.flag.Flag.{Flag}

-- ---- keys

-- an underscore for each dash
abbrev pub key_byte : ℕ → ℕ
key_byte byte = if byte == 45 then 95 else shown_byte byte

unfoldable pub snake : List ℕ → List ℕ
snake name = map key_byte name

-- a name, and after it the unit it counts in, as `max_power_w`
unfoldable pub key_in : List ℕ → List ℕ → List ℕ
key_in name behind = snake name ++ 95 ∷ behind

-- ---- values

abbrev pub count_json : ℕ → Json
count_json n = json.number (decimal n)

abbrev pub amount_json : ℤ → Json
amount_json millis = json.number (thousandths millis)

-- ---- single members

unfoldable pub count_members : List ℕ → ℕ → List Member
count_members key n = (key, count_json n) ∷ []

unfoldable pub amount_members : List ℕ → ℤ → List Member
amount_members key millis = (key, amount_json millis) ∷ []

unfoldable pub string_members : List ℕ → List ℕ → List Member
string_members key value = (key, json.string value) ∷ []

-- the name of a code that has one
abbrev pub name_members : List ℕ → Option (List ℕ) → List Member
name_members key None = []
name_members key (Some name) = string_members key name

-- ---- the limits of a monitor

unfoldable pub alarm_members : PerLimit ℤ → List Member
alarm_members levels =
    amount_members (codes "high_alarm") levels.high_alarm ++ amount_members (codes "low_alarm") levels.low_alarm

unfoldable pub warning_members : PerLimit ℤ → List Member
warning_members levels =
    amount_members (codes "high_warning") levels.high_warning ++ amount_members (codes "low_warning") levels.low_warning

unfoldable pub limits_json : PerLimit ℤ → Json
limits_json levels = object_of (alarm_members levels ++ warning_members levels)

-- ---- states by their codes

abbrev pub module_state_name : ℕ → Option (List ℕ)
module_state_name n = option_map module_names.name_of (module_codes.state_at n)

abbrev pub path_state_name : ℕ → Option (List ℕ)
path_state_name n = option_map path_names.name_of (path_codes.state_at n)

abbrev pub config_status_name : ℕ → Option (List ℕ)
config_status_name n = option_map status_name (status_at n)

unfoldable pub state_members : List ℕ → ℕ → List Member
state_members name n =
    count_members (snake name) n ++ name_members (key_in name (codes "name")) (module_state_name n)

unfoldable pub path_state_members : ℕ → List Member
path_state_members n =
    count_members (codes "path_state") n ++ name_members (codes "path_state_name") (path_state_name n)

unfoldable pub config_status_members : ℕ → List Member
config_status_members n =
    count_members (codes "config_status") n ++ name_members (codes "config_status_name") (config_status_name n)

unfoldable pub lane_state_json : LaneState → Json
lane_state_json s = object_of (path_state_members s.path ++ config_status_members s.status)

-- ---- flags

abbrev pub lane_members : Option ℕ → List Member
lane_members None = []
lane_members (Some lane) = count_members (codes "lane") lane

unfoldable pub flag_json : Flag → Json
flag_json f = object_of (string_members (codes "name") (flag_name f.name) ++ lane_members f.lane)

-- ---- Applications

unfoldable pub kind_members : App → List Member
kind_members app =
    count_members (codes "number") app.number
    ++ (count_members (codes "host") app.host_id ++ count_members (codes "media") app.media_id)

unfoldable pub lanes_members : App → List Member
lanes_members app =
    count_members (codes "host_lanes") app.host_lanes ++ count_members (codes "media_lanes") app.media_lanes

unfoldable pub starts_members : App → List Member
starts_members app =
    count_members (codes "host_starts") (byte_of app.host_starts)
    ++ count_members (codes "media_starts") (byte_of app.media_starts)

unfoldable pub usable_members : App → List Member
usable_members app = (codes "usable", json.boolean (is_usable app)) ∷ []

unfoldable pub app_json : App → Json
app_json app = object_of (kind_members app ++ (lanes_members app ++ (starts_members app ++ usable_members app)))

-- ---- arrays

unfoldable pub amounts_json : List ℤ → Json
amounts_json values = array_of (map amount_json values)

unfoldable pub lane_states_json : List LaneState → Json
lane_states_json states = array_of (map lane_state_json states)

unfoldable pub flags_json : List Flag → Json
flags_json raised = array_of (map flag_json raised)

unfoldable pub apps_json : List App → Json
apps_json listed = array_of (map app_json listed)

-- ---- facts

abbrev pub place_key : Place → List ℕ
place_key Module = []
place_key (Lane n) = codes "_lane_" ++ decimal n
place_key (of_app n) = codes "_app_" ++ decimal n

-- `rx_power_lane_1`
unfoldable pub fact_key : List ℕ → Place → List ℕ
fact_key name place = snake name ++ place_key place

-- `rx_power_lane_1_dbm`
unfoldable pub fact_key_in : List ℕ → Place → List ℕ → List ℕ
fact_key_in name place behind = snake name ++ (place_key place ++ 95 ∷ behind)

-- a code, and its name if it has one
unfoldable pub coded_members : List ℕ → Place → ℕ → Option (List ℕ) → List Member
coded_members name place n title = (fact_key name place, count_json n) ∷ name_members (fact_key_in name place (codes "name")) title

abbrev pub string_json : List ℕ → Json
string_json written = json.string written

-- of a text of the code
abbrev pub shown_json : facts.Str → Json
shown_json s = string_json s.now

unfoldable pub names_json : List (List ℕ) → Json
names_json names = array_of (map string_json names)

unfoldable pub fact_members : List ℕ → Place → Fact → List Member
fact_members name place (facts.word w) = (fact_key name place, json.string w) ∷ []
fact_members name place (facts.yes b) = (fact_key name place, json.boolean b) ∷ []
fact_members name place (facts.number n) = (fact_key name place, count_json n) ∷ []
fact_members name place (facts.named n title) = coded_members name place n (Some title)
fact_members name place (facts.names list) = (fact_key name place, names_json list) ∷ []
fact_members name place (facts.revision byte) = (fact_key name place, json.string (shown.revision byte)) ∷ []
fact_members name place (facts.version major minor) = (fact_key name place, json.string (version_text major minor)) ∷ []
fact_members name place (facts.text bytes) = (fact_key name place, json.string (printable bytes)) ∷ []
fact_members name place (facts.oui bytes) = (fact_key name place, json.string (encode_lower bytes)) ∷ []
fact_members name place (facts.amount millis unit) = (fact_key_in name place (unit_key unit), amount_json millis) ∷ []
fact_members name place (facts.level power) = (fact_key_in name place (codes "dbm"), scalar_json (level_text power)) ∷ []
fact_members name place (facts.milliwatts power) = (fact_key name place, scalar_json (milliwatts_text power)) ∷ []
fact_members name place (facts.lane_set set) = (fact_key name place, count_json (byte_of set)) ∷ []
fact_members name place (facts.module_state n) = coded_members name place n (module_state_name n)
fact_members name place (facts.path_state n) = coded_members name place n (path_state_name n)
fact_members name place (facts.config_status n) = coded_members name place n (config_status_name n)

-- ---- entries

unfoldable pub content_members : List ℕ → Content → List Member
content_members name (word w) = (snake name, json.string w) ∷ []
content_members name (right is_right) = (key_in name (codes "right"), json.boolean is_right) ∷ []
content_members name (number n) = (snake name, count_json n) ∷ []
content_members name (code byte) = (snake name, count_json byte) ∷ []
content_members name (revision byte) = (snake name, json.string (shown.revision byte)) ∷ []
content_members name (text bytes) = (snake name, json.string (printable bytes)) ∷ []
content_members name (oui bytes) = (snake name, json.string (encode_lower bytes)) ∷ []
content_members name (amount millis unit) = (key_in name (unit_key unit), amount_json millis) ∷ []
content_members name (lanes values unit) = (key_in name (unit_key unit), amounts_json values) ∷ []
content_members name (limits levels unit) = (key_in name (unit_key unit), limits_json levels) ∷ []
content_members name (state n) = state_members name n
content_members name (lane_states states) = (snake name, lane_states_json states) ∷ []
content_members name (flags raised) = (snake name, flags_json raised) ∷ []
content_members name (apps listed) = (snake name, apps_json listed) ∷ []
content_members name (lane_set set) = (snake name, count_json (byte_of set)) ∷ []
content_members name (fact place f) = fact_members name place f

abbrev pub entry_members : Entry → List Member
entry_members e = content_members e.name e.content

abbrev pub entries_members : List Entry → List Member
entries_members entries = flat_map entry_members entries

-- ---- reports

-- the version of the form
unfoldable pub form_members : List Member
form_members = count_members (codes "dovecounter") 1

abbrev pub report_json : List Entry → Json
report_json entries = object_of (form_members ++ entries_members entries)

-- a value in lines, each of which ends in LF
abbrev pub json_text : Json → List ℕ
json_text j = pretty (json_tokens j) ++ 10 ∷ []

-- the text of this value; without its last LF, the grammar reads it back as the value
pub record IsJsonText (j : Json) (written : List ℕ) : Type 0 where
  pub spelled : written ≡ json_text j
  pub reads_back : document (pretty (json_tokens j)) ≡ Some j
