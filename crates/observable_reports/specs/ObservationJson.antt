-- The JSON of what a module measures: an object for each observation, in the order of the list. (docs/formats.md, "observables" and
-- "JSON"; this project's own)
use Rattle.std.specs.Prelude.{ℕ, Bool, List, [], ◌∷◌, ◌++◌, map, codes, Option, Some, None, option_map}
use Rattle.json.specs.Json as json
use Rattle.json.specs.Json.{Json}
use Rattle.field_tables.specs.declared.readings.PerLimit.{PerLimit}
use Rattle.paged_memory.specs.declared.key.Key.{Key}
use Rattle.observables.specs.declared.amount.Amount.{Amount}
use Rattle.observables.specs.declared.observation.Observation.{Observation}
use Rattle.observables.specs.declared.observation.Subject.{Subject}
use Rattle.observables.specs.declared.quantity.Format.{Format}
use Rattle.observables.specs.Names.{figure_name, lane_of, quantity_name, scope_name, unit_name}
use Rattle.report_entries.specs.EntryJson.{count_members, form_members, string_members}
use Rattle.report_entries.specs.JsonScalars.{scalar_json}
use Rattle.report_entries.specs.JsonTrees.{Member, array_of, object_of}
use Rattle.observable_reports.specs.declared.amount_text.ShownAmount.{ShownAmount}
use Rattle.observable_reports.specs.AmountTexts as amounts
use Rattle.observable_reports.specs.AmountTexts.{shown_as}
use Rattle.observable_reports.specs.ObservationText.{format_of}

-- ---- amounts and flags

-- nothing of an amount that is not known
unfoldable pub known_members : List ℕ → Option ShownAmount → List Member
known_members key None = []
known_members key (Some amount) = (key, scalar_json (amounts.text_of amount)) ∷ []

abbrev pub level_members : List ℕ → Format → Option Amount → List Member
level_members key format level = known_members key (option_map (shown_as format) level)

unfoldable pub alarm_members : Format → PerLimit (Option Amount) → List Member
alarm_members format levels =
    level_members (codes "high_alarm") format levels.high_alarm ++ level_members (codes "low_alarm") format levels.low_alarm

unfoldable pub warning_members : Format → PerLimit (Option Amount) → List Member
warning_members format levels =
    level_members (codes "high_warning") format levels.high_warning ++ level_members (codes "low_warning") format levels.low_warning

unfoldable pub limits_json : Format → PerLimit (Option Amount) → Json
limits_json format levels = object_of (alarm_members format levels ++ warning_members format levels)

unfoldable pub flag_members : List ℕ → Bool → List Member
flag_members key value = (key, json.boolean value) ∷ []

unfoldable pub flag_alarms : PerLimit Bool → List Member
flag_alarms flags = flag_members (codes "high_alarm") flags.high_alarm ++ flag_members (codes "low_alarm") flags.low_alarm

unfoldable pub flag_warnings : PerLimit Bool → List Member
flag_warnings flags = flag_members (codes "high_warning") flags.high_warning ++ flag_members (codes "low_warning") flags.low_warning

unfoldable pub flags_json : PerLimit Bool → Json
flags_json flags = object_of (flag_alarms flags ++ flag_warnings flags)

-- nothing of flags that are not known
unfoldable pub flags_members : Option (PerLimit Bool) → List Member
flags_members None = []
flags_members (Some flags) = (codes "flags", flags_json flags) ∷ []

-- ---- an observation

unfoldable pub what_members : Observation → List Member
what_members seen =
    string_members (codes "name") (quantity_name seen.observable.quantity) ++ string_members (codes "figure") (figure_name seen.observable.figure)

-- by its number a lane, or a data path by its first lane
abbrev pub numbered_members : Option ℕ → List Member
numbered_members None = []
numbered_members (Some number) = count_members (codes "number") number

abbrev pub number_members : Subject → List Member
number_members subject = numbered_members (lane_of subject)

unfoldable pub place_members : Observation → List Member
place_members seen = string_members (codes "scope") (scope_name seen.subject seen.observable.side) ++ number_members seen.subject

unfoldable pub amount_members : Format → Observation → List Member
amount_members format seen = level_members (codes "amount") format seen.amount ++ string_members (codes "unit") (unit_name seen.unit)

unfoldable pub bound_members : Format → Observation → List Member
bound_members format seen = (codes "limits", limits_json format seen.limits) ∷ flags_members seen.flags

unfoldable pub advert_members : Bool → List Member
advert_members advertised = flag_members (codes "advertised") advertised

-- what is measured, where and how much
unfoldable pub measured_members : Observation → List Member
measured_members seen = what_members seen ++ (place_members seen ++ amount_members (format_of seen) seen)

-- its limits and flags, and whether it is advertised
unfoldable pub bounded_members : Observation → List Member
bounded_members seen = bound_members (format_of seen) seen ++ advert_members seen.advertised

unfoldable pub observation_json : Observation → Json
observation_json seen = object_of (measured_members seen ++ bounded_members seen)

-- ---- the list

unfoldable pub observations_json : List Observation → Json
observations_json seen = array_of (map observation_json seen)

unfoldable pub array_members : List ℕ → List Observation → List Member
array_members key seen = (key, observations_json seen) ∷ []

unfoldable pub list_members : List Observation → List Member
list_members seen = array_members (codes "observables") seen

-- the page that is needed and not there
abbrev pub absent_members : Option Key → List Member
absent_members None = []
absent_members (Some key) = count_members (codes "absent_page") key.page

abbrev pub report_members : List Observation → Option Key → List Member
report_members seen absent = list_members seen ++ absent_members absent

abbrev pub observables_json : List Observation → Option Key → Json
observables_json seen absent = object_of (form_members ++ report_members seen absent)
