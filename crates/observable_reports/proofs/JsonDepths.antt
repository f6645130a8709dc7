-- How deep the JSON of what a module measures nests.
use Rattle.std.proofs.Common.{ℕ, Bool, true, false, List, ◌++◌, ◌≤◌, if◌then◌else◌, Option, Some, None, codes, arith}
use Rattle.field_tables.specs.declared.readings.PerLimit.{PerLimit}
use Rattle.json.specs.Json as json
use Rattle.json.specs.Json.{max_depth}
use Rattle.json.specs.Tree.{depth, members_depth}
use Rattle.json.specs.Word.{after_number}
use Rattle.paged_memory.specs.declared.key.Key.{Key}
use Rattle.observables.specs.declared.amount.Amount.{Amount}
use Rattle.observables.specs.declared.observation.Observation.{Observation}
use Rattle.observables.specs.declared.quantity.Format.{Format}
use Rattle.report_entries.specs.EntryJson.{form_members, string_members}
use Rattle.report_entries.specs.JsonScalars.{is_read, scalar_json}
use Rattle.report_entries.specs.JsonTrees.{Member, members_of, object_of}
use Rattle.report_entries.proofs.JsonTokens.{all_deep, count_depth, deep, form_depth}
use Rattle.observable_reports.specs.declared.amount_text.ShownAmount.{ShownAmount}
use Rattle.observable_reports.specs.AmountTexts.{text_of}
use Rattle.observables.specs.Names.{lane_of, unit_name}
use Rattle.observable_reports.specs.ObservationJson.{absent_members, advert_members, alarm_members, amount_members, array_members, bound_members, bounded_members, flag_alarms, flag_members, flag_warnings, flags_json, flags_members, known_members, level_members, limits_json, list_members, measured_members, numbered_members, observation_json, observations_json, place_members, report_members, warning_members, what_members}
use Rattle.observable_reports.specs.ObservationText.{format_of}

-- after the version of the form
pub document_depth : (members : List Member) → members_depth (members_of members) ≤ 8 → depth (object_of (form_members ++ members)) ≤ max_depth
document_depth members shallow = omega (arith, deep form_members members 8 (omega (arith, form_depth)) shallow)

either_depth : (is_number : Bool) (written : List ℕ) → depth (if is_number then json.number written else json.string written) ≤ 1
either_depth true written = omega arith
either_depth false written = omega arith

pub scalar_depth : (written : List ℕ) → depth (scalar_json written) ≤ 1
unfolding scalar_json
scalar_depth written = either_depth (is_read (after_number written)) written

known_depth : (key : List ℕ) (amount : Option ShownAmount) → members_depth (members_of (known_members key amount)) ≤ 1
unfolding known_members
known_depth key None = omega arith
known_depth key (Some amount) = omega (arith, scalar_depth (text_of amount))

level_depth : (key : List ℕ) (format : Format) (level : Option Amount) → members_depth (members_of (level_members key format level)) ≤ 1
level_depth key format None = known_depth key None
level_depth key format (Some amount) = known_depth key _

limits_depth : (format : Format) (levels : PerLimit (Option Amount)) → depth (limits_json format levels) ≤ 2
unfolding limits_json alarm_members warning_members
limits_depth format levels =
    let alarms = deep (level_members (codes "high_alarm") format levels.high_alarm) (level_members (codes "low_alarm") format levels.low_alarm) 1
    (level_depth (codes "high_alarm") format levels.high_alarm) (level_depth (codes "low_alarm") format levels.low_alarm) in
    let warnings = deep (level_members (codes "high_warning") format levels.high_warning) (level_members (codes "low_warning") format levels.low_warning) 1
    (level_depth (codes "high_warning") format levels.high_warning) (level_depth (codes "low_warning") format levels.low_warning) in
    omega (arith, deep (alarm_members format levels) (warning_members format levels) 1 alarms warnings)

flags_depth : (flags : Option (PerLimit Bool)) → members_depth (members_of (flags_members flags)) ≤ 1
unfolding flags_members flags_json flag_alarms flag_warnings flag_members
flags_depth None = omega arith
flags_depth (Some flags) = omega arith

what_depth : (seen : Observation) → members_depth (members_of (what_members seen)) ≤ 1
unfolding what_members string_members
what_depth seen = omega arith

numbered_depth : (number : Option ℕ) → members_depth (members_of (numbered_members number)) ≤ 1
numbered_depth None = omega arith
numbered_depth (Some number) = omega (arith, count_depth (codes "number") number)

place_depth : (seen : Observation) → members_depth (members_of (place_members seen)) ≤ 1
unfolding place_members string_members
place_depth seen = omega (arith, numbered_depth (lane_of seen.subject))

unit_depth : (unit : List ℕ) → members_depth (members_of (string_members (codes "unit") unit)) ≤ 1
unfolding string_members
unit_depth unit = omega arith

amount_depth : (format : Format) (seen : Observation) → members_depth (members_of (amount_members format seen)) ≤ 1
unfolding amount_members
amount_depth format seen =
    deep (level_members (codes "amount") format seen.amount) (string_members (codes "unit") (unit_name seen.unit)) 1 (level_depth (codes "amount") format seen.amount) (unit_depth (unit_name seen.unit))

bound_depth : (format : Format) (seen : Observation) → members_depth (members_of (bound_members format seen)) ≤ 2
unfolding bound_members
bound_depth format seen = omega (arith, limits_depth format seen.limits, flags_depth seen.flags)

advert_depth : (advertised : Bool) → members_depth (members_of (advert_members advertised)) ≤ 2
unfolding advert_members flag_members
advert_depth advertised = omega arith

measured_depth : (seen : Observation) → members_depth (members_of (measured_members seen)) ≤ 2
unfolding measured_members
measured_depth seen =
    let format = format_of seen in
    let last = deep (place_members seen) (amount_members format seen) 2 (omega (arith, place_depth seen)) (omega (arith, amount_depth format seen)) in
    deep (what_members seen) (place_members seen ++ amount_members format seen) 2 (omega (arith, what_depth seen)) last

bounded_depth : (seen : Observation) → members_depth (members_of (bounded_members seen)) ≤ 2
unfolding bounded_members
bounded_depth seen = deep (bound_members (format_of seen) seen) (advert_members seen.advertised) 2 (bound_depth (format_of seen) seen) (advert_depth seen.advertised)

observation_depth : (seen : Observation) → depth (observation_json seen) ≤ 3
unfolding observation_json
observation_depth seen = omega (arith, deep (measured_members seen) (bounded_members seen) 2 (measured_depth seen) (bounded_depth seen))

list_depth : (seen : List Observation) → members_depth (members_of (list_members seen)) ≤ 4
unfolding list_members array_members observations_json
list_depth seen = omega (arith, all_deep observation_json 3 observation_depth seen)

absent_depth : (absent : Option Key) → members_depth (members_of (absent_members absent)) ≤ 4
absent_depth None = omega arith
absent_depth (Some key) = omega (arith, count_depth (codes "absent_page") key.page)

pub report_depth : (seen : List Observation) (absent : Option Key) → members_depth (members_of (report_members seen absent)) ≤ 8
report_depth seen absent = omega (arith, deep (list_members seen) (absent_members absent) 4 (list_depth seen) (absent_depth absent))
