-- The text of what a module measures: a line for each observation, in the order of the list, and one for a page that is
-- needed and not there. (docs/formats.md, "observables"; this project's own)
use Rattle.std.specs.Prelude.{ℕ, Bool, if◌then◌else◌, List, [], ◌∷◌, ◌++◌, length, map, codes, Option, Some, None, option_map}
use Rattle.std.specs.Fmt.{decimal}
use Rattle.std.specs.Option.{option_map_or}
use Rattle.field_tables.specs.declared.readings.PerLimit.{PerLimit}
use Rattle.paged_memory.specs.declared.key.Key.{Key}
use Rattle.paged_memory.specs.Images.{Memory}
use Rattle.observables.specs.declared.amount.Amount.{Amount}
use Rattle.observables.specs.declared.observable.Side.{Side}
use Rattle.observables.specs.declared.observation.Observation.{Observation}
use Rattle.observables.specs.declared.observation.Subject.{Subject}
use Rattle.observables.specs.declared.quantity.Format.{Format}
use Rattle.observables.specs.Names.{figure_name, lane_of, quantity_name, scope_name, unit_name}
use Rattle.observables.specs.Observations.{all_places, observations_before}
use Rattle.observables.specs.Pages.{absent_page}
use Rattle.observables.specs.Quantities.{quantity_row}
use Rattle.report_entries.specs.Lines.{line}
use Rattle.report_entries.specs.Shown.{byte_code}
use Rattle.observable_reports.specs.declared.amount_text.ShownAmount.{ShownAmount}
use Rattle.observable_reports.specs.AmountTexts as amounts
use Rattle.observable_reports.specs.AmountTexts.{shown_as}
use Rattle.observable_reports.specs.OwnHalves.{own_halves}

-- ---- the words of a line

unfoldable pub known_text : Option ShownAmount → List ℕ
known_text None = codes "unknown"
known_text (Some amount) = amounts.text_of amount

unfoldable pub place_text : Subject → Side → List ℕ
place_text subject side = option_map_or (λ number. scope_name subject side ++ 45 ∷ decimal number) (lane_of subject) (scope_name subject side)

abbrev pub level_text : Format → Option Amount → List ℕ
level_text format level = known_text (option_map (shown_as format) level)

-- alarms before warnings, and of both high before low
unfoldable pub levels_text : Format → PerLimit (Option Amount) → List ℕ
levels_text format levels =
    level_text format levels.high_alarm ++ 32 ∷ level_text format levels.low_alarm
    ++ 32 ∷ level_text format levels.high_warning ++ 32 ∷ level_text format levels.low_warning

unfoldable pub flag_word : Bool → List ℕ
flag_word raised = if raised then codes "yes" else codes "no"

-- in the order of the limits
unfoldable pub flags_text : Option (PerLimit Bool) → List ℕ
flags_text None = codes "unknown unknown unknown unknown"
flags_text (Some flags) =
    flag_word flags.high_alarm ++ 32 ∷ flag_word flags.low_alarm ++ 32 ∷ flag_word flags.high_warning ++ 32 ∷ flag_word flags.low_warning

-- how its words count
unfoldable pub format_of : Observation → Format
format_of seen = (quantity_row seen.observable.quantity).format

-- whether the module says that it measures something
unfoldable pub advert_word : Bool → List ℕ
advert_word advertised = if advertised then codes "advertised" else codes "unadvertised"

-- what is measured, where and how much
unfoldable pub measured_text : Observation → List ℕ
measured_text seen =
    figure_name seen.observable.figure ++ 32 ∷ place_text seen.subject seen.observable.side
    ++ 32 ∷ level_text (format_of seen) seen.amount ++ 32 ∷ unit_name seen.unit

-- its limits and flags, and whether it is advertised
unfoldable pub bounds_text : Observation → List ℕ
bounds_text seen =
    codes "limits " ++ levels_text (format_of seen) seen.limits ++ codes " flags " ++ flags_text seen.flags ++ 32 ∷ advert_word seen.advertised

unfoldable pub observation_text : Observation → List ℕ
observation_text seen = measured_text seen ++ 32 ∷ bounds_text seen

-- ---- lines

unfoldable pub observation_line : Observation → List ℕ
observation_line seen = line (quantity_name seen.observable.quantity) (observation_text seen)

-- all that is measured, in the order of the list
abbrev pub observed : Memory → List Observation
observed memory = observations_before memory all_places

unfoldable pub count_line : ℕ → List ℕ
count_line count = line (codes "observables") (decimal count)

unfoldable pub absent_line : Key → List ℕ
absent_line key = line (codes "absent-page") (byte_code key.page)

abbrev pub absent_lines : Option Key → List (List ℕ)
absent_lines None = []
absent_lines (Some key) = absent_line key ∷ []

abbrev pub lines_with : List Observation → Option Key → List (List ℕ)
lines_with seen absent = (count_line (length seen) ∷ map observation_line seen) ++ absent_lines absent

-- of the halves that the module has
abbrev pub observables_lines : Memory → List (List ℕ)
observables_lines memory = lines_with (observed (own_halves memory)) (absent_page (own_halves memory) 0)
