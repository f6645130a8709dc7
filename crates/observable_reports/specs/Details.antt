-- All that a module says of itself: what stands at fixed places, then a line or a member for each instance that it advertises (VDM) and whose
-- amount is known. (docs/formats.md, "details"; this project's own)
use Rattle.std.specs.Prelude.{ℕ, Bool, true, false, List, [], ◌∷◌, ◌++◌, codes, Option, Some, None, option_map}
use Rattle.std.specs.Fmt.{decimal}
use Rattle.std.specs.List.{flat_map}
use Rattle.json.specs.Json.{Json}
use Rattle.text_lines.specs.Lines.{text_of}
use Rattle.observables.specs.Names.{figure_name, quantity_name, unit_name}
use Rattle.observables.specs.declared.observation.Observation.{Observation}
use Rattle.observables.specs.declared.quantity.Unit.{Unit}
use Rattle.observables.specs.declared.quantity.Unit.TheVariants as units
use Rattle.paged_memory.specs.Images.{Memory}
use Rattle.report_entries.specs.Entries.{Entry}
use Rattle.report_entries.specs.EntryJson.{entries_members, form_members, json_text, key_in}
use Rattle.report_entries.specs.EntryText.{entries_lines}
use Rattle.report_entries.specs.FactText.{in_unit}
use Rattle.report_entries.specs.JsonScalars.{scalar_json}
use Rattle.report_entries.specs.JsonTrees.{Member, object_of}
use Rattle.report_entries.specs.Lines.{line}
use Rattle.reports.specs.Details.{details_entries}
use Rattle.observable_reports.specs.AmountTexts as amounts
use Rattle.observable_reports.specs.AmountTexts.{shown_as}
use Rattle.observable_reports.specs.ListedInstances.{all_listed}
use Rattle.observable_reports.specs.ObservationText.{format_of, place_text}
use Rattle.observable_reports.specs.declared.amount_text.ShownAmount.{ShownAmount}
use Rattle.observable_reports.specs.declared.listed_instances.Seen.{Seen}

-- ---- names

-- what is measured and where, as observables have it
unfoldable pub observed_name : Observation → List ℕ
observed_name seen =
    quantity_name seen.observable.quantity ++ 45 ∷ figure_name seen.observable.figure ++ 45 ∷ place_text seen.subject seen.observable.side

-- `vdm-pre-fec-ber-average-media-path-5-instance-131`
unfoldable pub instance_key : Seen → List ℕ
instance_key seen = codes "vdm-" ++ observed_name seen.observation ++ codes "-instance-" ++ decimal seen.number

-- a unit as it stands at the end of a name in JSON
unfoldable pub unit_key : Unit → List ℕ
unit_key units.Percent = codes "percent"
unit_key units.Ratio = codes "ratio"
unit_key units.Frames = codes "frames"
unit_key units.Celsius = codes "c"
unit_key units.Volts = codes "v"
unit_key units.Milliamperes = codes "ma"
unit_key units.Milliwatts = codes "mw"
unit_key units.DecibelMilliwatts = codes "dbm"
unit_key units.Decibel = codes "db"
unit_key units.Megahertz = codes "mhz"
unit_key units.Picoseconds = codes "ps"
unit_key units.SquarePicoseconds = codes "ps2"
unit_key units.PicosecondsPerNanometre = codes "ps_per_nm"
unit_key units.KiloradiansPerSecond = codes "krad_per_s"

-- ---- an instance

-- its amount, if that is known
abbrev pub amount_seen : Seen → Option ShownAmount
amount_seen seen = option_map (shown_as (format_of seen.observation)) seen.observation.amount

unfoldable pub instance_line : Seen → ShownAmount → List ℕ
instance_line seen amount = line (instance_key seen) (in_unit (amounts.text_of amount) (unit_name seen.observation.unit))

abbrev pub known_lines : Seen → Option ShownAmount → List (List ℕ)
known_lines seen None = []
known_lines seen (Some amount) = instance_line seen amount ∷ []

abbrev pub instance_lines : Seen → List (List ℕ)
instance_lines seen = known_lines seen (amount_seen seen)

unfoldable pub amount_members : Seen → ShownAmount → List Member
amount_members seen amount = (key_in (instance_key seen) (unit_key seen.observation.unit), scalar_json (amounts.text_of amount)) ∷ []

abbrev pub known_members : Seen → Option ShownAmount → List Member
known_members seen None = []
known_members seen (Some amount) = amount_members seen amount

abbrev pub instance_members : Seen → List Member
instance_members seen = known_members seen (amount_seen seen)

-- ---- the whole, by what stands at fixed places and the instances

unfoldable pub instances_lines : List Seen → List (List ℕ)
instances_lines seen = flat_map instance_lines seen

unfoldable pub instances_members : List Seen → List Member
instances_members seen = flat_map instance_members seen

abbrev pub lines_with : List Entry → List Seen → List (List ℕ)
lines_with entries seen = entries_lines entries ++ instances_lines seen

abbrev pub members_with : List Entry → List Seen → List Member
members_with entries seen = entries_members entries ++ instances_members seen

abbrev pub json_with : List Entry → List Seen → Json
json_with entries seen = object_of (form_members ++ members_with entries seen)

-- as JSON or as text
abbrev pub printed_with : Bool → List Entry → List Seen → List ℕ
printed_with true entries seen = json_text (json_with entries seen)
printed_with false entries seen = text_of (lines_with entries seen)

-- ---- of a module

abbrev pub details_lines : Memory → List (List ℕ)
details_lines memory = lines_with (details_entries memory) (all_listed memory)

abbrev pub details_json : Memory → Json
details_json memory = json_with (details_entries memory) (all_listed memory)

abbrev pub details_text : Bool → Memory → List ℕ
details_text json memory = printed_with json (details_entries memory) (all_listed memory)
