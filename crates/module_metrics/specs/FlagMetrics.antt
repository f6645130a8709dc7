-- The metrics of flags: those of the module and those of lanes, and how many of each are raised. (docs/formats.md, "Metrics";
-- this project's own)
use Rattle.std.specs.Prelude.{ℕ, ℤ, pos, Bool, true, false, not, is_some, if◌then◌else◌, length, List, [], ◌∷◌, map, filter, Option, Some, None, codes}
use Rattle.std.specs.Fmt.{decimal}
use Rattle.report_entries.specs.declared.flag.Flag.{Flag}
use Rattle.report_entries.specs.FlagNames.{flag_name}
use Rattle.report_entries.specs.Flags.{raised}
use Rattle.module_metrics.specs.Exposition.{Label, Metric, Sample, label, metric, sample}

-- 1 if it holds, else 0
abbrev pub truth : Bool → ℤ
truth holds = if holds then pos 1 else pos 0

-- ---- samples

abbrev pub lane_labels : Option ℕ → List Label
lane_labels None = []
lane_labels (Some lane) = label (codes "lane") (decimal lane) ∷ []

unfoldable pub flag_sample : Flag × Bool → Sample
flag_sample f = sample (label (codes "flag") (flag_name f.0.name) ∷ lane_labels f.0.lane) (truth f.1) 0

-- of these flags, those of lanes or those of the module
abbrev pub is_in : Bool → Flag × Bool → Bool
is_in lanes f = if lanes then is_some f.0.lane else not (is_some f.0.lane)

abbrev pub flags_in : Bool → List (Flag × Bool) → List (Flag × Bool)
flags_in lanes flags = filter (is_in lanes) flags

-- ---- metrics

unfoldable pub count_name : Bool → List ℕ
count_name lanes = if lanes then codes "dovecounter_lane_raised_flags" else codes "dovecounter_module_raised_flags"

unfoldable pub count_help : Bool → List ℕ
count_help lanes = if lanes then codes "number of raised flags of lanes" else codes "number of raised flags of the module"

unfoldable pub flags_name : Bool → List ℕ
flags_name lanes = if lanes then codes "dovecounter_lane_flag_raised" else codes "dovecounter_module_flag_raised"

unfoldable pub flags_help : Bool → List ℕ
flags_help lanes = if lanes then codes "whether a flag of a lane is raised" else codes "whether a flag of the module is raised"

unfoldable pub count_metric : Bool → List (Flag × Bool) → Metric
count_metric lanes flags =
    metric (count_name lanes) (count_help lanes) (sample [] (pos (length (raised (flags_in lanes flags)))) 0 ∷ [])

unfoldable pub flags_metric : Bool → List (Flag × Bool) → Metric
flags_metric lanes flags = metric (flags_name lanes) (flags_help lanes) (map flag_sample (flags_in lanes flags))

-- of the module, then of lanes
abbrev pub flag_metrics : List (Flag × Bool) → List Metric
flag_metrics flags =
    count_metric false flags ∷ flags_metric false flags ∷ count_metric true flags ∷ flags_metric true flags ∷ []

-- those that are raised
abbrev pub each_raised : List Flag → List (Flag × Bool)
each_raised flags = map (λ (f : Flag). (f, true)) flags
