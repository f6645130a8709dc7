-- What the reports of a module say, as metrics. (docs/formats.md, "Metrics"; this project's own)
use Rattle.std.specs.Prelude.{ℕ, pos, Bool, if◌then◌else◌, List, [], ◌∷◌, ◌++◌, Option, Some, None, codes}
use Rattle.std.specs.Fmt.{decimal}
use Rattle.std.specs.List.{flat_map}
use Rattle.hex.specs.Hex.{encode_lower}
use Rattle.report_entries.specs.declared.flag.Flag.{Flag}
use Rattle.report_entries.specs.Entries.{Entry, Content, word, right, number, code, revision, text, oui, amount, lanes, limits, state, lane_states, flags, apps, lane_set, fact}
use Rattle.report_entries.specs.Shown as shown
use Rattle.report_entries.specs.Shown.{byte_code, printable}
use Rattle.module_metrics.specs.Amounts.{lanes_metric, limits_metric, module_metric}
use Rattle.module_metrics.specs.Exposition.{Label, Metric, Sample, label, metric, sample}
use Rattle.module_metrics.specs.FlagMetrics.{each_raised, flag_metrics, truth}
use Rattle.module_metrics.specs.MetricNames.{snake}
use Rattle.module_metrics.specs.StateMetrics.{paths_metric, state_metric, statuses_metric}

-- ---- what the module is: one sample, whose labels have all that is a text or a number

unfoldable pub content_labels : List ℕ → Content → List Label
content_labels name (word w) = label (snake name) w ∷ []
content_labels name (number n) = label (snake name) (decimal n) ∷ []
content_labels name (code byte) = label (snake name) (byte_code byte) ∷ []
content_labels name (revision byte) = label (snake name) (shown.revision byte) ∷ []
content_labels name (text bytes) = label (snake name) (printable bytes) ∷ []
content_labels name (oui bytes) = label (snake name) (encode_lower bytes) ∷ []
content_labels name (right is_right) = []
content_labels name (amount millis unit) = []
content_labels name (lanes values unit) = []
content_labels name (limits levels unit) = []
content_labels name (state n) = []
content_labels name (lane_states states) = []
content_labels name (flags raised) = []
content_labels name (apps listed) = []
content_labels name (lane_set set) = []
content_labels name (fact place f) = []

abbrev pub entry_labels : Entry → List Label
entry_labels e = content_labels e.name e.content

abbrev pub info_labels : List Entry → List Label
info_labels entries = flat_map entry_labels entries

-- none if there is no such report
abbrev pub info_samples : List Entry → List Sample
info_samples [] = []
info_samples (e ∷ es) = sample (info_labels (e ∷ es)) (pos 1) 0 ∷ []

unfoldable pub info_name : List ℕ
info_name = codes "dovecounter_module_info"

unfoldable pub info_help : List ℕ
info_help = codes "what the module says that it is"

unfoldable pub info_metric : List Entry → Metric
info_metric entries = metric info_name info_help (info_samples entries)

-- ---- sums

unfoldable pub content_sums : List ℕ → Content → List Sample
content_sums name (right is_right) = sample (label (codes "sum") name ∷ []) (truth is_right) 0 ∷ []
content_sums name (word w) = []
content_sums name (number n) = []
content_sums name (code byte) = []
content_sums name (revision byte) = []
content_sums name (text bytes) = []
content_sums name (oui bytes) = []
content_sums name (amount millis unit) = []
content_sums name (lanes values unit) = []
content_sums name (limits levels unit) = []
content_sums name (state n) = []
content_sums name (lane_states states) = []
content_sums name (flags raised) = []
content_sums name (apps listed) = []
content_sums name (lane_set set) = []
content_sums name (fact place f) = []

abbrev pub entry_sums : Entry → List Sample
entry_sums e = content_sums e.name e.content

unfoldable pub sums_name : List ℕ
sums_name = codes "dovecounter_module_checksum_right"

unfoldable pub sums_help : List ℕ
sums_help = codes "whether a sum of the module's memory is right"

unfoldable pub sums_metric : List Entry → Metric
sums_metric entries = metric sums_name sums_help (flat_map entry_sums entries)

-- ---- the metrics of an entry by itself

-- each flag, if that is asked for, else those that are raised
abbrev pub shown_flags : Bool → List (Flag × Bool) → List Flag → List (Flag × Bool)
shown_flags all each_flag raised = if all then each_flag else each_raised raised

unfoldable pub content_metrics : Bool → List (Flag × Bool) → List ℕ → Content → List Metric
content_metrics all each_flag name (amount millis unit) = module_metric name unit millis ∷ []
content_metrics all each_flag name (lanes values unit) = lanes_metric name unit values ∷ []
content_metrics all each_flag name (limits levels unit) = limits_metric name unit levels ∷ []
content_metrics all each_flag name (state n) = state_metric name n ∷ []
content_metrics all each_flag name (lane_states states) = paths_metric states ∷ statuses_metric states ∷ []
content_metrics all each_flag name (flags raised) = flag_metrics (shown_flags all each_flag raised)
content_metrics all each_flag name (word w) = []
content_metrics all each_flag name (right is_right) = []
content_metrics all each_flag name (number n) = []
content_metrics all each_flag name (code byte) = []
content_metrics all each_flag name (revision byte) = []
content_metrics all each_flag name (text bytes) = []
content_metrics all each_flag name (oui bytes) = []
content_metrics all each_flag name (apps listed) = []
content_metrics all each_flag name (lane_set set) = []
content_metrics all each_flag name (fact place f) = []

abbrev pub entry_metrics : Bool → List (Flag × Bool) → Entry → List Metric
entry_metrics all each_flag e = content_metrics all each_flag e.name e.content

-- ---- why a report has no entries

unfoldable pub fault_name : List ℕ
fault_name = codes "dovecounter_fault"

unfoldable pub fault_help : List ℕ
fault_help = codes "what keeps a report from being made, by its code"

unfoldable pub fault_metric : List ℕ → Metric
fault_metric fault_code = metric fault_name fault_help (sample (label (codes "code") fault_code ∷ []) (pos 1) 0 ∷ [])

-- none if there is no fault
abbrev pub fault_metrics : Option (List ℕ) → List Metric
fault_metrics None = []
fault_metrics (Some fault_code) = fault_metric fault_code ∷ []

-- ---- all

-- of what the module is, what it measures, its states and flags, and the first fault by its code
unfoldable pub module_metrics : Bool → List (Flag × Bool) → List Entry → List Entry → List Entry → Option (List ℕ) → List Metric
module_metrics all each_flag identity measured warned fault =
    info_metric identity
    ∷ sums_metric (identity ++ measured)
    ∷ (flat_map (entry_metrics all each_flag) (identity ++ (measured ++ warned)) ++ fault_metrics fault)
