-- The metrics of states: the value is the code, and a label has the name, as reports print it. (docs/formats.md, "Metrics";
-- docs/states.md; this project's own)
use Rattle.std.specs.Prelude.{ℕ, pos, List, [], ◌∷◌, ◌++◌, map, codes}
use Rattle.std.specs.Fmt.{decimal}
use Rattle.std.specs.List.{enumerate_from}
use Rattle.report_entries.specs.declared.entry.LaneState.{LaneState}
use Rattle.report_entries.specs.States.{module_state_text, path_state_text, status_text}
use Rattle.module_metrics.specs.Exposition.{Metric, Sample, label, metric, sample}
use Rattle.module_metrics.specs.MetricNames.{snake, words}

-- ---- of the module

unfoldable pub state_name : List ℕ → List ℕ
state_name name = codes "dovecounter_module_" ++ snake name

unfoldable pub state_help : List ℕ → List ℕ
state_help name = words 32 name ++ codes " of the module, by its code"

unfoldable pub state_sample : ℕ → Sample
state_sample code = sample (label (codes "state") (module_state_text code) ∷ []) (pos code) 0

unfoldable pub state_metric : List ℕ → ℕ → Metric
state_metric name code = metric (state_name name) (state_help name) (state_sample code ∷ [])

-- ---- of lanes, lane 1 first

unfoldable pub paths_name : List ℕ
paths_name = codes "dovecounter_lane_data_path_state"

unfoldable pub paths_help : List ℕ
paths_help = codes "state of a lane's data path, by its code"

unfoldable pub path_sample : ℕ × LaneState → Sample
path_sample l = sample (label (codes "lane") (decimal l.0) ∷ label (codes "state") (path_state_text l.1.path) ∷ []) (pos l.1.path) 0

unfoldable pub paths_metric : List LaneState → Metric
paths_metric states = metric paths_name paths_help (map path_sample (enumerate_from 1 states))

unfoldable pub statuses_name : List ℕ
statuses_name = codes "dovecounter_lane_config_status"

unfoldable pub statuses_help : List ℕ
statuses_help = codes "status of a lane's configuration, by its code"

unfoldable pub status_sample : ℕ × LaneState → Sample
status_sample l = sample (label (codes "lane") (decimal l.0) ∷ label (codes "status") (status_text l.1.status) ∷ []) (pos l.1.status) 0

unfoldable pub statuses_metric : List LaneState → Metric
statuses_metric states = metric statuses_name statuses_help (map status_sample (enumerate_from 1 states))
