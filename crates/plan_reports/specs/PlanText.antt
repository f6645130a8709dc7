-- The text of a plan: what it weighs, its paths in their order, and its control bytes. (docs/formats.md,
-- "Text of a plan"; this project's own)
use Rattle.std.specs.Prelude.{ℕ, ◌+◌, ◌-◌, List, [], ◌∷◌, ◌++◌, codes, map}
use Rattle.std.specs.Fmt.{decimal}
use Rattle.applications.specs.Advertised.{Advertised}
use Rattle.applications.specs.AppWeights.{PathWeights}
use Rattle.plan_certificate.specs.declared.path.Path.{Path}
use Rattle.plan_certificate.specs.Paths.{app_of}
use Rattle.plan_certificate.specs.Plans.{plan_weight}
use Rattle.control_sets.specs.ControlBytes.{control_bytes}
use Rattle.plan_reports.specs.declared.shown_plan.LaneSpan.{LaneSpan}
use Rattle.plan_reports.specs.declared.shown_plan.PathLanes.{PathLanes}
use Rattle.report_entries.specs.Lines.{line}
use Rattle.report_entries.specs.Shown.{spaced_bytes}

-- so many lanes from the first on, by the first and the last
abbrev pub span_of : ℕ → ℕ → LaneSpan
span_of first count = record { first = first; last = first + count - 1 }

abbrev pub lanes_of : Advertised → Path → PathLanes
lanes_of advert path = record {
  app = path.app;
  host = span_of path.host (app_of advert path).host_lanes;
  media = span_of path.media (app_of advert path).media_lanes;
}

unfoldable pub span_text : LaneSpan → List ℕ
span_text span = decimal span.first ++ 45 ∷ decimal span.last

unfoldable pub path_text : PathLanes → List ℕ
path_text path = codes "app " ++ decimal path.app ++ codes " host " ++ span_text path.host ++ codes " media " ++ span_text path.media

unfoldable pub path_line : Advertised → Path → List ℕ
path_line advert path = line (codes "path") (path_text (lanes_of advert path))

unfoldable pub weight_line : ℕ → List ℕ
weight_line weight = line (codes "weight") (decimal weight)

unfoldable pub control_line : List ℕ → List ℕ
control_line bytes = codes "control" ++ spaced_bytes bytes

abbrev pub plan_lines : Advertised → PathWeights → List Path → List (List ℕ)
plan_lines advert weights paths = weight_line (plan_weight weights paths) ∷ map (path_line advert) paths ++ control_line (control_bytes advert paths) ∷ []
