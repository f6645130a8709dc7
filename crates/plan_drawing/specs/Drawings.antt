-- The drawing of the plan that is given: the plan as `check` tells it, its picture, the Applications that it uses, and why no plan
-- weighs more. (docs/formats.md, "draw"; this project's own)
use Rattle.std.specs.Prelude.{◌≡◌, ◌<◌, ℕ, Bool, true, false, nat_lt, List, [], ◌∷◌, ◌++◌, AllPairs, length}
use Rattle.text_lines.specs.Lines.{text_of}
use Rattle.applications.specs.Advertised.{Advertised}
use Rattle.applications.specs.AppWeights.{PathWeights}
use Rattle.plan_certificate.specs.declared.path.Path.{Path}
use Rattle.lane_planner.specs.FirstBest.{IsFirstBest}
use Rattle.lane_planner.specs.Tables.{HasGains}
use Rattle.plan_reports.specs.PlanText.{plan_lines}
use Rattle.plan_drawing.specs.Picture.{picture_lines}
use Rattle.plan_drawing.specs.Svg.{svg_lines}
use Rattle.plan_drawing.specs.UsedApps.{app_lines}
use Rattle.plan_drawing.specs.Walks.{Basis}
use Rattle.plan_drawing.specs.Why.{why_lines}

-- the legend of a plan's picture: the Applications, and why no plan weighs more
abbrev pub legend_lines : ℕ → Basis → List Path → List (List ℕ)
legend_lines media_type basis paths = app_lines media_type paths basis.advert.apps ++ [] ∷ why_lines basis paths

-- the plan and the legend, with its picture between them, or as an SVG
abbrev pub lines_as : Bool → ℕ → Basis → List Path → List (List ℕ)
lines_as false media_type basis paths =
    plan_lines basis.advert basis.weights paths ++ [] ∷ picture_lines basis.advert basis.kept paths ++ legend_lines media_type basis paths
lines_as true media_type basis paths =
    svg_lines basis.advert basis.kept paths
    (text_of (plan_lines basis.advert basis.weights paths ++ legend_lines media_type basis paths))

-- the drawing of the first of the best plans with the kept paths, whose paths stand by rising host lane, by what can be gained from each
-- state that decisions from the start reach; and whether the plan has a path
pub record IsDrawing (as_svg : Bool) (media_type : ℕ) (advert : Advertised) (weights : PathWeights) (kept : List Path) (text : List ℕ)
    (has_paths : Bool) : Type 0 where
  pub paths : List Path
  pub table : List ℕ
  pub first : IsFirstBest advert weights kept paths
  pub rising : AllPairs (λ path later. path.host < later.host) paths
  pub gains : HasGains advert weights kept 0 table
  pub drawn : text ≡ text_of (lines_as as_svg media_type (record { advert = advert; weights = weights; kept = kept; table = table }) paths)
  pub some : has_paths ≡ nat_lt 0 (length paths)
