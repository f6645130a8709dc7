-- The JSON of a plan: what it weighs, the paths that it keeps, all its paths, and its control bytes. (docs/formats.md,
-- "JSON"; this project's own)
use Rattle.std.specs.Prelude.{ℕ, List, [], ◌∷◌, ◌++◌, codes, map}
use Rattle.std.specs.List.{range_with_len}
use Rattle.json.specs.Json.{Json}
use Rattle.applications.specs.Advertised.{Advertised}
use Rattle.applications.specs.AppWeights.{PathWeights}
use Rattle.plan_certificate.specs.declared.path.Path.{Path}
use Rattle.plan_certificate.specs.Paths.{app_of}
use Rattle.plan_certificate.specs.Plans.{plan_weight}
use Rattle.control_sets.specs.ControlBytes.{control_bytes}
use Rattle.report_entries.specs.EntryJson.{count_json, count_members, form_members}
use Rattle.report_entries.specs.JsonTrees.{Member, array_of, object_of}

-- ---- numbers

unfoldable pub numbers_json : List ℕ → Json
numbers_json numbers = array_of (map count_json numbers)

unfoldable pub numbers_members : List ℕ → List ℕ → List Member
numbers_members key numbers = (key, numbers_json numbers) ∷ []

-- so many lanes from the first on, by their numbers
abbrev pub run_members : List ℕ → ℕ → ℕ → List Member
run_members key first count = numbers_members key (range_with_len first count)

-- ---- paths

unfoldable pub host_run_members : Advertised → Path → List Member
host_run_members advert path = run_members (codes "host_lane_numbers") path.host (app_of advert path).host_lanes

unfoldable pub media_run_members : Advertised → Path → List Member
media_run_members advert path = run_members (codes "media_lane_numbers") path.media (app_of advert path).media_lanes

unfoldable pub path_json : Advertised → Path → Json
path_json advert path =
    object_of (count_members (codes "app_number") path.app ++ (host_run_members advert path ++ media_run_members advert path))

unfoldable pub paths_json : Advertised → List Path → Json
paths_json advert paths = array_of (map (path_json advert) paths)

unfoldable pub paths_members : List ℕ → Advertised → List Path → List Member
paths_members key advert paths = (key, paths_json advert paths) ∷ []

-- ---- the plan

unfoldable pub weight_members : ℕ → List Member
weight_members weight = count_members (codes "weight") weight

unfoldable pub kept_members : Advertised → List Path → List Member
kept_members advert kept = paths_members (codes "kept_paths") advert kept

unfoldable pub control_members : Advertised → List Path → List Member
control_members advert paths = numbers_members (codes "control_bytes") (control_bytes advert paths)

unfoldable pub plan_members : Advertised → PathWeights → List Path → List Path → List Member
plan_members advert weights kept paths =
    weight_members (plan_weight weights paths)
    ++ (kept_members advert kept
    ++ (paths_members (codes "paths") advert paths
    ++ control_members advert paths))

abbrev pub plan_json : Advertised → PathWeights → List Path → List Path → Json
plan_json advert weights kept paths = object_of (form_members ++ plan_members advert weights kept paths)
