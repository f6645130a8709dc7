-- Plans: lists of data paths that share no lane, what they keep and weigh, and which are best. (docs/planning.md, "Plans"
-- and "Kept paths"; that data paths share no lane: OIF-CMIS-05.0, chapter 6 "Core Management Features", "Data Paths"; what
-- plans keep and weigh is this project's own)
use Rattle.std.specs.Prelude.{◌≡◌, ℕ, ◌≤◌, Bool, true, ◌&&◌, List, All, AllPairs, Contains, sum_by}
use Rattle.std.specs.List.{AllByRecursion}
use Rattle.field_tables.specs.LaneSets.{is_disjoint}
use Rattle.applications.specs.Advertised.{Advertised}
use Rattle.applications.specs.AppWeights.{PathWeights}
use Rattle.plan_certificate.specs.declared.path.Path.{Path}
use Rattle.plan_certificate.specs.Paths.{host_lanes, media_lanes, is_allowed, path_weight}

-- two paths that share neither a host lane nor a media lane
unfoldable pub are_apart : Advertised → Path → Path → Bool
are_apart advert path other =
    is_disjoint (host_lanes advert path) (host_lanes advert other) && is_disjoint (media_lanes advert path) (media_lanes advert other)

abbrev pub AreAllowed : Advertised → List Path → Type 0
AreAllowed advert paths = All (λ path. is_allowed advert path ≡ true) paths

-- a plan that the module can carry, whatever the order of its paths
pub record IsAdmissible (advert : Advertised) (paths : List Path) : Type 0 where
  pub allowed : AreAllowed advert paths
  pub apart : AllPairs (λ path other. are_apart advert path other ≡ true) paths

-- every kept path is in the plan
abbrev pub Keeps : List Path → List Path → Type 0
Keeps kept paths = AllByRecursion (Contains paths) kept

abbrev pub plan_weight : PathWeights → List Path → ℕ
plan_weight weights paths = sum_by (path_weight weights) paths

-- it holds the kept paths, and no admissible plan that does weighs more
pub record IsBest (advert : Advertised) (weights : PathWeights) (kept paths : List Path) : Type 0 where
  pub admissible : IsAdmissible advert paths
  pub keeps : Keeps kept paths
  pub heaviest : (others : List Path) → IsAdmissible advert others → Keeps kept others
      → plan_weight weights others ≤ plan_weight weights paths
