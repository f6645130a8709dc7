-- The first best plan: of the best plans without needless paths the one that comes before all others. (docs/planning.md,
-- "The first best plan"; this project's own)
use Rattle.std.specs.Prelude.{◌≡◌, ◌<◌, ◌⊎◌, ◌↔◌, List, All, Contains}
use Rattle.applications.specs.Advertised.{Advertised}
use Rattle.applications.specs.AppWeights.{PathWeights}
use Rattle.plan_certificate.specs.declared.path.Path.{Path}
use Rattle.plan_certificate.specs.Paths.{IsLower, path_weight}
use Rattle.plan_certificate.specs.Plans.{IsBest}

-- both plans have the path, or neither has
abbrev pub AgreeOn : List Path → List Path → Path → Type 0
AgreeOn paths others path = Contains paths path ↔ Contains others path

-- in whatever order
abbrev pub HaveSamePaths : List Path → List Path → Type 0
HaveSamePaths paths others = (path : Path) → AgreeOn paths others path

-- A path of the first plan begins at the lowest host lane where the two differ. There the second plan begins no path, or one
-- with a higher Application, or with the same and a higher media lane.
pub record ComesBefore (paths others : List Path) : Type 0 where
  pub path : Path
  pub held : Contains paths path
  pub below : (lower : Path) → lower.host < path.host → AgreeOn paths others lower
  pub there : (other : Path) → Contains others other → other.host ≡ path.host → IsLower path other

abbrev pub IsSameOrBefore : List Path → List Path → Type 0
IsSameOrBefore paths others = HaveSamePaths paths others ⊎ ComesBefore paths others

-- the path weighs something, or is kept
abbrev pub IsOfUse : PathWeights → List Path → Path → Type 0
IsOfUse weights kept path = (0 < path_weight weights path) ⊎ Contains kept path

-- a best plan with the kept paths, without others of weight 0
pub record IsCandidate (advert : Advertised) (weights : PathWeights) (kept paths : List Path) : Type 0 where
  pub best : IsBest advert weights kept paths
  pub of_use : All (IsOfUse weights kept) paths

-- it comes before each other one
pub record IsFirstBest (advert : Advertised) (weights : PathWeights) (kept paths : List Path) : Type 0 where
  pub candidate : IsCandidate advert weights kept paths
  pub first : (others : List Path) → IsCandidate advert weights kept others → IsSameOrBefore paths others
