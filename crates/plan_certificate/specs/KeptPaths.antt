-- What a plan may hold beside the paths that it keeps. (docs/planning.md, "Kept paths"; this project's own)
use Rattle.std.specs.Prelude.{ℕ, ◌==◌, ◌&&◌, ◌||◌, Bool, not, List}
use Rattle.std.specs.List.{list_all, list_any}
use Rattle.std.specs.FinSet as set
use Rattle.applications.specs.Advertised.{Advertised}
use Rattle.plan_certificate.specs.declared.path.Path.{Path}
use Rattle.plan_certificate.specs.Paths.{host_lanes, is_allowed}
use Rattle.plan_certificate.specs.Plans.{are_apart}

-- the same Application on the same lanes
abbrev pub is_path : Path → Path → Bool
is_path path other = other.app == path.app && other.host == path.host && other.media == path.media

-- one of the paths is this one
abbrev pub is_among : List Path → Path → Bool
is_among paths path = list_any (is_path path) paths

-- the path shares no lane with any of these
abbrev pub is_apart_from : Advertised → List Path → Path → Bool
is_apart_from advert paths path = list_all (λ other. are_apart advert other path) paths

-- a path that is allowed and shares no lane with any of these
abbrev pub may_join : Advertised → List Path → Path → Bool
may_join advert paths path = is_allowed advert path && is_apart_from advert paths path

-- a plan that keeps these paths may hold the path: it is allowed, and is one of them or shares no lane with any
abbrev pub is_eligible : Advertised → List Path → Path → Bool
is_eligible advert kept path = (is_among kept path || is_apart_from advert kept path) && is_allowed advert path

-- a host lane of none of the kept paths
abbrev pub may_stay_free : Advertised → List Path → ℕ → Bool
may_stay_free advert kept lane = list_all (λ path. not (set.contains (host_lanes advert path) lane)) kept
