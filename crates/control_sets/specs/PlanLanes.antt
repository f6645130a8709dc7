-- The host lanes that the paths of a plan take, and those that they leave. (docs/planning.md, "Control bytes"; this
-- project's own)
use Rattle.std.specs.Prelude.{ℕ, Bool, not, List}
use Rattle.std.specs.List.{list_any}
use Rattle.std.specs.FinSet as set
use Rattle.field_tables.specs.LaneSets.{Lanes, every_lane}
use Rattle.applications.specs.Advertised.{Advertised}
use Rattle.plan_certificate.specs.declared.path.Path.{Path}
use Rattle.plan_certificate.specs.Paths.{host_lanes}

-- some path takes the lane
abbrev pub is_taken : Advertised → List Path → ℕ → Bool
is_taken advert paths lane = list_any (λ path. set.contains (host_lanes advert path) lane) paths

-- each lane that some path takes
unfoldable pub plan_lanes : Advertised → List Path → Lanes
plan_lanes advert paths = set.retain every_lane (is_taken advert paths)

-- each lane that no path takes
unfoldable pub lanes_outside : Advertised → List Path → Lanes
lanes_outside advert paths = set.retain every_lane (λ lane. not (is_taken advert paths lane))
