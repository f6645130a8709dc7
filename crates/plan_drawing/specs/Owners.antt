-- Which path of a plan takes a lane, on either side of the module. (docs/formats.md, "draw"; this project's own)
use Rattle.std.specs.Prelude.{ℕ, ◌+◌, if◌then◌else◌, List, [], ◌∷◌, map}
use Rattle.std.specs.List.{range_with_len}
use Rattle.std.specs.FinSet as set
use Rattle.field_tables.specs.LaneSets.{Lanes}
use Rattle.applications.specs.Advertised.{Advertised}
use Rattle.plan_certificate.specs.declared.path.Path.{Path}
use Rattle.plan_certificate.specs.Paths.{host_lanes, media_lanes}
use Rattle.plan_drawing.specs.declared.owners.Side.{Side}
use Rattle.plan_drawing.specs.declared.owners.Side.TheVariants.{Host, Media}

-- the lanes of a path
abbrev pub lanes_on : Side → Advertised → Path → Lanes
lanes_on Host advert path = host_lanes advert path
lanes_on Media advert path = media_lanes advert path

-- the number, counted from this one on, of the path that takes a lane; 0 if none does
unfoldable pub owner_from : (Path → Lanes) → ℕ → ℕ → List Path → ℕ
owner_from lanes_of lane number [] = 0
owner_from lanes_of lane number (path ∷ more) = if set.contains (lanes_of path) lane then number else owner_from lanes_of lane (number + 1) more

-- those of lanes 1 to 8, counted from 1
unfoldable pub owners : (Path → Lanes) → List Path → List ℕ
owners lanes_of paths = map (λ lane. owner_from lanes_of lane 1 paths) (range_with_len 1 8)
