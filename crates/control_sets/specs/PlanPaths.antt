-- The host paths of a plan. (docs/planning.md, "Control bytes"; this project's own)
use Rattle.std.specs.Prelude.{◌<◌, List, map, All, AllPairs, Contains}
use Rattle.applications.specs.Advertised.{Advertised}
use Rattle.plan_certificate.specs.declared.path.Path.{Path}
use Rattle.plan_certificate.specs.Paths.{app_of}
use Rattle.control_sets.specs.declared.host_path.HostPath.{HostPath}

-- what host lanes can tell of a path
abbrev pub host_path_of : Advertised → Path → HostPath
host_path_of advert path = record { app = path.app; host = path.host; lanes = (app_of advert path).host_lanes }

-- these are the host paths of these paths, each once, by rising host lane
pub record AreHostPathsOf (advert : Advertised) (paths : List Path) (host_paths : List HostPath) : Type 0 where
  pub each : All (λ path. Contains host_paths (host_path_of advert path)) paths
  pub only : All (λ host_path. Contains (map (host_path_of advert) paths) host_path) host_paths
  pub rising : AllPairs (λ host_path later. host_path.host < later.host) host_paths
