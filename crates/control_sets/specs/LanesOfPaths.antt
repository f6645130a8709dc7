-- Which lanes host paths take. (docs/planning.md, "Control bytes"; OIF-CMIS-05.0, chapter 8 "Module Management Memory Map",
-- "Data Path Configuration", DPConfigLane of Staged Control Set 0)
use Rattle.std.specs.Prelude.{◌≡◌, ℕ, ◌+◌, ◌<◌, ◌≤◌, ◌↔◌, List, IsTrue}
use Rattle.control_sets.specs.declared.host_path.HostPath.{HostPath}
use Rattle.field_tables.specs.LaneSets.{IsLane}
use Rattle.control_sets.specs.HostPaths.{agree, control_at}

-- the lane is one of the path's
abbrev pub HasLane : HostPath → ℕ → Type 0
HasLane path lane = (path.host ≤ lane) × (lane < path.host + path.lanes)

-- the path's lanes are those that agree with its first one
abbrev pub TakesWhatAgrees : List ℕ → HostPath → Type 0
TakesWhatAgrees bytes path = (lane : ℕ) → IsLane lane → IsTrue (agree bytes path.host lane) ↔ HasLane path lane

-- the lane is one of the path's, and is told the path's Application
abbrev pub IsOnLane : List ℕ → ℕ → HostPath → Type 0
IsOnLane bytes lane path = (path.app ≡ (control_at bytes lane).app_sel_code) × HasLane path lane
