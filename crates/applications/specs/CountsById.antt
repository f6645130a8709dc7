-- Lane counts that a descriptor leaves to the interface IDs: a HostLaneCount or MediaLaneCount of 0 says that the ID implies the count.
-- (OIF-CMIS-05.0, chapter 8 "Module Management Memory Map", "Applications Advertising"; SFF-8024, section 4)
use Rattle.std.specs.Prelude.{ℕ, ◌==◌, if◌then◌else◌, Option}
use Rattle.std.specs.Option.{unwrap_or}
use Rattle.applications.specs.declared.app.App.{App}
use Rattle.interface_lanes.specs.LanesById.{host_lanes_by_id, media_lanes_by_id}

-- a count that isn't 0 stands; 0 is the implied count, or stays, if that isn't known
abbrev pub count_by : Option ℕ → ℕ → ℕ
count_by implied count = if count == 0 then unwrap_or implied 0 else count

-- an Application of a module of this media type
abbrev pub counted : ℕ → App → App
counted media_type app = record app {
  host_lanes = count_by (host_lanes_by_id app.host_id) app.host_lanes;
  media_lanes = count_by (media_lanes_by_id media_type app.media_id) app.media_lanes;
}
