-- How many lanes an interface ID implies, as far as that is known: by a HostInterfaceID, and by a MediaInterfaceID with the media type
-- of its module, which says which table it is in. (OIF-CMIS-05.0, "Applications Advertising" and "Media Type Encodings"; SFF-8024,
-- section 4. That counts above eight are left out is this project's own: no data path here has so many lanes)
use Rattle.std.specs.Prelude.{ℕ, ◌==◌, ◌<◌, ◌&&◌, nat_le, if◌then◌else◌, List, [], Option}
use Rattle.std.specs.List.{AllPairs, AllPass}
use Rattle.interface_lanes.specs.declared.row.Row.{Row}
use Rattle.interface_lanes.specs.Rows.{count_in}
use Rattle.interface_lanes.specs.HostInterfaces.{host_interface_lanes}
use Rattle.interface_lanes.specs.MultiModeMedia.{multi_mode_media_lanes}
use Rattle.interface_lanes.specs.SingleModeMedia.{single_mode_media_lanes}

abbrev pub host_lanes_by_id : ℕ → Option ℕ
host_lanes_by_id host_id = count_in host_interface_lanes host_id

-- by MediaType: copper, active cables and BASE-T have no counts here
abbrev pub media_lanes : ℕ → List Row
media_lanes media_type = if media_type == 1 then multi_mode_media_lanes else if media_type == 2 then single_mode_media_lanes else []

abbrev pub media_lanes_by_id : ℕ → ℕ → Option ℕ
media_lanes_by_id media_type media_id = count_in (media_lanes media_type) media_id

-- of each table
abbrev pub OfEachTable : (List Row → Type 0) → Type 0
OfEachTable Holds = Holds host_interface_lanes × (Holds multi_mode_media_lanes × Holds single_mode_media_lanes)

-- a data path can have so many lanes
abbrev pub EachCountIsOfLanes : Type 0
EachCountIsOfLanes = OfEachTable (AllPass (λ (row : Row). nat_le 1 row.count && nat_le row.count 8))

-- the IDs rise, so that none has two rows
abbrev pub EachIdHasOneCount : Type 0
EachIdHasOneCount = OfEachTable (AllPairs (λ (row later : Row). row.id < later.id))
