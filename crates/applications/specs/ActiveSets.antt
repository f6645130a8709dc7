-- What a module's Active Control Set has of each host lane, and which data paths are among the active ones: each host lane of such a
-- path has the path's AppSelCode and DataPathID. (docs/planning.md, "What stays"; OIF-CMIS-05.0, chapter 8 "Module Management Memory
-- Map", page 11h, DPConfigLane of the Active Control Set)
use Rattle.std.specs.Prelude.{ℕ, ◌+◌, ◌-◌, ◌==◌, ◌&&◌, Bool, replicate, slice_index}
use Rattle.std.specs.List.{list_all, range_with_len}
use Rattle.paged_memory.specs.Images.{Memory}
use Rattle.field_tables.specs.declared.field.Field.TheVariants as fields
use Rattle.field_tables.specs.declared.table.cmis.CmisField.TheVariants as cmis
use Rattle.field_tables.specs.Readings.{all_numbers}
use Rattle.applications.specs.declared.active.ActiveSet.{ActiveSet}
use Rattle.applications.specs.declared.app.App.{App}

-- no lane is in a data path
abbrev pub nothing_active : ActiveSet
nothing_active = record { app_sel_codes = replicate 8 0; data_path_ids = replicate 8 0 }

abbrev pub active_in : Memory → ActiveSet
active_in memory = record { app_sel_codes = all_numbers memory (fields.Cmis cmis.ActiveAppSel); data_path_ids = all_numbers memory (fields.Cmis cmis.ActivePathId) }

-- a host lane has the AppSelCode of the Application, and the DataPathID of a path from a host lane on: that lane, less one
abbrev pub is_lane_of : ActiveSet → App → ℕ → ℕ → Bool
is_lane_of active app host lane =
    slice_index active.app_sel_codes (lane - 1) == app.number && slice_index active.data_path_ids (lane - 1) + 1 == host

-- the Application's path from a host lane on is among the active ones
unfoldable pub is_active : ActiveSet → App → ℕ → Bool
is_active active app host = list_all (is_lane_of active app host) (range_with_len host app.host_lanes)
