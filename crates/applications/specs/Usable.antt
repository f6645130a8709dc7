-- Applications that a data path can use: their numbers of lanes are 1 to 8. (docs/fields.md, "Applications";
-- OIF-CMIS-05.0, chapter 8 "Module Management Memory Map", "Applications Advertising")
use Rattle.std.specs.Prelude.{ℕ, Bool, ◌&&◌, nat_le}
use Rattle.applications.specs.declared.app.App.{App}

abbrev pub is_lane_count : ℕ → Bool
is_lane_count count = nat_le 1 count && nat_le count 8

abbrev pub is_usable : App → Bool
is_usable app = is_lane_count app.host_lanes && is_lane_count app.media_lanes
