-- The host paths of eight control bytes: which lanes say that they belong together. (docs/planning.md, "Control bytes";
-- OIF-CMIS-05.0, chapter 8 "Module Management Memory Map", "Data Path Configuration", DPConfigLane of Staged Control Set
-- 0)
use Rattle.std.specs.Prelude.{ℕ, ◌+◌, ◌-◌, ◌==◌, ◌&&◌, ◌||◌, Bool, not, nat_le, List, Option, slice_index, find, filter, map, count_by}
use Rattle.std.specs.List.{list_all, range_with_len}
use Rattle.control_sets.specs.declared.control_byte.ControlByte.{ControlByte}
use Rattle.control_sets.specs.declared.host_path.HostPath.{HostPath}
use Rattle.control_sets.specs.ControlBytes.{control_of}

-- what a lane is told
abbrev pub control_at : List ℕ → ℕ → ControlByte
control_at bytes lane = control_of (slice_index bytes (lane - 1))

-- the lane is in a path
abbrev pub is_used : ControlByte → Bool
is_used control = not (control.app_sel_code == 0)

-- where its path begins
abbrev pub first_lane : ControlByte → ℕ
first_lane control = control.data_path_id + 1

abbrev pub are_same : ControlByte → ControlByte → Bool
are_same control other = control.app_sel_code == other.app_sel_code && control.data_path_id == other.data_path_id

-- both lanes are told the same, but for ExplicitControl
abbrev pub agree : List ℕ → ℕ → ℕ → Bool
agree bytes lane other = are_same (control_at bytes lane) (control_at bytes other)

-- each lane from the first one up to this one agrees with it
abbrev pub all_agree : List ℕ → ℕ → ℕ → Bool
all_agree bytes first lane = list_all (agree bytes lane) (range_with_len first (lane + 1 - first))

-- the lanes of its path up to this one are those from where the path begins
abbrev pub is_reached : List ℕ → ℕ → Bool
is_reached bytes lane = nat_le (first_lane (control_at bytes lane)) lane && all_agree bytes (first_lane (control_at bytes lane)) lane

-- the lane can be in a path as it says, or says that it is in none
unfoldable pub is_right : List ℕ → ℕ → Bool
is_right bytes lane = not (is_used (control_at bytes lane)) || is_reached bytes lane

-- the lowest lane that can't: if there is none, the bytes are host paths
unfoldable pub wrong_lane : List ℕ → Option ℕ
wrong_lane bytes = find (λ lane. not (is_right bytes lane)) (range_with_len 1 8)

-- a path begins at the lane
abbrev pub begins : List ℕ → ℕ → Bool
begins bytes lane = is_used (control_at bytes lane) && first_lane (control_at bytes lane) == lane

-- the path of all lanes that agree with this one
unfoldable pub path_from : List ℕ → ℕ → HostPath
path_from bytes lane = record {
  app = (control_at bytes lane).app_sel_code;
  host = lane;
  lanes = count_by (agree bytes lane) (range_with_len 1 8);
}

-- of bytes that are host paths, by rising host lane
unfoldable pub host_paths : List ℕ → List HostPath
host_paths bytes = map (path_from bytes) (filter (begins bytes) (range_with_len 1 8))
