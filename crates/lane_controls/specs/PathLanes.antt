-- Which lanes belong to paths that are up, as page 11h tells: any whose state isn't DPDeactivated. (docs/lanes.md; OIF-CMIS-05.0, Data
-- Path States, page 11h, bytes 128 to 131)
use Rattle.std.specs.Prelude.{ℕ, ◌/◌, ◌%◌, ◌==◌, not, Bool, List, if◌then◌else◌, slice_index}

-- two lanes share a byte, the lower one its lower half; the first lane is 0
abbrev pub state_of_lane : List ℕ → ℕ → ℕ
state_of_lane states i = if i % 2 == 0 then slice_index states (i / 2) % 16 else slice_index states (i / 2) / 16

abbrev pub is_up : List ℕ → ℕ → Bool
is_up states i = not (state_of_lane states i == 1)
