-- Sets of lanes, numbered 1 to 8, and the byte that stands for one. (docs/fields.md, "Sets of lanes"; OIF-CMIS-05.0,
-- chapter 8 "Module Management Memory Map", the lane assignment options of "Applications Advertising")
use Rattle.std.specs.Prelude.{ℕ, ◌≤◌, ◌-◌, ◌^◌, Bool, ◌==◌, if◌then◌else◌, sum_by}
use Rattle.std.specs.Int.{bit_at}
use Rattle.std.specs.List.{range_with_len}
use Rattle.std.specs.Ordering.{nat_cmp}
use Rattle.std.specs.FinSet as set

-- lanes are counted from 1
abbrev pub IsLane : ℕ → Type 0
IsLane lane = (1 ≤ lane) × (lane ≤ 8)

abbrev pub Lanes : Type 0
Lanes = set.FinSet nat_cmp

-- so many lanes from the first on
unfoldable pub run_of : ℕ → ℕ → Lanes
run_of first count = set.from_list (range_with_len first count)

abbrev pub every_lane : Lanes
every_lane = run_of 1 8

-- the lanes of a byte: lane i is in it if bit i - 1 is 1
unfoldable pub lanes_in : ℕ → Lanes
lanes_in byte = set.retain every_lane (λ lane. bit_at byte (lane - 1) == 1)

-- the byte that has these lanes
unfoldable pub byte_of : Lanes → ℕ
byte_of lanes = sum_by (λ lane. if set.contains lanes lane then 2 ^ (lane - 1) else 0) (range_with_len 1 8)

abbrev pub is_empty : Lanes → Bool
is_empty lanes = set.len lanes == 0

abbrev pub is_disjoint : Lanes → Lanes → Bool
is_disjoint lanes others = is_empty (set.intersection lanes others)
