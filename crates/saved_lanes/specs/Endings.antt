-- How a change of lanes ended, as numbers. (docs/lanes.md, "From C and Python"; this project's own)
use Rattle.std.specs.Prelude.{ℕ, ◌-◌, Option, Some, None}
use Rattle.conversations.specs.declared.pausing.Timed.{Timed}
use Rattle.conversations.specs.declared.pausing.Timed.TheVariants.{InTime, Overdue}
use Rattle.conversations.specs.declared.within.Spent.{Spent}
use Rattle.lane_controls.specs.declared.lane_change.LaneEnd.{LaneEnd}
use Rattle.saved_lanes.specs.declared.ending.SavedLaneEnd.{SavedLaneEnd}
use Rattle.saved_lanes.specs.SavedLanes.{Procedure, numbers_of_end}

-- it ended so, or was out of patience, or made as many operations as may be
abbrev pub numbers_of_timed : Option (Timed LaneEnd) → ℕ × ℕ × ℕ
numbers_of_timed (Some (InTime end)) = numbers_of_end end
numbers_of_timed (Some Overdue) = (5, 0, 0)
numbers_of_timed None = (6, 0, 0)

-- with how often the control was stored
abbrev pub stores_of : Procedure → ℕ
stores_of procedure = let changing = procedure.conversation.conversation.conversation in changing.change.max_stores - changing.left

abbrev pub ending_by : ℕ × ℕ × ℕ → ℕ → SavedLaneEnd
ending_by (end, byte, lanes) stores = record { end = end; byte = byte; lanes = lanes; stores = stores }

abbrev pub ending_of : Procedure → Spent (Timed LaneEnd) → SavedLaneEnd
ending_of procedure spent = ending_by (numbers_of_timed spent.end) (stores_of procedure)
