-- Changes of lanes as C keeps them: what is told of each call. (docs/lanes.md, "From C and Python"; this project's own)
use Rattle.std.specs.Prelude.{◌≡◌, ℕ, Option, Some, None, if◌then◌else◌}
use Rattle.conversations.specs.declared.next.Next.{Next}
use Rattle.conversations.specs.declared.next.Next.TheVariants.{Do, Wait, End}
use Rattle.conversations.specs.declared.pausing.Timed.{Timed}
use Rattle.conversations.specs.declared.within.Spent.{Spent}
use Rattle.lane_controls.specs.declared.lane_change.LaneEnd.{LaneEnd}
use Rattle.saved_lanes.specs.declared.ending.SavedLaneEnd.{SavedLaneEnd}
use Rattle.saved_lanes.specs.declared.numbers.SavedChanging.{SavedChanging}
use Rattle.saved_lanes.specs.declared.numbers.SavedLaneChange.{SavedLaneChange}
use Rattle.saved_lanes.specs.Endings.{ending_of}
use Rattle.saved_lanes.specs.SavedLanes.{Procedure, changing_in, is_change}
use Rattle.saved_lanes.specs.Turns.{wants}
use Rattle.firmware_api.specs.declared.status.Refusal.{Refusal}
use Rattle.firmware_api.specs.declared.status.Refusal.TheVariants.{NoConversation, NotEnded}
use Rattle.firmware_api.specs.Statuses.{done, status_of}

-- a change of no control is none
abbrev pub refusal_of : SavedLaneChange → Option Refusal
refusal_of change = if is_change change then None else Some NoConversation

abbrev pub wanted_of : Option Procedure → Option (Next (Spent (Timed LaneEnd)))
wanted_of None = None
wanted_of (Some procedure) = Some (wants procedure)

abbrev pub wanted_in : SavedChanging → Option (Next (Spent (Timed LaneEnd)))
wanted_in saved = wanted_of (changing_in saved)

abbrev pub IsEndBy : ℕ → SavedLaneEnd → Procedure → Next (Spent (Timed LaneEnd)) → Type 0
IsEndBy status ended procedure (Do op) = status ≡ status_of NotEnded
IsEndBy status ended procedure (Wait time) = status ≡ status_of NotEnded
IsEndBy status ended procedure (End spent) = (status ≡ done) × (ended ≡ ending_of procedure spent)

abbrev pub IsEndTold : ℕ → SavedLaneEnd → Option Procedure → Type 0
IsEndTold status ended None = status ≡ status_of NoConversation
IsEndTold status ended (Some procedure) = IsEndBy status ended procedure (wants procedure)
