-- How a change of lanes comes to its end. Steps stand with the newest first. (docs/lanes.md; this project's own)
use Rattle.std.specs.Prelude.{◌≡◌, ℕ, ◌+◌, ◌==◌, List, [], ◌∷◌, Option, Some, None, if◌then◌else◌}
use Rattle.bus_model.specs.declared.operation.Reply.TheVariants.{Bytes, Done}
use Rattle.bus_model.specs.declared.operation.Step.{Step}
use Rattle.bus_model.specs.Operations.{Answers}
use Rattle.conversations.specs.declared.next.Next.TheVariants.{Do}
use Rattle.paged_memory.specs.PageAddressing.{History}
use Rattle.lane_controls.specs.declared.lane_change.LaneChange.{LaneChange}
use Rattle.lane_controls.specs.declared.lane_change.LaneEnd.{LaneEnd}
use Rattle.lane_controls.specs.declared.lane_change.LaneEnd.TheVariants.{Unchanged, Changed, NotPermitted}
use Rattle.lane_controls.specs.ByteHistories.{last_stored, read_at, store_at, was_refused}
use Rattle.lane_controls.specs.LaneChanges.{address, disturbed, lane_after, wanted_byte, wants}
use Rattle.lane_controls.specs.TestOperations.{read_paths}

-- each step is what the change wanted, and its reply is of that kind
abbrev pub AreWanted : LaneChange → History → Type 0
AreWanted change [] = Unit {0}
AreWanted change (step ∷ before) = (wants (lane_after change before) ≡ Do step.op) × Answers step.op step.reply × AreWanted change before

-- so many of them were not refused
abbrev pub answered : History → ℕ
answered [] = 0
answered (step ∷ before) = if was_refused step.reply then answered before else answered before + 1

-- ---- a module that refuses nothing, and keeps what is stored

-- the control as it is, where it was this at first
abbrev pub byte_now : ℕ → Option ℕ → ℕ
byte_now first None = first
byte_now first (Some byte) = byte

-- it shows the control so, and the paths in these states; and it takes each store
pub record Keeps (change : LaneChange) (first : ℕ) (states : List ℕ) (step : Step) (before : History) : Type 0 where
  pub control : step.op ≡ read_at (address change) → step.reply ≡ Bytes (record { items = byte_now first (last_stored (address change) before) ∷ [] })
  pub paths : step.op ≡ read_paths → step.reply ≡ Bytes (record { items = states })
  pub stores : (byte : ℕ) → step.op ≡ store_at (address change) byte → step.reply ≡ Done

-- then the change ends so
abbrev pub end_of : LaneChange → ℕ → List ℕ → LaneEnd
end_of change first states =
    if wanted_byte change first == first then Unchanged first
    else (if disturbed change states == 0 then Changed (wanted_byte change first) else NotPermitted first (disturbed change states))
