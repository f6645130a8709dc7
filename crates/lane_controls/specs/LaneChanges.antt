-- Changing one control of page 10h for some lanes: read, stored once no path stands against that, read back. Steps stand with the
-- newest first. (docs/lanes.md; this project's own)
use Rattle.std.specs.Prelude.{◌≡◌, ◌≢◌, ◌⊎◌, ℕ, ◌+◌, ◌-◌, ◌<◌, ◌≤◌, ◌==◌, nat_lt, Bool, true, false, List, [], ◌∷◌, Option, Some, None, if◌then◌else◌, slice_index}
use Rattle.std.specs.Int.RustNames.{bit_and}
use Rattle.bus_model.specs.declared.operation.Reply.{Reply}
use Rattle.bus_model.specs.declared.operation.Reply.TheVariants.{Bytes, Done, Refused}
use Rattle.bus_model.specs.declared.operation.Reply.TheVariants as replies
use Rattle.bus_model.specs.declared.operation.Step.{Step}
use Rattle.conversations.specs.declared.next.Next.{Next}
use Rattle.conversations.specs.declared.next.Next.TheVariants.{Do, End}
use Rattle.field_tables.specs.LaneSets.{byte_of}
use Rattle.paged_memory.specs.PageAddressing.{EachStep, History}
use Rattle.lane_controls.specs.declared.lane_change.ChangingLanes.{ChangingLanes}
use Rattle.lane_controls.specs.declared.lane_change.LaneChange.{LaneChange}
use Rattle.lane_controls.specs.declared.lane_change.LaneEnd.{LaneEnd}
use Rattle.lane_controls.specs.declared.lane_change.LaneEnd.TheVariants as ends
use Rattle.lane_controls.specs.declared.lane_change.LaneStage.{LaneStage}
use Rattle.lane_controls.specs.declared.lane_change.LaneStage.TheVariants as stage
use Rattle.lane_controls.specs.ByteHistories.{is_last_refused, last_read, read_at, store_at, stores_at, was_refused}
use Rattle.lane_controls.specs.Controls.{hosts_of}
use Rattle.lane_controls.specs.LaneRegisters.{address_of, is_media}
use Rattle.lane_controls.specs.Merging.{merged}
use Rattle.lane_controls.specs.TestOperations.{read_paths}
use Rattle.lane_controls.specs.TestPlans.{up_lanes}

abbrev pub address : LaneChange → ℕ
address change = address_of change.register

abbrev pub bits_of : Bool → ℕ
bits_of on = if on then 255 else 0

-- the byte as it is wanted where this one was read
abbrev pub wanted_byte : LaneChange → ℕ → ℕ
wanted_byte change byte = merged (byte_of change.lanes) (bits_of change.on) byte

-- the host lanes of the paths that it concerns: bit i-1 is lane i
abbrev pub concerned : LaneChange → ℕ
concerned change = if is_media change.register then hosts_of change.media_paths (byte_of change.lanes) else byte_of change.lanes

-- of those, the lanes of paths that are up and not permitted, where the paths have these states
unfoldable pub disturbed : LaneChange → List ℕ → ℕ
disturbed change states = bit_and (bit_and (concerned change) (up_lanes states)) (255 - change.permitted)

-- nothing was read or stored yet
abbrev pub begun : LaneChange → ChangingLanes
begun change = record { change = change; stage = stage.Unread; left = change.max_stores; refused = false }

-- ---- what is asked for, and what a reply makes of it

abbrev pub wants_at : LaneChange → LaneStage → Next LaneEnd
wants_at change stage.Unread = Do (read_at (address change))
wants_at change (stage.Found byte) = Do read_paths
wants_at change (stage.Admitted byte) = Do (store_at (address change) (wanted_byte change byte))
wants_at change (stage.Ended end) = End end

abbrev pub wants : ChangingLanes → Next LaneEnd
wants changing = wants_at changing.change changing.stage

-- the page that is needed
abbrev pub page_at : LaneStage → Option ℕ
page_at stage.Unread = Some 16
page_at (stage.Found byte) = Some 17
page_at (stage.Admitted byte) = Some 16
page_at (stage.Ended end) = None

-- the byte that was read is as wanted
abbrev pub end_as_wanted : ℕ → ℕ → ℕ → LaneEnd
end_as_wanted left most byte = if left == most then ends.Unchanged byte else ends.Changed byte

-- it isn't, and nothing more may be stored
abbrev pub end_otherwise : Bool → ℕ → LaneEnd
end_otherwise refused byte = if refused then ends.Refused byte else ends.Ignored byte

abbrev pub stage_read : ChangingLanes → ℕ → LaneStage
stage_read changing byte =
    if wanted_byte changing.change byte == byte then stage.Ended (end_as_wanted changing.left changing.change.max_stores byte)
    else (if nat_lt 0 changing.left then stage.Found byte else stage.Ended (end_otherwise changing.refused byte))

abbrev pub after_read : ChangingLanes → Reply → ChangingLanes
after_read changing (Bytes bytes) = record { change = changing.change; stage = stage_read changing (slice_index bytes.items 0); left = changing.left; refused = changing.refused }
after_read changing replies.Done = changing
after_read changing replies.Refused = changing

-- none that is up is disturbed without permission
abbrev pub stage_looked : LaneChange → ℕ → List ℕ → LaneStage
stage_looked change byte states =
    if disturbed change states == 0 then stage.Admitted byte else stage.Ended (ends.NotPermitted byte (disturbed change states))

abbrev pub after_look : ℕ → ChangingLanes → Reply → ChangingLanes
after_look byte changing (Bytes bytes) = record { change = changing.change; stage = stage_looked changing.change byte bytes.items; left = changing.left; refused = changing.refused }
after_look byte changing replies.Done = changing
after_look byte changing replies.Refused = changing

abbrev pub after_store : ChangingLanes → Reply → ChangingLanes
after_store changing reply = record { change = changing.change; stage = stage.Unread; left = changing.left - 1; refused = was_refused reply }

abbrev pub after_at : LaneStage → ChangingLanes → Reply → ChangingLanes
after_at stage.Unread changing reply = after_read changing reply
after_at (stage.Found byte) changing reply = after_look byte changing reply
after_at (stage.Admitted byte) changing reply = after_store changing reply
after_at (stage.Ended end) changing reply = changing

abbrev pub after : ChangingLanes → Reply → ChangingLanes
after changing reply = after_at changing.stage changing reply

-- as it is after these steps
abbrev pub lane_after : LaneChange → History → ChangingLanes
lane_after change [] = begun change
lane_after change (step ∷ before) = after (lane_after change before) step.reply

-- ---- what the steps say

abbrev pub AreBytes : List ℕ → Reply → Type 0
AreBytes states (Bytes bytes) = bytes.items ≡ states
AreBytes states replies.Done = ⊥
AreBytes states replies.Refused = ⊥

-- the newest step read the states of the paths: these
abbrev pub HasLooked : List ℕ → History → Type 0
HasLooked states [] = ⊥
HasLooked states (step ∷ before) = (step.op ≡ read_paths) × AreBytes states step.reply

-- the control was last read as this byte, which isn't as wanted
abbrev pub IsReadOther : LaneChange → ℕ → History → Type 0
IsReadOther change byte history = (last_read (address change) history ≡ Some byte) × (wanted_byte change byte ≢ byte)

-- it was, and the newest step showed that no lane is disturbed without permission
abbrev pub IsAdmitted : LaneChange → ℕ → History → Type 0
IsAdmitted change byte history = IsReadOther change byte history × ((states : List ℕ) × HasLooked states history × (disturbed change states ≡ 0))

-- the control is read, or the states of the paths; or it was read since the last store, no lane is disturbed without permission by the
-- states that were read just before, and that byte is stored but for the bits of the lanes
abbrev pub IsLaneStep : LaneChange → Step → History → Type 0
IsLaneStep change step before =
    (step.op ≡ read_at (address change))
    ⊎ ((step.op ≡ read_paths) ⊎ ((byte : ℕ) × IsAdmitted change byte before × (step.op ≡ store_at (address change) (wanted_byte change byte))))

-- no other step, and few stores
pub record AreLaneSteps (change : LaneChange) (history : History) : Type 0 where
  pub each : EachStep (IsLaneStep change) history
  pub few : stores_at (address change) history ≤ change.max_stores

-- the register was last read as this byte, with the bits of the lanes as wanted
abbrev pub IsReadAsWanted : LaneChange → ℕ → History → Type 0
IsReadAsWanted change byte history = (last_read (address change) history ≡ Some byte) × (wanted_byte change byte ≡ byte)

-- or not so, after as many stores as may be
pub record IsReadOtherwise (change : LaneChange) (byte : ℕ) (refused : Bool) (history : History) : Type 0 where
  pub read : last_read (address change) history ≡ Some byte
  pub other : wanted_byte change byte ≢ byte
  pub all : stores_at (address change) history ≡ change.max_stores
  pub last : is_last_refused (address change) history ≡ refused

-- or not so, and the newest step showed that these lanes would be disturbed without permission
abbrev pub IsForbidden : LaneChange → ℕ → ℕ → History → Type 0
IsForbidden change byte lanes history =
    IsReadOther change byte history × ((states : List ℕ) × HasLooked states history × (disturbed change states ≡ lanes) × (lanes ≢ 0))

abbrev pub HasEndedIn : LaneChange → LaneEnd → History → Type 0
HasEndedIn change (ends.Unchanged byte) history = IsReadAsWanted change byte history × (stores_at (address change) history ≡ 0)
HasEndedIn change (ends.Changed byte) history = IsReadAsWanted change byte history × (0 < stores_at (address change) history)
HasEndedIn change (ends.Ignored byte) history = IsReadOtherwise change byte false history
HasEndedIn change (ends.Refused byte) history = IsReadOtherwise change byte true history
HasEndedIn change (ends.NotPermitted byte lanes) history = IsForbidden change byte lanes history

abbrev pub IsAtStage : LaneChange → LaneStage → History → Type 0
IsAtStage change stage.Unread history = Unit {0}
IsAtStage change (stage.Found byte) history = IsReadOther change byte history × (stores_at (address change) history < change.max_stores)
IsAtStage change (stage.Admitted byte) history = IsAdmitted change byte history × (stores_at (address change) history < change.max_stores)
IsAtStage change (stage.Ended end) history = HasEndedIn change end history

-- it was told these steps
pub record IsTold (history : History) (changing : ChangingLanes) : Type 0 where
  pub is : changing ≡ lane_after changing.change history
  pub steps : AreLaneSteps changing.change history
  pub counted : stores_at (address changing.change) history + changing.left ≡ changing.change.max_stores
  pub last : is_last_refused (address changing.change) history ≡ changing.refused
  pub at : IsAtStage changing.change changing.stage history

-- how it ends
pub record HasEnded (change : LaneChange) (history : History) (end : LaneEnd) : Type 0 where
  pub steps : AreLaneSteps change history
  pub ended : HasEndedIn change end history
