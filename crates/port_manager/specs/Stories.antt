-- What happened to a port, the newest first. (this project's own)
use Rattle.std.specs.Prelude.{◌||◌, ◌&&◌, not, ℕ, max, Bool, true, false, List, [], ◌∷◌}
use Rattle.bus_model.specs.declared.operation.Op.{Op}
use Rattle.bus_model.specs.declared.operation.Reply.{Reply}
use Rattle.bus_model.specs.declared.operation.Step.{Step}
use Rattle.paged_memory.specs.PageAddressing.{History}
use Rattle.port_manager.specs.declared.deciding.Wanted.{Wanted}
use Rattle.port_manager.specs.declared.flags.FlagKeeper.{FlagKeeper}
use Rattle.port_manager.specs.declared.port.Outcome.{Outcome}
use Rattle.port_manager.specs.declared.port.Outcome.TheVariants as outcome
use Rattle.port_manager.specs.declared.port.Outstanding.{Outstanding}
use Rattle.port_manager.specs.declared.port.Outstanding.TheVariants as outstanding
use Rattle.port_manager.specs.declared.turn.Note.{Note}
use Rattle.port_manager.specs.declared.turn.Note.TheVariants as notes
use Rattle.port_manager.specs.Flags.{acknowledged, no_flags, noted, unread}
use Rattle.port_manager.specs.declared.request.Request.{Request}
use Rattle.port_manager.specs.declared.request.Request.TheVariants.{Wake}
use Rattle.port_manager.specs.declared.silence.Silence.{Silence}
use Rattle.port_manager.specs.Ports.{forsaken, is_apply_refused, is_settled_by, is_vain_after, request_after}
use Rattle.port_manager.specs.Requests.{ended}
use Rattle.port_manager.specs.Silences as silences

pub data Event : Type 0 where
  -- a module was plugged at this moment
  plug : ℕ → Event
  pull : Event
  -- other weights are wanted, somebody asks, or the module was left alone for long enough
  reconsider : Event
  -- the port is to hold still, or not any longer
  hold : Bool → Event
  -- somebody asks this, in place of what was asked before
  demand : Request → Event
  -- a transaction was answered, or refused, which began at this moment; the module stays
  hear : Bool → ℕ → Event
  -- flags up to this moment are known to somebody
  acknowledge : ℕ → Event
  -- the operation was asked for at this moment
  ask : Op → ℕ → Event
  -- it had this reply, which was taken with these weights at this moment, and led to this
  make : Op → Reply → Wanted → ℕ → Outcome → Event
  -- a reply came to an operation from before
  drop : Event

abbrev pub Story : Type 0
Story = List Event

abbrev pub step_with : Op → Reply → Step
step_with op reply = record { op = op; reply = reply }

-- the steps of the module that is there, since it was plugged
abbrev pub steps_of : Story → History
steps_of [] = []
steps_of (plug now ∷ before) = []
steps_of (pull ∷ before) = []
steps_of (reconsider ∷ before) = steps_of before
steps_of (hold held ∷ before) = steps_of before
steps_of (demand request ∷ before) = steps_of before
steps_of (acknowledge past ∷ before) = steps_of before
steps_of (hear alive began ∷ before) = steps_of before
steps_of (ask op moment ∷ before) = steps_of before
steps_of (make op reply wanted now result ∷ before) = step_with op reply ∷ steps_of before
steps_of (drop ∷ before) = steps_of before

abbrev pub staled : Outstanding → Outstanding
staled outstanding.Nothing = outstanding.Nothing
staled outstanding.Awaited = outstanding.Stale
staled outstanding.Stale = outstanding.Stale
staled outstanding.Forsaken = outstanding.Forsaken

-- what is outstanding
abbrev pub outstanding_in : Story → Outstanding
outstanding_in [] = outstanding.Nothing
outstanding_in (plug now ∷ before) = forsaken (outstanding_in before)
outstanding_in (pull ∷ before) = forsaken (outstanding_in before)
outstanding_in (reconsider ∷ before) = staled (outstanding_in before)
outstanding_in (hold held ∷ before) = staled (outstanding_in before)
outstanding_in (demand request ∷ before) = staled (outstanding_in before)
outstanding_in (acknowledge past ∷ before) = outstanding_in before
outstanding_in (hear alive began ∷ before) = outstanding_in before
outstanding_in (ask op moment ∷ before) = outstanding.Awaited
outstanding_in (make op reply wanted now result ∷ before) = outstanding.Nothing
outstanding_in (drop ∷ before) = outstanding.Nothing

-- nothing is to be made before a moment after an operation in vain, or a failure
abbrev pub waits_after : Outcome → ℕ → ℕ
waits_after outcome.Dropped before = before
waits_after (outcome.Went note) before = before
waits_after (outcome.Paused moment) before = max moment before
waits_after (outcome.Failed fault moment) before = max moment before
waits_after (outcome.Left reason) before = before

-- the last of the moments that are to be waited for since the module was plugged
abbrev pub again_in : Story → ℕ
again_in [] = 0
again_in (plug now ∷ before) = 0
again_in (pull ∷ before) = 0
again_in (reconsider ∷ before) = again_in before
again_in (hold held ∷ before) = again_in before
again_in (demand request ∷ before) = again_in before
again_in (acknowledge past ∷ before) = again_in before
again_in (hear alive began ∷ before) = again_in before
again_in (ask op moment ∷ before) = again_in before
again_in (make op reply wanted now result ∷ before) = waits_after result (again_in before)
again_in (drop ∷ before) = again_in before

-- the module was woken up and is not ready
abbrev pub vain_by : Outcome → Bool → Bool
vain_by outcome.Dropped before = before
vain_by (outcome.Went note) before = before
vain_by (outcome.Paused moment) before = before
vain_by (outcome.Failed fault moment) before = is_vain_after fault before
vain_by (outcome.Left reason) before = before

-- so it was since it was plugged and since somebody asked
abbrev pub vain_in : Story → Bool
vain_in [] = false
vain_in (plug now ∷ before) = false
vain_in (pull ∷ before) = false
vain_in (reconsider ∷ before) = false
vain_in (hold held ∷ before) = false
vain_in (demand request ∷ before) = false
vain_in (acknowledge past ∷ before) = vain_in before
vain_in (hear alive began ∷ before) = vain_in before
vain_in (ask op moment ∷ before) = vain_in before
vain_in (make op reply wanted now result ∷ before) = vain_by result (vain_in before)
vain_in (drop ∷ before) = vain_in before

-- an apply was refused, or was before, unless the control bytes became active, or the module was as wanted, or left alone
abbrev pub apply_refused_by : Outcome → Bool → Bool
apply_refused_by outcome.Dropped before = before
apply_refused_by (outcome.Went note) before = before && not (is_settled_by note)
apply_refused_by (outcome.Paused moment) before = before
apply_refused_by (outcome.Failed fault moment) before = before || is_apply_refused fault
apply_refused_by (outcome.Left reason) before = false

-- so it was since the module was plugged
abbrev pub apply_refused_in : Story → Bool
apply_refused_in [] = false
apply_refused_in (plug now ∷ before) = false
apply_refused_in (pull ∷ before) = false
apply_refused_in (reconsider ∷ before) = apply_refused_in before
apply_refused_in (hold held ∷ before) = apply_refused_in before
apply_refused_in (demand request ∷ before) = apply_refused_in before
apply_refused_in (acknowledge past ∷ before) = apply_refused_in before
apply_refused_in (hear alive began ∷ before) = apply_refused_in before
apply_refused_in (ask op moment ∷ before) = apply_refused_in before
apply_refused_in (make op reply wanted now result ∷ before) = apply_refused_by result (apply_refused_in before)
apply_refused_in (drop ∷ before) = apply_refused_in before

-- the module is as it is wanted
abbrev pub settled_note : Note → Bool → Bool
settled_note notes.CameUp before = true
settled_note notes.Held before = true
settled_note notes.Quiet before = before
settled_note notes.Identified before = false
settled_note notes.Woken before = false
settled_note notes.Provisioned before = false

abbrev pub settled_by : Outcome → Bool → Bool
settled_by outcome.Dropped before = false
settled_by (outcome.Went note) before = settled_note note before
settled_by (outcome.Paused moment) before = before
settled_by (outcome.Failed fault moment) before = false
settled_by (outcome.Left reason) before = false

-- so it was found to be, and nothing has changed since
abbrev pub settled_in : Story → Bool
settled_in [] = false
settled_in (plug now ∷ before) = false
settled_in (pull ∷ before) = false
settled_in (reconsider ∷ before) = false
settled_in (hold held ∷ before) = false
settled_in (demand request ∷ before) = false
settled_in (acknowledge past ∷ before) = settled_in before
settled_in (hear alive began ∷ before) = settled_in before
settled_in (ask op moment ∷ before) = settled_in before
settled_in (make op reply wanted now result ∷ before) = settled_by result (settled_in before)
settled_in (drop ∷ before) = settled_in before

-- the flags that were read as raised and aren't acknowledged, of this module and of those before it
abbrev pub keeper_in : Story → FlagKeeper
keeper_in [] = unread no_flags
keeper_in (plug now ∷ before) = unread (keeper_in before).flags
keeper_in (pull ∷ before) = unread (keeper_in before).flags
keeper_in (reconsider ∷ before) = keeper_in before
keeper_in (hold held ∷ before) = keeper_in before
keeper_in (demand request ∷ before) = keeper_in before
keeper_in (acknowledge past ∷ before) = acknowledged (keeper_in before) past
keeper_in (hear alive began ∷ before) = keeper_in before
keeper_in (ask op moment ∷ before) = keeper_in before
keeper_in (make op reply wanted now result ∷ before) = noted (keeper_in before) op reply now
keeper_in (drop ∷ before) = keeper_in before

-- it is to hold still
abbrev pub held_in : Story → Bool
held_in [] = false
held_in (plug now ∷ before) = held_in before
held_in (pull ∷ before) = held_in before
held_in (reconsider ∷ before) = held_in before
held_in (hold held ∷ before) = held
held_in (demand request ∷ before) = held_in before
held_in (acknowledge past ∷ before) = held_in before
held_in (hear alive began ∷ before) = held_in before
held_in (ask op moment ∷ before) = held_in before
held_in (make op reply wanted now result ∷ before) = held_in before
held_in (drop ∷ before) = held_in before

abbrev pub request_by : Outcome → Request → Request
request_by outcome.Dropped before = before
request_by (outcome.Went note) before = request_after before note
request_by (outcome.Paused moment) before = before
request_by (outcome.Failed fault moment) before = before
request_by (outcome.Left reason) before = ended before

-- what somebody has asked since the module was plugged, and permission until it is up or left alone
abbrev pub request_in : Story → Request
request_in [] = Wake
request_in (plug now ∷ before) = Wake
request_in (pull ∷ before) = Wake
request_in (reconsider ∷ before) = request_in before
request_in (hold held ∷ before) = request_in before
request_in (demand request ∷ before) = request
request_in (acknowledge past ∷ before) = request_in before
request_in (hear alive began ∷ before) = request_in before
request_in (ask op moment ∷ before) = request_in before
request_in (make op reply wanted now result ∷ before) = request_by result (request_in before)
request_in (drop ∷ before) = request_in before

-- how often in a row it was refused since it was plugged, and since when
abbrev pub silence_in : Story → Silence
silence_in [] = silences.none
silence_in (plug now ∷ before) = silences.none
silence_in (pull ∷ before) = silences.none
silence_in (reconsider ∷ before) = silence_in before
silence_in (hold held ∷ before) = silence_in before
silence_in (demand request ∷ before) = silence_in before
silence_in (acknowledge past ∷ before) = silence_in before
silence_in (hear alive began ∷ before) = silences.after (silence_in before) alive began
silence_in (ask op moment ∷ before) = silence_in before
silence_in (make op reply wanted now result ∷ before) = silence_in before
silence_in (drop ∷ before) = silence_in before
