-- What an attempt does in each phase, and what the reply to that says. (OIF-CMIS-05.0, "CDB Messaging"; CdbStatus1, byte 37
-- of the lower memory: bit 7 tells busy, 01h success, bit 6 failure)
use Rattle.std.specs.Prelude.{ℕ, ◌+◌, ◌==◌, ◌&&◌, nat_le, nat_lt, Bool, List, [], ◌∷◌, length, take, Option, Some, None, if◌then◌else◌, sum}
use Rattle.std.specs.Str.{bytes_eq}
use Rattle.bus_model.specs.declared.operation.Op.{Op}
use Rattle.bus_model.specs.declared.operation.Reply.{Reply}
use Rattle.bus_model.specs.declared.operation.Reply.TheVariants as replies
use Rattle.conversations.specs.declared.next.Next.{Next}
use Rattle.conversations.specs.declared.next.Next.TheVariants.{Do, Wait, End}
use Rattle.command_block.specs.declared.attempt.Attempt.{Attempt}
use Rattle.command_block.specs.declared.attempt.Phase.{Phase}
use Rattle.command_block.specs.declared.attempt.Phase.TheVariants.{Delayed, Idle, Filling, Triggering, Resting, Awaiting, Counting, Reading, Checking}
use Rattle.command_block.specs.declared.attempt.Timing.{Timing}
use Rattle.command_block.specs.declared.judgement.Judgement.{Judgement}
use Rattle.command_block.specs.declared.judgement.Judgement.TheVariants.{On, Again, Ends}
use Rattle.command_block.specs.declared.message.Message.{Message}
use Rattle.command_block.specs.declared.outcome.Outcome.{Outcome}
use Rattle.command_block.specs.declared.outcome.Outcome.TheVariants.{Succeeded, Failed, Unsent, Unknown}
use Rattle.command_block.specs.Messages.{complement}
use Rattle.command_block.specs.Operations.{head, piece, read_back, read_count, read_reply, read_status, trigger}

-- ---- what is wanted

-- a piece of the body, or behind all of them the header
abbrev pub filling : Message → ℕ → Op
filling message at = if nat_lt at (length message.body.items) then piece message at else head message

abbrev pub next_at : Message → Timing → Phase → Next Outcome
next_at message timing Delayed = Wait timing.delay
next_at message timing Idle = Do read_status
next_at message timing (Filling at) = Do (filling message at)
next_at message timing Triggering = Do (trigger message)
next_at message timing Resting = Wait timing.rest
next_at message timing Awaiting = Do read_status
next_at message timing Counting = Do read_count
next_at message timing (Reading count check) = Do (read_reply count)
next_at message timing (Checking at) = Do (read_back message at)

abbrev pub wants_by : Attempt → Option Outcome → Next Outcome
wants_by attempt None = next_at attempt.message attempt.timing attempt.phase
wants_by attempt (Some outcome) = End outcome

abbrev pub wants : Attempt → Next Outcome
wants attempt = wants_by attempt attempt.outcome

-- the command data block is on page 9Fh, the status in the lower memory
abbrev pub page_at : Phase → Option ℕ
page_at Delayed = None
page_at Idle = None
page_at (Filling at) = Some 159
page_at Triggering = Some 159
page_at Resting = None
page_at Awaiting = None
page_at Counting = Some 159
page_at (Reading count check) = Some 159
page_at (Checking at) = Some 159

abbrev pub page_by : Phase → Option Outcome → Option ℕ
page_by phase None = page_at phase
page_by phase (Some outcome) = None

abbrev pub page_of : Attempt → Option ℕ
page_of attempt = page_by attempt.phase attempt.outcome

-- ---- what a reply says

abbrev pub after_piece : ℕ → ℕ → Judgement
after_piece count at = if nat_lt at count then On (Filling (at + 8)) else On Triggering

abbrev pub if_done : Message → Phase → Judgement
if_done message (Filling at) = after_piece (length message.body.items) at
if_done message Triggering = On Resting
if_done message _ = Again

-- a module that refuses may have reset itself, so what was stored of the body is read back before more is
abbrev pub doubted : ℕ → Judgement
doubted at = if at == 0 then Again else On (Checking at)

abbrev pub if_refused : Phase → Judgement
if_refused (Filling at) = doubted at
if_refused Triggering = Ends Unknown
if_refused _ = Again

abbrev pub after_idle : List ℕ → Judgement
after_idle (status ∷ []) = if nat_lt status 128 then On (Filling 0) else Again
after_idle _ = Again

abbrev pub by_status : Bool → ℕ → Judgement
by_status wanted status =
    if status == 1 then (if wanted then On Counting else Ends (Succeeded (record { items = [] })))
    else (if nat_le 64 status && nat_lt status 128 then Ends (Failed status) else Again)

abbrev pub after_status : Bool → List ℕ → Judgement
after_status wanted (status ∷ []) = by_status wanted status
after_status wanted _ = Again

abbrev pub after_count : List ℕ → Judgement
after_count (count ∷ check ∷ []) = if nat_lt 0 count && nat_le count 120 then On (Reading count check) else Again
after_count _ = Again

-- a reply with another check code may be a part of one, so the module is given time
abbrev pub after_bytes : ℕ → List ℕ → Judgement
after_bytes check bytes = if nat_le (length bytes) 128 && complement (sum bytes) == check then Ends (Succeeded (record { items = bytes })) else On Resting

-- the module has the body below this byte, or the body is stored anew
abbrev pub after_back : List ℕ → ℕ → List ℕ → Judgement
after_back body at bytes = if bytes_eq bytes (take at body) then On (Filling at) else On (Filling 0)

abbrev pub if_bytes : Message → Phase → List ℕ → Judgement
if_bytes message Delayed bytes = Again
if_bytes message Idle bytes = after_idle bytes
if_bytes message (Filling at) bytes = doubted at
if_bytes message Triggering bytes = Ends Unknown
if_bytes message Resting bytes = Again
if_bytes message Awaiting bytes = after_status message.replies bytes
if_bytes message Counting bytes = after_count bytes
if_bytes message (Reading count check) bytes = after_bytes check bytes
if_bytes message (Checking at) bytes = after_back message.body.items at bytes

abbrev pub judged : Message → Phase → Reply → Judgement
judged message phase (replies.Bytes bytes) = if_bytes message phase bytes.items
judged message phase replies.Done = if_done message phase
judged message phase replies.Refused = if_refused phase

-- ---- what becomes of an attempt

abbrev pub first_phase : Timing → Phase
first_phase timing = if timing.delay == 0 then Idle else Delayed

abbrev pub begun : Message → Timing → Attempt
begun message timing = record { message = message; timing = timing; phase = first_phase timing; outcome = None }

abbrev pub phase_after : Phase → Judgement → Phase
phase_after phase (On later) = later
phase_after phase Again = phase
phase_after phase (Ends outcome) = phase

abbrev pub outcome_after : Option Outcome → Judgement → Option Outcome
outcome_after known (On later) = known
outcome_after known Again = known
outcome_after known (Ends outcome) = Some outcome

abbrev pub settled : Attempt → Judgement → Attempt
settled attempt judgement = record { message = attempt.message; timing = attempt.timing; phase = phase_after attempt.phase judgement; outcome = outcome_after attempt.outcome judgement }

abbrev pub taken : Attempt → Reply → Attempt
taken attempt reply = settled attempt (judged attempt.message attempt.phase reply)

abbrev pub phase_rested : Phase → Phase
phase_rested Delayed = Idle
phase_rested Resting = Awaiting
phase_rested phase = phase

abbrev pub rested : Attempt → Attempt
rested attempt = record { message = attempt.message; timing = attempt.timing; phase = phase_rested attempt.phase; outcome = attempt.outcome }

-- what is known if nothing more is done: once the id was taken, it may have been carried out
abbrev pub given_up : Phase → Outcome
given_up Delayed = Unsent
given_up Idle = Unsent
given_up (Filling at) = Unsent
given_up Triggering = Unsent
given_up Resting = Unknown
given_up Awaiting = Unknown
given_up Counting = Unknown
given_up (Reading count check) = Unknown
given_up (Checking at) = Unsent

abbrev pub known_by : Phase → Option Outcome → Outcome
known_by phase None = given_up phase
known_by phase (Some outcome) = outcome

abbrev pub known : Attempt → Outcome
known attempt = known_by attempt.phase attempt.outcome

-- the module has no page 9Fh
abbrev pub lacking : Attempt → Attempt
lacking attempt = record { message = attempt.message; timing = attempt.timing; phase = attempt.phase; outcome = Some (known attempt) }
