-- A conversation over a bus that carries few bytes at once: each half of 128 bytes that it fetches comes in pieces. (docs/bus.md,
-- "Reading an image"; this project's own)
use Rattle.std.specs.Prelude.{◌≡◌, ◌⊎◌, ℕ, ◌+◌, ◌-◌, ◌==◌, ◌<◌, ◌&&◌, nat_lt, Bool, false, List, [], ◌∷◌, ◌++◌, length, Option, Some, None, if◌then◌else◌}
use Rattle.bus_model.specs.declared.device.Dev.{Dev}
use Rattle.bus_model.specs.declared.operation.Op.{Op}
use Rattle.bus_model.specs.declared.operation.Op.TheVariants.{Fetch, Store}
use Rattle.bus_model.specs.declared.operation.Reply.{Reply}
use Rattle.bus_model.specs.declared.operation.Reply.TheVariants.{Bytes, Done, Refused}
use Rattle.conversations.specs.declared.event.Event.TheVariants.{Made, Waited, Lacked, Asked}
use Rattle.conversations.specs.declared.next.Next.{Next}
use Rattle.conversations.specs.declared.next.Next.TheVariants.{Do, Wait, End}
use Rattle.conversations.specs.declared.in_pieces.InPieces.{InPieces}
use Rattle.conversations.specs.Events.{Events, made}
use Rattle.conversations.specs.Pauses.{is_refused, is_same_fetch}
use Rattle.conversations.specs.Wanted.{op_of}

-- ---- what is asked for

-- a half is asked for
abbrev pub is_half : Op → Bool
is_half (Fetch dev offset count) = count == 128
is_half (Store dev offset bytes) = false

abbrev pub is_half_in : {E : Type 0} → Next E → Bool
is_half_in (Do op) = is_half op
is_half_in (Wait time) = false
is_half_in (End end) = false

-- pieces have bytes, and a half that was read whole is no part
abbrev pub fits : ℕ → List ℕ → Bool
fits piece part = nat_lt 0 piece && nat_lt (length part) 128

-- so many bytes, unless fewer are left of the half
abbrev pub bytes_of_piece : ℕ → ℕ → ℕ
bytes_of_piece piece read = if nat_lt piece (128 - read) then piece else 128 - read

-- of a half, the bytes after those that were read
abbrev pub piece_of : ℕ → List ℕ → Op → Op
piece_of piece part (Fetch dev offset count) =
    if fits piece part && count == 128 then Fetch dev (offset + length part) (bytes_of_piece piece (length part)) else Fetch dev offset count
piece_of piece part (Store dev offset bytes) = Store dev offset bytes

abbrev pub next_piece : {E : Type 0} → ℕ → List ℕ → Next E → Next E
next_piece piece part (Do op) = Do (piece_of piece part op)
next_piece piece part (Wait time) = Wait time
next_piece piece part (End end) = End end

-- ---- what a reply is

-- the whole half, or nothing yet
abbrev pub half_of : List ℕ → Option Reply
half_of bytes = if length bytes == 128 then Some (Bytes (record { items = bytes })) else None

abbrev pub bytes_in : Reply → List ℕ
bytes_in (Bytes bytes) = bytes.items
bytes_in Done = []
bytes_in Refused = []

-- what the conversation within is told by it
abbrev pub whole_reply : {E : Type 0} → ℕ → List ℕ → Next E → Reply → Option Reply
whole_reply piece part asked (Bytes bytes) = if fits piece part && is_half_in asked then half_of (part ++ bytes.items) else Some (Bytes bytes)
whole_reply piece part asked Done = Some Done
whole_reply piece part asked Refused = Some Refused

-- the half that was wanted before is wanted still
abbrev pub is_same_wanted : Option Op → Option Op → Bool
is_same_wanted (Some op) (Some next) = is_same_fetch op next
is_same_wanted (Some op) None = false
is_same_wanted None next = false

-- of a part that stays, or none
abbrev pub part_left : Bool → List ℕ → List ℕ
part_left again part = if again then part else []

abbrev pub after_told : {C E : Type 0} → (C → Next E) → (C → Reply → C) → InPieces C → Reply → Option Reply → InPieces C
after_told wants after pieces reply None = record { conversation = pieces.conversation; piece = pieces.piece; part = record { items = pieces.part.items ++ bytes_in reply } }
after_told wants after pieces reply (Some whole) = record {
  conversation = after pieces.conversation whole;
  piece = pieces.piece;
  part = record { items = part_left (is_refused reply && is_same_wanted (op_of (wants pieces.conversation)) (op_of (wants (after pieces.conversation whole)))) pieces.part.items };
}

-- what a reply makes of the conversation within and of the part
abbrev pub after_piece : {C E : Type 0} → (C → Next E) → (C → Reply → C) → InPieces C → Reply → InPieces C
after_piece wants after pieces reply = after_told wants after pieces reply (whole_reply pieces.piece pieces.part.items (wants pieces.conversation) reply)

-- ---- what the steps say

-- the operation fetches bytes of the half after so many of it
abbrev pub IsPiece : Op → ℕ → Op → Type 0
IsPiece half read op = (dev : Dev) × (offset count : ℕ) × (half ≡ Fetch dev offset 128) × (op ≡ Fetch dev (offset + read) count)

abbrev pub items_of : List ℕ → Reply
items_of bytes = Bytes (record { items = bytes })

-- the events were joined so, but for the first bytes of the half that were read since
abbrev pub Joins : Events → Events → Op → List ℕ → Type 0
Joins [] own half part = (own ≡ []) × (part ≡ [])
Joins (Made step ∷ before) own half part =
    -- a step by itself
    ((other : Op) × (earlier : Events) × Joins before earlier other [] × (own ≡ Made step ∷ earlier) × (part ≡ []))
    -- a piece that was refused: its half was; what was read of it is kept, or not
    ⊎ (((whole : Op) × (earlier : Events) × (read : List ℕ) × Joins before earlier whole read × IsPiece whole (length read) step.op × (step.reply ≡ Refused) × (own ≡ made whole Refused ∷ earlier)
    × (((half ≡ whole) × (part ≡ read)) ⊎ (part ≡ [])))
    -- a piece that was read
    ⊎ (((read bytes : List ℕ) × Joins before own half read × IsPiece half (length read) step.op × (step.reply ≡ items_of bytes) × (part ≡ read ++ bytes) × (length part < 128))
    -- the last piece
    ⊎ ((whole : Op) × (earlier : Events) × (read bytes : List ℕ) × Joins before earlier whole read × IsPiece whole (length read) step.op
    × (step.reply ≡ items_of bytes) × (length (read ++ bytes) ≡ 128) × (own ≡ made whole (items_of (read ++ bytes)) ∷ earlier) × (part ≡ []))))
Joins (Waited time ∷ before) own half part = (other : Op) × (earlier : Events) × Joins before earlier other [] × (own ≡ Waited time ∷ earlier) × (part ≡ [])
Joins (Lacked page ∷ before) own half part = ⊥
-- what was read of a half is kept, or not
Joins (Asked number ∷ before) own half part = (whole : Op) × (earlier : Events) × (read : List ℕ) × Joins before earlier whole read
    × (own ≡ Asked number ∷ earlier) × (((half ≡ whole) × (part ≡ read)) ⊎ (part ≡ []))

-- joined, they are what the conversation within knows of
abbrev pub InHalves : (Events → Type 0) → Events → Type 0
InHalves P events = (own : Events) × (half : Op) × Joins events own half [] × P own

-- the last half may be unfinished
abbrev pub InHalvesSoFar : (Events → Type 0) → Events → Type 0
InHalvesSoFar P events = (own : Events) × (half : Op) × (part : List ℕ) × Joins events own half part × P own

-- and the part is of the half that is asked for
pub record IsInPieces {E : Type 0} (Told : Events → Type 0) (asked : Next E) (piece : ℕ) (part : List ℕ) (events : Events) : Type 0 where
  pub some : 0 < piece
  pub short : length part < 128
  pub own : Events
  pub was_told : Told own
  pub half : Op
  pub joins : Joins events own half part
  pub in_hand : (op : Op) → asked ≡ Do op → Joins events own op part
  pub alone : is_half_in asked ≡ false → part ≡ []
