-- What an attempt knows of page 9Fh by its own steps, the newest first, and that it knows the whole message where it stores the id.
-- (OIF-CMIS-05.0, "CDB Messaging", page 9Fh; this project's own)
use Rattle.std.specs.Prelude.{◌≡◌, ◌<◌, ℕ, ◌+◌, ◌-◌, ◌&&◌, nat_le, nat_lt, List, [], ◌∷◌, length, Option, None, if◌then◌else◌, slice_get}
use Rattle.bus_model.specs.declared.operation.Op.{Op}
use Rattle.bus_model.specs.declared.operation.Op.TheVariants.{Fetch, Store}
use Rattle.bus_model.specs.declared.operation.Reply.{Reply}
use Rattle.bus_model.specs.declared.operation.Reply.TheVariants.{Bytes, Done, Refused}
use Rattle.command_block.specs.declared.message.Message.{Message}
use Rattle.command_block.specs.Attempts.{History}
use Rattle.command_block.specs.Messages.{check_code}
use Rattle.command_block.specs.Operations.{trigger}

-- the byte at this place, if it is one of those from this offset on
abbrev pub byte_among : ℕ → ℕ → List ℕ → Option ℕ → Option ℕ
byte_among place offset bytes was = if nat_le offset place && nat_lt place (offset + length bytes) then slice_get bytes (place - offset) else was

-- what was read or stored is known; a module that refuses may have reset itself
abbrev pub byte_after : ℕ → Op → Reply → Option ℕ → Option ℕ
byte_after place (Fetch dev offset count) (Bytes bytes) was = byte_among place offset bytes.items was
byte_after place (Fetch dev offset count) Done was = was
byte_after place (Fetch dev offset count) Refused was = None
byte_after place (Store dev offset given) (Bytes bytes) was = was
byte_after place (Store dev offset given) Done was = byte_among place offset given.items was
byte_after place (Store dev offset given) Refused was = None

-- as it was read or stored last, since the newest refusal
abbrev pub byte_known : ℕ → History → Option ℕ
byte_known place [] = None
byte_known place (step ∷ before) = byte_after place step.op step.reply (byte_known place before)

-- from byte 130 on: the lengths, the check code, and the body
abbrev pub block : Message → List ℕ
block message = 0 ∷ 0 ∷ length message.body.items ∷ check_code message ∷ 0 ∷ 0 ∷ message.body.items

abbrev pub KnowsBlock : Message → History → Type 0
KnowsBlock message history = (index : ℕ) → index < length (block message) → byte_known (130 + index) history ≡ slice_get (block message) index

-- so it is wherever the id is stored
abbrev pub IsTriggeredOver : Message → History → Type 0
IsTriggeredOver message [] = Unit {0}
IsTriggeredOver message (step ∷ before) = (step.op ≡ trigger message → KnowsBlock message before) × IsTriggeredOver message before
