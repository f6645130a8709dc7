-- The operations of one attempt. (OIF-CMIS-05.0, "CDB Messaging", page 9Fh; CdbStatus1, byte 37 of the lower memory)
use Rattle.std.specs.Prelude.{ℕ, ◌+◌, ◌/◌, ◌%◌, min, max, [], ◌∷◌, length, slice_range}
use Rattle.bus_model.specs.declared.device.Dev.TheVariants.{A0}
use Rattle.bus_model.specs.declared.operation.Op.{Op}
use Rattle.bus_model.specs.declared.operation.Op.TheVariants.{Fetch, Store}
use Rattle.command_block.specs.declared.message.Message.{Message}
use Rattle.command_block.specs.Messages.{check_code}

abbrev pub read_status : Op
read_status = Fetch A0 37 1

-- up to eight bytes of the body, from one of its bytes on
abbrev pub piece : Message → ℕ → Op
piece message at = Store A0 (136 + at) (record { items = slice_range message.body.items at (min (at + 8) (length message.body.items)) })

-- what was stored of the body below this byte
abbrev pub read_back : Message → ℕ → Op
read_back message at = Fetch A0 136 (max 1 (min at (length message.body.items)))

-- no extended payload, the length of the body, and the check code; the length and the check code of the reply are cleared
abbrev pub head : Message → Op
head message = Store A0 130 (record { items = 0 ∷ 0 ∷ length message.body.items ∷ check_code message ∷ 0 ∷ 0 ∷ [] })

-- the id: the store of its second byte has the module carry the message out
abbrev pub trigger : Message → Op
trigger message = Store A0 128 (record { items = message.id / 256 ∷ message.id % 256 ∷ [] })

-- the length of the reply and its check code
abbrev pub read_count : Op
read_count = Fetch A0 134 2

-- a reply has 1 to 120 bytes
abbrev pub read_reply : ℕ → Op
read_reply count = Fetch A0 136 (max 1 (min count 120))
