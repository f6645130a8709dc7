-- A message of the command data block: an id and a body, and the code that checks them. (OIF-CMIS-05.0, "CDB Command
-- Header")
use Rattle.std.specs.Prelude.{ℕ, ◌+◌, ◌-◌, ◌/◌, ◌%◌, length}
use Rattle.std.specs.Prelude.{sum}
use Rattle.command_block.specs.declared.message.Message.{Message}

-- the one's complement of the lowest byte
abbrev pub complement : ℕ → ℕ
complement n = 255 - n % 256

-- over the id, the length of the body, and the body; the length of an extended payload is 0
abbrev pub check_code : Message → ℕ
check_code message = complement (message.id / 256 + message.id % 256 + length message.body.items + sum message.body.items)
