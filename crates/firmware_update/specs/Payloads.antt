-- What each command is as a message of the command data block: its id, its body, and whether a reply is read.
-- (OIF-CMIS-05.0, CMD 0001h, 0041h, 0100h to 0103h, 0107h, 0109h and 010Ah)
use Rattle.std.specs.Prelude.{ℕ, ◌+◌, ◌/◌, ◌%◌, ◌≤◌, ◌==◌, Bool, true, false, List, [], ◌∷◌, ◌++◌, length, take, drop, if◌then◌else◌}
use Rattle.command_block.specs.declared.message.Message.{Message}
use Rattle.command_block.specs.declared.outcome.Outcome.{Outcome}
use Rattle.command_block.specs.declared.outcome.Outcome.TheVariants.{Succeeded, Failed, Unsent, Unknown}
use Rattle.firmware_update.specs.declared.command.Command.{Command}
use Rattle.firmware_update.specs.declared.command.Command.TheVariants.{Features, Info, Start, Block, Complete, Abort, Run, Commit}
use Rattle.firmware_update.specs.Blocks.{block_length}
use Rattle.firmware_update.specs.Exchanges.{History}

-- four bytes, the highest first; below 2^32 each is below 256
abbrev pub be32 : ℕ → List ℕ
be32 n = n / 16777216 ∷ n / 65536 % 256 ∷ n / 256 % 256 ∷ n % 256 ∷ []

abbrev pub message : ℕ → List ℕ → Bool → Message
message number bytes wanted = record { id = number; body = record { items = bytes }; replies = wanted }

-- 0001h
abbrev pub password_message : ℕ → Message
password_message password = message 1 (be32 password) false

-- 0041h
abbrev pub features_message : Message
features_message = message 65 [] true

-- 0100h
abbrev pub info_message : Message
info_message = message 256 [] true

-- 0101h: the size of the whole file, four bytes that are kept free, and the file's first bytes
abbrev pub start_message : ℕ → List ℕ → Message
start_message size first = message 257 (be32 size ++ 0 ∷ 0 ∷ 0 ∷ 0 ∷ first) false

-- 0103h: the address of these bytes among those behind the first ones
abbrev pub block_message : ℕ → List ℕ → Message
block_message address bytes = message 259 (be32 address ++ bytes) false

-- 0102h
abbrev pub abort_message : Message
abort_message = message 258 [] false

-- 0107h
abbrev pub complete_message : Message
complete_message = message 263 [] false

-- 0109h: to the image that doesn't run, with a reset, at once
abbrev pub run_message : Message
run_message = message 265 (0 ∷ 0 ∷ 0 ∷ 0 ∷ []) false

-- 010Ah
abbrev pub commit_message : Message
commit_message = message 266 [] false

-- the bytes of the block at an address
abbrev pub block_bytes : List ℕ → ℕ → ℕ → List ℕ
block_bytes file header address = take (block_length (length file) header address) (drop (header + address) file)

abbrev pub message_of : List ℕ → Command → Message
message_of file Features = features_message
message_of file Info = info_message
message_of file (Start header) = start_message (length file) (take header file)
message_of file (Block header address) = block_message address (block_bytes file header address)
message_of file Complete = complete_message
message_of file Abort = abort_message
message_of file Run = run_message
message_of file Commit = commit_message

-- a Start has room for so many of the file's first bytes
abbrev pub HasRoom : Command → Type 0
HasRoom Features = Unit {0}
HasRoom Info = Unit {0}
HasRoom (Start header) = header ≤ 112
HasRoom (Block header address) = Unit {0}
HasRoom Complete = Unit {0}
HasRoom Abort = Unit {0}
HasRoom Run = Unit {0}
HasRoom Commit = Unit {0}

-- the bytes of the file that stand in a message, as its receiver sees them: behind eight bytes of a Start, behind four of a
-- block
abbrev pub file_bytes : Message → List ℕ
file_bytes sent = if sent.id == 257 then drop 8 sent.body.items else (if sent.id == 259 then drop 4 sent.body.items else [])

abbrev pub if_accepted : Outcome → List ℕ → List ℕ
if_accepted (Succeeded reply) bytes = bytes
if_accepted (Failed code) bytes = []
if_accepted Unsent bytes = []
if_accepted Unknown bytes = []

-- those of all messages that were carried out, in their order
abbrev pub accepted : List ℕ → History → List ℕ
accepted file [] = []
accepted file (x ∷ before) = accepted file before ++ if_accepted x.outcome (file_bytes (message_of file x.command))
