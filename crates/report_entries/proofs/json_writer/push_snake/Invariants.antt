use Rattle.std.proofs.Common.{◌≡◌, ◌++◌, map, take}
use Rattle.std.specs.String.{string_bytes}
use Rattle.report_entries.specs.EntryJson.{key_byte}
use Rattle.report_entries.proofs.json_writer.push_snake.Given as goal

-- the letters of the bytes so far
abbrev pub invariant-loop-byte : goal.invariant-loop-byte
invariant-loop-byte l = string_bytes l.text ≡ string_bytes l.initial.text ++ map key_byte (take l.byte-index l.byte-items)
