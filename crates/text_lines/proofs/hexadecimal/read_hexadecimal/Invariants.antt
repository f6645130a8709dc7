use Rattle.text_lines.proofs.HexWords.{AreRead}
use Rattle.text_lines.proofs.hexadecimal.read_hexadecimal.Given as goal

-- the bytes so far
abbrev pub invariant-loop-byte : goal.invariant-loop-byte
invariant-loop-byte g l = AreRead g.row.N l.word l.byte-items l.byte-index l.rest
