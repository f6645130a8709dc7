use Rattle.text_lines.proofs.Decimals.{AreRead}
use Rattle.text_lines.proofs.decimal.read_number.Given as goal

-- the digits so far
abbrev pub invariant-loop-byte : goal.invariant-loop-byte
invariant-loop-byte l = AreRead l.word l.byte-index l.number
