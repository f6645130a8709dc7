use Rattle.std.proofs.Common.{map, take}
use Rattle.std.specs.Fmt.{HasWritten, IsPlainFormatter}
use Rattle.module_decoding.specs.PaddedTexts.{shown_byte}
use Rattle.report_entries.proofs.shown.TextInDisplay.fmt.Given as goal

-- the letters of the bytes so far
abbrev pub invariant-loop-byte : goal.invariant-loop-byte
invariant-loop-byte g l =
    IsPlainFormatter l.initial.f → HasWritten g.W.Write.write_str_gives l.initial.f (map shown_byte (take l.byte-index l.byte-items)) l.f
