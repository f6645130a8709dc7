use Rattle.std.proofs.Common.{take}
use Rattle.std.specs.Fmt.{HasWritten, IsPlainFormatter}
use Rattle.report_entries.specs.Shown.{spaced_bytes}
use Rattle.report_entries.proofs.shown.SpacedBytesDisplay.fmt.Given as goal

-- the bytes so far
abbrev pub invariant-loop-byte : goal.invariant-loop-byte
invariant-loop-byte g l =
    IsPlainFormatter l.initial.f → HasWritten g.W.Write.write_str_gives l.initial.f (spaced_bytes (take l.byte-index l.byte-items)) l.f
