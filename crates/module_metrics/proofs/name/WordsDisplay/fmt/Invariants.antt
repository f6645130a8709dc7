use Rattle.std.proofs.Common.{take}
use Rattle.std.specs.Fmt.{HasWritten, IsPlainFormatter}
use Rattle.module_metrics.specs.MetricNames.{words}
use Rattle.module_metrics.proofs.name.WordsDisplay.fmt.Given as goal

-- the letters of the bytes so far
abbrev pub invariant-loop-byte : goal.invariant-loop-byte
invariant-loop-byte g l =
    IsPlainFormatter l.initial.f → HasWritten g.W.Write.write_str_gives l.initial.f (words 32 (take l.byte-index l.byte-items)) l.f
