use Rattle.std.proofs.Common.{take}
use Rattle.std.specs.Fmt.{HasWritten, IsPlainFormatter}
use Rattle.report_entries.specs.Facts.{texts_of}
use Rattle.report_entries.specs.FactText.{spaced_names}
use Rattle.report_entries.proofs.shown_fact.SpacedNamesDisplay.fmt.Given as goal

-- the names so far
abbrev pub invariant-loop-name : goal.invariant-loop-name
invariant-loop-name g l =
    IsPlainFormatter l.initial.f → HasWritten g.W.Write.write_str_gives l.initial.f (spaced_names (texts_of (take l.name-index l.name-items))) l.f
