use Rattle.std.proofs.Common.{◌≡◌, ◌++◌, take}
use Rattle.text_lines.specs.Lines.{text_of}
use Rattle.report_entries.specs.EntryText.{lane_lines}
use Rattle.report_entries.proofs.entry_text.push_lanes.Given as goal

-- the lanes so far
abbrev pub invariant-loop-index : goal.invariant-loop-index
invariant-loop-index l = l.report ≡ l.initial.report ++ text_of (lane_lines l.name l.unit (take l.index l.values))
