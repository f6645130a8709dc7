use Rattle.std.proofs.Common.{◌≡◌, ◌++◌, map, take}
use Rattle.report_entries.specs.Entries.{entry_of}
use Rattle.report_entries.specs.EntryText.{report_text}
use Rattle.report_entries.proofs.entry_text.push_entries.Given as goal

-- the entries so far
abbrev pub invariant-loop-entry : goal.invariant-loop-entry
invariant-loop-entry l = l.report ≡ l.initial.report ++ report_text (map entry_of (take l.entry-index l.entries))
