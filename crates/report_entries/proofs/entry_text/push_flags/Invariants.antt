use Rattle.std.proofs.Common.{◌≡◌, ◌++◌, map, take}
use Rattle.text_lines.specs.Lines.{text_of}
use Rattle.report_entries.specs.Flags.{flag_line}
use Rattle.report_entries.proofs.entry_text.push_flags.Given as goal

-- the flags so far
abbrev pub invariant-loop-flag : goal.invariant-loop-flag
invariant-loop-flag l = l.report ≡ l.initial.report ++ text_of (map (flag_line l.name) (take l.flag-index l.flags))
