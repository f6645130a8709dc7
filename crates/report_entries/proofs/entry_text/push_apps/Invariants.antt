use Rattle.std.proofs.Common.{◌≡◌, ◌++◌, map, take}
use Rattle.text_lines.specs.Lines.{text_of}
use Rattle.report_entries.specs.AppText.{app_line}
use Rattle.report_entries.proofs.entry_text.push_apps.Given as goal

-- the Applications so far
abbrev pub invariant-loop-app : goal.invariant-loop-app
invariant-loop-app l = l.report ≡ l.initial.report ++ text_of (map (app_line l.name) (take l.app-index l.apps))
