use Rattle.std.proofs.Common.{◌≡◌, ◌+◌, ◌++◌, drop}
use Rattle.text_lines.specs.Lines.{text_of}
use Rattle.plan_reports.specs.Trace.{lines_from, trace_lines}
use Rattle.plan_reports.proofs.trace.trace_text.Given as goal

-- the text so far, with the lines of the steps that are left, is the whole one
abbrev pub invariant-loop-index : goal.invariant-loop-index
invariant-loop-index l = l.text.items ++ text_of (lines_from (l.index + 1) (drop l.index l.steps)) ≡ text_of (trace_lines l.steps)
