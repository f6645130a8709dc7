use Rattle.std.proofs.Common.{◌+◌, ◌-◌, ◌*◌, ◌≤◌, map}
use Rattle.std.specs.List.{AllByRecursion}
use Rattle.text_lines.specs.Lines.{text_of}
use Rattle.plan_certificate.specs.declared.line.Line.TheVariants.{StateLine}
use Rattle.plan_certificate.specs.CertificateText.{IsEntryInRange, line_text}
use Rattle.lane_planner.specs.Buffers.{Puts}
use Rattle.lane_planner.specs.Tables.{marked_entries}
use Rattle.lane_planner.proofs.written.put_entries.Given as goal

-- the lines of the marked states so far are put
abbrev pub invariant-loop-place : goal.invariant-loop-place
invariant-loop-place l = record {
  put : Puts (text_of (map line_text (map StateLine (marked_entries l.marks l.table l.from)))) l.fn.buffer l.fn.len l.buffer l.len;
  each : AllByRecursion IsEntryInRange (marked_entries l.marks l.table l.from);
  small : l.len ≤ l.fn.len + 32 * l.from;
  within : l.from ≤ 2304;
}

abbrev pub decreases-loop-place : goal.decreases-loop-place
decreases-loop-place l = 2304 - l.from
