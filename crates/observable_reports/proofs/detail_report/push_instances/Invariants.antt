use Rattle.std.proofs.Common.{◌≡◌, ◌++◌, take}
use Rattle.std.specs.List.{flat_map}
use Rattle.text_lines.specs.Lines.{text_of}
use Rattle.observable_reports.specs.Details.{instance_lines}
use Rattle.observable_reports.proofs.detail_report.push_instances.Given as goal

-- the instances so far
abbrev pub invariant-loop-one : goal.invariant-loop-one
invariant-loop-one l = l.report ≡ l.initial.report ++ text_of (flat_map instance_lines (take l.one-index l.seen))
