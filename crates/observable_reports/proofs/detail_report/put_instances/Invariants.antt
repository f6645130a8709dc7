use Rattle.std.proofs.Common.{◌≡◌, ◌++◌, take}
use Rattle.std.specs.List.{flat_map}
use Rattle.report_entries.specs.JsonTrees.{all_member_tokens}
use Rattle.observable_reports.specs.Details.{instance_members}
use Rattle.observable_reports.proofs.detail_report.put_instances.Given as goal

-- the instances so far
abbrev pub invariant-loop-one : goal.invariant-loop-one
invariant-loop-one l = l.out ≡ l.initial.out ++ all_member_tokens (flat_map instance_members (take l.one-index l.seen))
