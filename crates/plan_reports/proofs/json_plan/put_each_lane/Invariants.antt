use Rattle.std.proofs.Common.{◌≡◌, ◌++◌, map}
use Rattle.std.specs.List.{range_with_len}
use Rattle.report_entries.specs.EntryJson.{count_json}
use Rattle.report_entries.specs.JsonTrees.{all_tokens}
use Rattle.plan_reports.proofs.json_plan.put_each_lane.Given as goal

-- the lanes so far
abbrev pub invariant-loop-index : goal.invariant-loop-index
invariant-loop-index l = l.out ≡ l.initial.out ++ all_tokens (map count_json (range_with_len l.first l.index))
