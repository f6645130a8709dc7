use Rattle.std.proofs.Common.{◌≡◌, ◌++◌, map, take}
use Rattle.report_entries.specs.EntryJson.{count_json}
use Rattle.report_entries.specs.JsonTrees.{all_tokens}
use Rattle.plan_reports.proofs.json_plan.put_each_number.Given as goal

-- the bytes so far
abbrev pub invariant-loop-byte : goal.invariant-loop-byte
invariant-loop-byte l = l.out ≡ l.initial.out ++ all_tokens (map count_json (take l.byte-index l.bytes))
