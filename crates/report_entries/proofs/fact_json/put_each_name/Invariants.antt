use Rattle.std.proofs.Common.{◌≡◌, ◌++◌, map, take}
use Rattle.report_entries.specs.EntryJson.{shown_json}
use Rattle.report_entries.specs.JsonTrees.{all_tokens}
use Rattle.report_entries.proofs.fact_json.put_each_name.Given as goal

-- the names so far
abbrev pub invariant-loop-name : goal.invariant-loop-name
invariant-loop-name l = l.out ≡ l.initial.out ++ all_tokens (map shown_json (take l.name-index l.names))
