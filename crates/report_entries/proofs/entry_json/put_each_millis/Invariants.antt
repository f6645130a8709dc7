use Rattle.std.proofs.Common.{◌≡◌, ◌++◌, map, take}
use Rattle.report_entries.specs.EntryJson.{amount_json}
use Rattle.report_entries.specs.JsonTrees.{all_tokens}
use Rattle.report_entries.proofs.entry_json.put_each_millis.Given as goal

-- the amounts so far
abbrev pub invariant-loop-millis : goal.invariant-loop-millis
invariant-loop-millis l = l.out ≡ l.initial.out ++ all_tokens (map amount_json (take l.millis-index l.values))
