use Rattle.std.proofs.Common.{◌≡◌, ◌++◌, map, take}
use Rattle.report_entries.specs.EntryJson.{app_json}
use Rattle.report_entries.specs.JsonTrees.{all_tokens}
use Rattle.report_entries.proofs.entry_json.put_each_app.Given as goal

-- the Applications so far
abbrev pub invariant-loop-app : goal.invariant-loop-app
invariant-loop-app l = l.out ≡ l.initial.out ++ all_tokens (map app_json (take l.app-index l.apps))
