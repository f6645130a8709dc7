use Rattle.std.proofs.Common.{◌≡◌, ◌++◌, map, take}
use Rattle.report_entries.specs.EntryJson.{flag_json}
use Rattle.report_entries.specs.JsonTrees.{all_tokens}
use Rattle.report_entries.proofs.entry_json.put_each_flag.Given as goal

-- the flags so far
abbrev pub invariant-loop-flag : goal.invariant-loop-flag
invariant-loop-flag l = l.out ≡ l.initial.out ++ all_tokens (map flag_json (take l.flag-index l.flags))
