use Rattle.std.proofs.Common.{◌≡◌, ◌++◌, map, take}
use Rattle.report_entries.specs.Entries.{entry_of}
use Rattle.report_entries.specs.EntryJson.{entries_members}
use Rattle.report_entries.specs.JsonTrees.{all_member_tokens}
use Rattle.report_entries.proofs.entry_json.put_entries.Given as goal

-- the entries so far
abbrev pub invariant-loop-entry : goal.invariant-loop-entry
invariant-loop-entry l = l.out ≡ l.initial.out ++ all_member_tokens (entries_members (map entry_of (take l.entry-index l.entries)))
