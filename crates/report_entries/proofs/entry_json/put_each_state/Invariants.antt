use Rattle.std.proofs.Common.{◌≡◌, ◌++◌, map, take}
use Rattle.report_entries.specs.EntryJson.{lane_state_json}
use Rattle.report_entries.specs.JsonTrees.{all_tokens}
use Rattle.report_entries.proofs.entry_json.put_each_state.Given as goal

-- the states so far
abbrev pub invariant-loop-state : goal.invariant-loop-state
invariant-loop-state l = l.out ≡ l.initial.out ++ all_tokens (map lane_state_json (take l.state-index l.states))
