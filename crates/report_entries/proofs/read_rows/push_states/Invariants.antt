use Rattle.std.proofs.Common.{◌≡◌, ◌++◌, map}
use Rattle.std.specs.List.{range_with_len}
use Rattle.report_entries.specs.Rows.{lane_state_at}
use Rattle.report_entries.proofs.read_rows.push_states.Given as goal

-- the lanes so far
abbrev pub invariant-loop-before : goal.invariant-loop-before
invariant-loop-before l = l.states.items ≡ l.initial.states.items ++ map (lane_state_at l.image l.paths l.statuses) (range_with_len 1 l.before)
