use Rattle.std.proofs.Common.{◌≡◌, ◌≤◌, ◌+◌, ◌*◌, length, take}
use Rattle.report_entries.specs.Rows.{states_in}
use Rattle.report_entries.proofs.read_rows.lane_states.Given as goal

-- the lanes of the banks so far, and how many they are
abbrev pub invariant-loop-bank : goal.invariant-loop-bank
invariant-loop-bank l = record {
  states : l.states.items ≡ states_in l.image (take l.bank-index l.banks) l.paths l.statuses;
  few : length l.states.items ≤ 8 + 8 * l.bank-index;
}
