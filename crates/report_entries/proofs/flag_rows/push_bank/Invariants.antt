use Rattle.std.proofs.Common.{◌≡◌, ◌++◌, map}
use Rattle.std.specs.List.{range_with_len}
use Rattle.report_entries.specs.FlagRows.{lane_flag}
use Rattle.report_entries.specs.Flags.{raised}
use Rattle.report_entries.proofs.flag_rows.push_bank.Given as goal

-- the lanes so far
abbrev pub invariant-loop-before : goal.invariant-loop-before
invariant-loop-before l = l.flags.items ≡ l.initial.flags.items ++ raised (map (lane_flag l.name l.field l.bank l.lanes) (range_with_len 1 l.before))
