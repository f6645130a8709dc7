use Rattle.std.proofs.Common.{◌≡◌, ◌≤◌, length, take}
use Rattle.report_entries.specs.Flags.{raised}
use Rattle.module_metrics.specs.FlagMetrics.{flags_in}
use Rattle.module_metrics.proofs.flag_metrics.count_raised.Given as goal

-- those so far
abbrev pub invariant-loop-flag : goal.invariant-loop-flag
invariant-loop-flag l = record {
  value : l.count ≡ length (raised (flags_in l.lanes (take l.flag-index l.flags)));
  few : l.count ≤ l.flag-index;
}
