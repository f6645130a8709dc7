use Rattle.std.proofs.Common.{◌≡◌, take}
use Rattle.module_metrics.specs.FlagMetrics.{each_raised}
use Rattle.module_metrics.proofs.module_metrics.each_raised.Given as goal

-- the flags so far
abbrev pub invariant-loop-flag : goal.invariant-loop-flag
invariant-loop-flag l = l.shown.items ≡ each_raised (take l.flag-index l.flags)
