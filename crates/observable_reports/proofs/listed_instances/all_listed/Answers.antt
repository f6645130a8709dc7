use Rattle.std.proofs.Common.{rules}
use Rattle.observable_reports.specs.ListedInstances.{listed_before}
use Rattle.observable_reports.proofs.listed_instances.all_listed.Goals as goal

pub loop-place-init : goal.loop-place-init
unfolding listed_before
loop-place-init c = search rules
