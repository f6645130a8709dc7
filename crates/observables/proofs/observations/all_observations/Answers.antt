use Rattle.std.proofs.Common.{rules}
use Rattle.observables.specs.Observations.{observations_before}
use Rattle.observables.proofs.observations.all_observations.Goals as goal

pub loop-place-init : goal.loop-place-init
unfolding observations_before
loop-place-init c = search rules
