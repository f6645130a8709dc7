use Rattle.std.proofs.Common.{arith, rules}
use Rattle.observables.proofs.PlacesOfList.{of_no_monitor}
use Rattle.observables.proofs.observations.next_of_monitor.Goals as goal

pub returns-in_default : goal.returns-in_default
returns-in_default c = record { first = λ k from to. of_no_monitor c.args.image.now c.args.number k c.requires (omega (arith, from)) to (search rules) }
