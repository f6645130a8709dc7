use Rattle.std.proofs.Common.{arith, rules}
use Rattle.observables.proofs.DescribedPlaces.{absent}
use Rattle.observables.proofs.observations.next_on_page.Goals as goal

pub returns-in_default : goal.returns-in_default
returns-in_default c = record { first = λ k from to. absent c.args.image.now c.args.page (search rules) (search rules) k (omega (arith, from)) to }
