use Rattle.std.proofs.Common.{rules}
use Rattle.observables.proofs.PlacesOfList.{of_monitor}
use Rattle.observables.proofs.observations.measured_at.Goals as goal

pub returns : goal.returns
returns c =
    let lane : _ = of_monitor c.args.image.now c.args._number c.args.place c.args.monitor c.requires.few c.requires.first c.requires.last c.requires.row in
    search rules
