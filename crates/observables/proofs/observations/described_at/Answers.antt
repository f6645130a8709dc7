use Rattle.std.proofs.Common.{rules, sym}
use Rattle.observables.proofs.DescribedPlaces.{unused}
use Rattle.observables.proofs.observations.described_at.Goals as goal

pub returns-then-kind-eq0 : goal.returns-then-kind-eq0
returns-then-kind-eq0 c = sym (unused c.args.image.now c.args._page c.args.described.now c.requires.few c.requires.page c.args.place c.requires.first c.requires.last (search rules))
