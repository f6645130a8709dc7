use Rattle.std.proofs.Common.{ap, subst, arith}
use Rattle.std.specs.FinMap as map
use Rattle.paged_memory.specs.ImageText.{IsImage}
use Rattle.paged_memory.proofs.ImageViews.{is_image, len_of}
use Rattle.paged_memory.proofs.owned_image.OwnedImage.view.Goals as goal

pub returns-clause-few : goal.returns-clause-few
returns-clause-few g c =
    omega (arith, len_of c.self.inside.entries.items c.self.invariant.sorted, ap map.len c.self.view_is, rw c.deref.ensures.0 at c.deref.ensures.1)

pub returns-clause-image : goal.returns-clause-image
returns-clause-image g c = subst IsImage c.self.view_is (is_image c.self.inside.entries.items c.self.invariant)
