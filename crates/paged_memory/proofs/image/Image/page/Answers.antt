use Rattle.std.proofs.Common.{subst}
use Rattle.paged_memory.specs.ImageText.{IsImage}
use Rattle.paged_memory.proofs.ImageViews.{is_image}
use Rattle.paged_memory.proofs.image.Image.page.Goals as goal

pub returns-clause-image : goal.returns-clause-image
returns-clause-image c = subst IsImage c.self.view_is (is_image c.self.inside.entries.now c.self.invariant)
