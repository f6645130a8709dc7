use Rattle.std.proofs.Common.{refl}
use Rattle.paged_memory.proofs.ImageViews.{is_image}
use Rattle.paged_memory.proofs.owned_image.OwnedImage.new.Goals as goal

pub returns-clause-image : goal.returns-clause-image
returns-clause-image g c = rw c.new.ensures (is_image _ (record { sorted = refl; each = tt }))
