use Rattle.std.proofs.Common.{sym, ap, ◌∙◌}
use Rattle.std.specs.FinMap as map
use Rattle.paged_memory.proofs.ImageViews.{len_of}
use Rattle.paged_memory.proofs.image.Image.entries.Goals as goal

pub returns-clause-len : goal.returns-clause-len
returns-clause-len c = sym (len_of c.self.inside.entries.now c.self.invariant.sorted) ∙ ap map.len c.self.view_is
