use Rattle.std.proofs.Common.{refl}
use Rattle.applications.proofs.weights.lines.Draft.take.Goals as goal

pub returns-in_default : goal.returns-in_default
returns-in_default c before drafts = (refl, λ said says. absurd (c.in_default.ensures said says))
