use Rattle.std.proofs.Common.{refl}
use Rattle.notices.specs.Sentences.{sentences}
use Rattle.notices.proofs.table.sentences.Goals as goal

pub returns : goal.returns
unfolding sentences
returns c = refl
