use Rattle.std.proofs.Common.{◌≡◌}
use Rattle.control_sets.proofs.OutcomeReadActive.{reads_active}
use Rattle.control_sets.proofs.laws.a_success_was_read.Goals as goal

pub returns : goal.returns
returns c doubts control lanes made room history steps outcome = reads_active doubts control lanes (made ≡ room) history steps outcome
