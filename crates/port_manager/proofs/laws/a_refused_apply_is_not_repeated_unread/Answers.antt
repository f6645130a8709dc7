use Rattle.port_manager.proofs.RefusedApplyLaws.{reads_anew}
use Rattle.port_manager.proofs.laws.a_refused_apply_is_not_repeated_unread.Goals as goal

pub returns : goal.returns
returns c story port reaches = reads_anew story port reaches
