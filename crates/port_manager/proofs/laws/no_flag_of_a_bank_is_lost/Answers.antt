use Rattle.port_manager.proofs.FlagLaws as flags
use Rattle.port_manager.proofs.laws.no_flag_of_a_bank_is_lost.Goals as goal

pub returns : goal.returns
returns c = flags.no_flag_of_a_bank_is_lost
