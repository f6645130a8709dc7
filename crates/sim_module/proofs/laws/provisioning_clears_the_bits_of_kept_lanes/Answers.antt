use Rattle.sim_module.proofs.DeinitBits.{bits_follow_success, bits_follow_the_store, kept_bits_are_clear}
use Rattle.sim_module.proofs.laws.provisioning_clears_the_bits_of_kept_lanes.Goals as goal

pub returns-clause-stored : goal.returns-clause-stored
returns-clause-stored c = bits_follow_the_store

pub returns-clause-success : goal.returns-clause-success
returns-clause-success c = bits_follow_success

pub returns-clause-kept : goal.returns-clause-kept
returns-clause-kept c = kept_bits_are_clear
