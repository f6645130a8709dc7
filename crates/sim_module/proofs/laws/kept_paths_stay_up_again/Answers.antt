use Rattle.sim_module.proofs.KeptPaths.{kept_paths_stay_up_again}
use Rattle.sim_module.proofs.laws.kept_paths_stay_up_again.Goals as goal

pub returns : goal.returns
returns c = kept_paths_stay_up_again
