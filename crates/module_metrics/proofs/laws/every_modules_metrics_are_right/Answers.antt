use Rattle.module_metrics.proofs.FamiliesRight.{every_module_right}
use Rattle.module_metrics.proofs.laws.every_modules_metrics_are_right.Goals as goal

pub returns : goal.returns
returns c = every_module_right
