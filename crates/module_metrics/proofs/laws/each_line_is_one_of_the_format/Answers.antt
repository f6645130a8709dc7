use Rattle.module_metrics.proofs.LinesRight.{each_line_is_one}
use Rattle.module_metrics.proofs.laws.each_line_is_one_of_the_format.Goals as goal

pub returns : goal.returns
returns c = each_line_is_one
