use Rattle.plan_drawing.proofs.LessSums.{each_sum}
use Rattle.plan_drawing.proofs.laws.each_sum_is_the_best.Goals as goal

pub returns : goal.returns
returns c = each_sum
