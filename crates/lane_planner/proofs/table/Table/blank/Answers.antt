use Rattle.std.proofs.Common.{refl}
use Rattle.lane_planner.proofs.CellNumbers.{numbers_blank, parts_blank}
use Rattle.lane_planner.proofs.table.Table.blank.Goals as goal

pub returns : goal.returns
returns c = numbers_blank 1793 2304 refl

pub invariant_of-result : goal.invariant_of-result
invariant_of-result c = parts_blank 1793 refl
