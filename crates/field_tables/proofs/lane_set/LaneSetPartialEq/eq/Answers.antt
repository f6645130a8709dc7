use Rattle.std.proofs.Common.{arith}
use Rattle.field_tables.specs.LaneBytes.{byte_of-lanes_in}
use Rattle.field_tables.proofs.lane_set.LaneSetPartialEq.eq.Goals as goal

pub returns : goal.returns
returns c = grind (arith, byte_of-lanes_in)
