use Rattle.std.proofs.Common.{ap, ◌∙◌, arith}
use Rattle.field_tables.proofs.LaneLaws.{is_empty-lanes_in}
use Rattle.field_tables.specs.LaneSets.{is_empty}
use Rattle.field_tables.proofs.lane_set.LaneSet.is_empty.Goals as goal

pub returns : goal.returns
returns c = is_empty-lanes_in c.byte.result (omega arith) ∙ ap is_empty c.byte.ensures.lanes
