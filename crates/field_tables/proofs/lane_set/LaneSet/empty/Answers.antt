use Rattle.std.proofs.Common.{◌∙◌}
use Rattle.field_tables.proofs.LaneLaws.{lanes_in-zero}
use Rattle.field_tables.proofs.lane_set.LaneSet.empty.Goals as goal

pub returns : goal.returns
returns c = c.from.ensures ∙ lanes_in-zero
