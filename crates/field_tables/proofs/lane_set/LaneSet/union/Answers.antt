use Rattle.std.proofs.Common.{◌∙◌}
use Rattle.std.specs.FinSet as set
use Rattle.field_tables.proofs.LaneLaws.{lanes_in-or}
use Rattle.field_tables.proofs.lane_set.LaneSet.union.Goals as goal

pub returns : goal.returns
returns c = c.from.ensures ∙ lanes_in-or c.byte.result c.byte-2.result ∙ (λ i. set.union (c.byte.ensures.lanes i) (c.byte-2.ensures.lanes i))
