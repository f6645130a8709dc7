use Rattle.std.proofs.Common.{◌∙◌, arith}
use Rattle.std.specs.FinSet as set
use Rattle.field_tables.proofs.LaneLaws.{is_subset-lanes_in}
use Rattle.field_tables.proofs.lane_set.LaneSet.is_subset.Goals as goal

pub returns : goal.returns
returns c = is_subset-lanes_in c.byte-byte.result c.byte.result (omega arith) ∙ (λ i. set.is_subset (c.byte-byte.ensures.lanes i) (c.byte.ensures.lanes i))
