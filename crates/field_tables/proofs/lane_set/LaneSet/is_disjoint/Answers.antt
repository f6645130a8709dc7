use Rattle.std.proofs.Common.{◌∙◌, arith}
use Rattle.field_tables.proofs.LaneLaws.{is_disjoint-lanes_in}
use Rattle.field_tables.specs.LaneSets.{is_disjoint}
use Rattle.field_tables.proofs.lane_set.LaneSet.is_disjoint.Goals as goal

pub returns : goal.returns
returns c = is_disjoint-lanes_in c.byte.result c.byte-2.result (omega arith) ∙ (λ i. is_disjoint (c.byte.ensures.lanes i) (c.byte-2.ensures.lanes i))
