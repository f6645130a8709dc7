use Rattle.std.proofs.Common.{◌∙◌}
use Rattle.std.specs.FinSet as set
use Rattle.explicit_provisioning.proofs.SharedLanes.{shared_lanes}
use Rattle.explicit_provisioning.proofs.control.explicit_lanes.Goals as goal

pub returns : goal.returns
returns c = c.from.ensures ∙ shared_lanes c.byte.result c.byte-2.result ∙ (λ i. set.intersection (c.byte.ensures.lanes i) ((c.byte-2.ensures.lanes ∙ c.lanes_of.ensures) i))
