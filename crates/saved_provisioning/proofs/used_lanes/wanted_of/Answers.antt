use Rattle.std.proofs.Common.{◌∙◌}
use Rattle.std.specs.FinSet as set
use Rattle.field_tables.specs.LaneSets.{lanes_in}
use Rattle.explicit_provisioning.proofs.SharedLanes.{shared_lanes}
use Rattle.saved_provisioning.proofs.used_lanes.wanted_of.Goals as goal

pub returns : goal.returns
returns c =
    let change = c.args.change.now in
    let lanes = c.from-lanes.ensures ∙ shared_lanes c.byte.result c.used_byte.result ∙ (λ i. set.intersection (c.byte.ensures.lanes i) (lanes_in (c.used_byte.ensures i))) in
    λ i. record { lanes = lanes i; settings = change.settings; tries = change.tries }
