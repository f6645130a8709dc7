use Rattle.plan_certificate.proofs.PairedLanes.{media_lane_told}
use Rattle.plan_certificate.proofs.laws.paired_lanes_are_told.Goals as goal

pub returns : goal.returns
returns c = media_lane_told
