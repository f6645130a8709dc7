use Rattle.std.proofs.Common.{subst}
use Rattle.applications.specs.AppWeights.{PathWeights}
use Rattle.lane_planner.specs.CertifiedPlans.{IsPlanText}
use Rattle.firmware_api.proofs.certificate.put_text.Goals as goal

pub returns : goal.returns
returns c =
    let put = c.put_certificate.ensures.put in
    let is_text = subst (λ (weights : PathWeights). IsPlanText c.args.advert.now weights c.args.kept.now put.0) c.by_host.ensures put.1 in
    record { text = put.0; is_text = is_text; counted = put.2; short = c.put_certificate.ensures.small; buffer = put.3 }
