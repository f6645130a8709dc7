use Rattle.std.proofs.Common.{refl}
use Rattle.lane_planner.specs.declared.problem.Problem.{Problem}
use Rattle.lane_planner.specs.CertifiedPlans.{IsPlanText, claim_of, claim_text}
use Rattle.lane_planner.proofs.written.put_certificate.Goals as goal

pub returns-clause-put : goal.returns-clause-put
returns-clause-put c =
    let problem : Problem = record { advert = c.args.advert; weights = c.args.weights; kept = c.args.kept } in
    let solution = c.solve.new.self in
    let is : IsPlanText c.args.advert.now c.args.weights.now c.args.kept.now (claim_text problem solution) = record {
      certificate = claim_of problem solution;
      certified = c.solve.ensures.certified;
      written = refl;
      read_back = c.put_text.ensures.read_back;
    } in
    (claim_text problem solution, is, c.put_text.ensures.len, c.put_text.ensures.put)
