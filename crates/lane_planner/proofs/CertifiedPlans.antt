-- What holds of the certificate of the plan that is read off, whether it is made or only written.
use Rattle.std.proofs.Common.{◌≡◌, ℕ, get_or, refl, sym, subst, ap, ◌∙◌, arith}
use Rattle.lane_planner.proofs.Words.{start, IsAdmissible, IsBound, IsGood}
use Rattle.plan_certificate.specs.Limits.{most_states}
use Rattle.plan_certificate.proofs.GoodVerdicts.{good_verdict}
use Rattle.lane_planner.specs.declared.problem.Problem.{Problem}
use Rattle.lane_planner.specs.declared.solution.Solution.{Solution}
use Rattle.lane_planner.specs.CertifiedPlans.{IsCertified, claim_of}
use Rattle.lane_planner.specs.Marks.{MarksReached}
use Rattle.lane_planner.specs.Tables.{AreEntries, HasGains, IsReadOff, gain_at, marked_entries}
use Rattle.lane_planner.proofs.ReachedEntries.{are_marked, bound_at, each_covers, each_gain, states_are}
use Rattle.lane_planner.proofs.ReachedStates.{start_place, start_reached}
use Rattle.lane_planner.proofs.ReadOffs.{read_off_is_first}

pub certified : (problem : Problem) (solution : Solution) → IsAdmissible problem.advert.now problem.kept.now → MarksReached problem.advert.now problem.weights.now problem.kept.now solution.marks
    → HasGains problem.advert.now problem.weights.now problem.kept.now 0 solution.gains → IsReadOff problem.advert.now problem.weights.now problem.kept.now solution.gains solution.plan
    → IsCertified problem.advert.now problem.weights.now problem.kept.now (claim_of problem solution)
certified problem solution admissible reached has off =
    let advert = problem.advert.now in
    let weights = problem.weights.now in
    let kept = problem.kept.now in
    let marks = solution.marks in
    let table = solution.gains in
    let claim = claim_of problem solution in
    let entries = marked_entries marks table most_states in
    let are : AreEntries marks table most_states entries = are_marked marks table most_states (omega arith) in
    let weight : get_or table 0 0 ≡ gain_at table start = ap (λ (n : ℕ). get_or table n 0) (sym start_place) in
    let first = read_off_is_first advert weights kept table solution.plan has off in
    let good : IsGood advert weights claim = record {
      paired = refl;
      kept = admissible;
      admissible = off.plan.admissible;
      keeps = off.plan.keeps;
      weighs = weight ∙ sym off.plan.weighs;
      closed = each_covers advert weights kept marks table entries reached has are;
      begun = subst (IsBound entries start) (sym weight) (bound_at advert weights kept marks table entries reached has are start (start_reached advert weights kept));
    } in
    record {
      keeps = refl;
      good = good;
      judged = (good_verdict advert weights claim are.states).1 good;
      best = first.candidate.best;
      first = first;
      rising = off.rising;
      gains = each_gain advert weights kept marks table entries reached has are;
      states = states_are advert weights kept marks table entries reached has are;
    }
