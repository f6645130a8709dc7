use Rattle.std.proofs.Common.{◌≡◌, ℕ, ◌+◌, ◌-◌, ◌*◌, ◌≤◌, refl, subst, arith}
use Rattle.std.specs.List.{All}
use Rattle.std.proofs.lemmas.List.Elements.{All-from_recursion}
use Rattle.applications.specs.AppWeights.{weight_from}
use Rattle.plan_certificate.specs.Moves.{LeadsOn, moves_at}
use Rattle.plan_certificate.proofs.MoveLists.{moves_lead_on}
use Rattle.plan_certificate.proofs.retained.FollowedMoves.list.Goals as goal

pub returns : goal.returns
returns c =
    let advert = c.args.advert.now in
    let weights = c.args.weights.now in
    let kept = c.args.kept.now in
    let boundary : ℕ = c.args.boundary in
    let small : (number host : ℕ) → weight_from weights number host ≤ 4 * 4294967295 = λ number host. omega (arith, c.bound-bound.ensures.bound number host, c.bound-bound.ensures.value) in
    let same : boundary + 1 - 1 ≡ boundary = omega arith in
    let all = moves_at advert weights kept (boundary + 1) in
    record {
      freed = c.may_stay_free-self.ensures;
      listed = refl;
      heavy = c.put_heaviest_at.ensures;
      lead_on = subst (λ (n : ℕ). All (LeadsOn n) all) same (All-from_recursion (LeadsOn (boundary + 1 - 1)) all (moves_lead_on advert weights small kept (boundary + 1)));
    }
