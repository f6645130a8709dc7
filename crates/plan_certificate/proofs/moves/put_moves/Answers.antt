use Rattle.std.proofs.Common.{◌≡◌, ℕ, ◌+◌, ◌-◌, ◌*◌, ◌≤◌, ◌++◌, List, length, take, subst, sym, ap, ◌∙◌, arith}
use Rattle.std.specs.List.{All, AllPairs, flat_map}
use Rattle.std.proofs.Math.Seq.{take-length}
use Rattle.std.proofs.lemmas.List.Elements.{All-from_recursion}
use Rattle.applications.specs.declared.app.App.{App}
use Rattle.applications.specs.Advertised.{Advertised, InOrder}
use Rattle.applications.specs.AppWeights.{PathWeights, weight_from}
use Rattle.plan_certificate.specs.declared.path.Path.{Path}
use Rattle.plan_certificate.specs.Paths.{IsLower}
use Rattle.plan_certificate.specs.States.{paths_of_app}
use Rattle.plan_certificate.proofs.MoveLists.{apps_more}
use Rattle.plan_certificate.specs.declared.moves.Move.{Move}
use Rattle.plan_certificate.specs.Moves.{LeadsOn, moves_at, moves_of}
use Rattle.plan_certificate.proofs.MoveLists.{moves_of_both, moves_lead_on}
use Rattle.plan_certificate.proofs.MoveOrder.{moves_rise}
use Rattle.plan_certificate.proofs.moves.put_moves.Goals as goal

pub loop-app-init : goal.loop-app-init
unfolding moves_of
loop-app-init c = record {
  moves = c.clear.ensures;
  few = omega (arith, ap (λ (items : List Move). length items) c.clear.ensures);
}

pub loop-app-preserved : goal.loop-app-preserved
loop-app-preserved c =
    let of_app : App → List Path = λ app. paths_of_app c.args.host app.number in
    let apps = c.apps-app-items.result.now in
    let app = c.app-item.result in
    let index = c.loop-app.app-index in
    let made = moves_of c.args.advert.now c.args.weights.now c.args.kept.now in
    let so_far = flat_map of_app (take index apps) in
    let more : flat_map of_app (take (index + 1) apps) ≡ so_far ++ of_app app = apps_more of_app apps index app c.loop-app-test.true ∙ ap (λ (a : App). so_far ++ of_app a) (sym c.app-item.is) in
    record {
      moves =
          c.push_moves.ensures.moves
          ∙ ap (λ (items : List Move). items ++ made (of_app app)) c.loop-app.invariant.moves
          ∙ sym (ap made more ∙ moves_of_both c.args.advert.now c.args.weights.now c.args.kept.now so_far (of_app app));
      few = omega (arith, c.push_moves.ensures.few, c.loop-app.invariant.few);
    }

-- the moves of all Applications
all_made : (advert : Advertised) (weights : PathWeights) (kept : List Path) (host index : ℕ) (apps : List App) (moves : List Move) → moves ≡ moves_of advert weights kept (flat_map (λ (app : App). paths_of_app host app.number) (take index apps)) → index ≡ length apps → apps ≡ advert.apps → moves ≡ moves_at advert weights kept host
all_made advert weights kept host index apps moves is end same =
    let Paths : List App → List Move = λ apps. moves_of advert weights kept (flat_map (λ (app : App). paths_of_app host app.number) apps) in
    is ∙ ap Paths (ap (λ (n : ℕ). take n apps) end ∙ take-length apps ∙ same)

pub returns-clause-rising : goal.returns-clause-rising
returns-clause-rising c =
    let Rising : List Move → Type 0 = AllPairs (λ one later. IsLower one.path later.path) in
    let end : c.loop-app.app-index ≡ length c.apps-app-items.result.now = omega (arith, c.loop-app-test.false, c.loop-app.auto.app-index-end) in
    let is = all_made c.args.advert.now c.args.weights.now c.args.kept.now c.args.host c.loop-app.app-index c.apps-app-items.result.now c.loop-app.moves.items c.loop-app.invariant.moves end c.apps-app-items.ensures.apps in
    subst Rising (sym is) (moves_rise c.args.advert.now c.args.weights.now c.args.kept.now c.args.host (subst InOrder c.apps-app-items.ensures.apps c.apps-app-items.ensures.in_order))

pub returns-clause-lead_on : goal.returns-clause-lead_on
returns-clause-lead_on c =
    let advert = c.args.advert.now in
    let weights = c.args.weights.now in
    let kept = c.args.kept.now in
    let host : ℕ = c.args.host in
    let small : (number host : ℕ) → weight_from weights number host ≤ 4 * 4294967295 = λ number host. omega (arith, c.bound-bound.ensures.bound number host, c.bound-bound.ensures.value) in
    let end : c.loop-app.app-index ≡ length c.apps-app-items.result.now = omega (arith, c.loop-app-test.false, c.loop-app.auto.app-index-end) in
    let is = all_made advert weights kept host c.loop-app.app-index c.apps-app-items.result.now c.loop-app.moves.items c.loop-app.invariant.moves end c.apps-app-items.ensures.apps in
    subst (All (LeadsOn (host - 1))) (sym is) (All-from_recursion (LeadsOn (host - 1)) (moves_at advert weights kept host) (moves_lead_on advert weights small kept host))
