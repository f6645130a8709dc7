use Rattle.std.proofs.Common.{◌≡◌, ℕ, ◌+◌, ◌≤◌, ◌++◌, [], List, length, take, subst, sym, ap, ◌∙◌, arith}
use Rattle.std.specs.List.{flat_map}
use Rattle.std.proofs.Math.Seq.{take-length}
use Rattle.applications.specs.declared.app.App.{App}
use Rattle.plan_certificate.specs.declared.path.Path.{Path}
use Rattle.plan_certificate.specs.States.{paths_of_app}
use Rattle.plan_certificate.specs.declared.moves.Move.{Move}
use Rattle.plan_certificate.specs.Moves.{AreHeaviest, moves_of}
use Rattle.plan_certificate.proofs.MoveLists.{apps_more, moves_of_both}
use Rattle.plan_certificate.proofs.RetainedMoves.{none_heaviest}
use Rattle.plan_certificate.proofs.retained.put_heaviest_at.Goals as goal

pub loop-app-init : goal.loop-app-init
unfolding moves_of
loop-app-init c = record {
  heaviest = subst (AreHeaviest []) (sym c.clear.ensures) none_heaviest;
  few = omega (arith, ap (λ (moves : List Move). length moves) c.clear.ensures);
}

pub retain_all-requires : goal.retain_all-requires
retain_all-requires c =
    let listed : length c.as_slice.result.now ≤ 8 = omega (arith, ap (λ (moves : List Move). length moves) c.as_slice.ensures.value, c.push_moves.ensures.few, ap (λ (moves : List Move). length moves) c.new-moves.ensures) in
    omega (arith, listed, c.loop-app.invariant.few, c.loop-app-test.true, c.apps-app-items.ensures.few)

pub loop-app-preserved : goal.loop-app-preserved
loop-app-preserved c =
    let of_app : App → List Path = λ app. paths_of_app c.args.host app.number in
    let apps = c.apps-app-items.result.now in
    let app = c.app-item.result in
    let index = c.loop-app.app-index in
    let made = moves_of c.args.advert.now c.args.weights.now c.args.kept.now in
    let so_far = flat_map of_app (take index apps) in
    let more : flat_map of_app (take (index + 1) apps) ≡ so_far ++ of_app app = apps_more of_app apps index app c.loop-app-test.true ∙ ap (λ (a : App). so_far ++ of_app a) (sym c.app-item.is) in
    let listed : c.as_slice.result.now ≡ made (of_app app) = c.as_slice.ensures.value ∙ c.push_moves.ensures.moves ∙ ap (λ (moves : List Move). moves ++ made (of_app app)) c.new-moves.ensures in
    let all : made so_far ++ c.as_slice.result.now ≡ made (flat_map of_app (take (index + 1) apps)) = ap (λ (moves : List Move). made so_far ++ moves) listed ∙ sym (ap made more ∙ moves_of_both c.args.advert.now c.args.weights.now c.args.kept.now so_far (of_app app)) in
    record {
      heaviest = subst (λ (moves : List Move). AreHeaviest moves c.retain_all.new.retained.items) all (c.retain_all.ensures.heaviest (made so_far) c.loop-app.invariant.heaviest);
      few = omega (arith, c.retain_all.ensures.few, c.loop-app.invariant.few, ap (λ (moves : List Move). length moves) c.as_slice.ensures.value, c.push_moves.ensures.few, ap (λ (moves : List Move). length moves) c.new-moves.ensures);
    }

pub returns : goal.returns
returns c =
    let apps = c.apps-app-items.result.now in
    let end : c.loop-app.app-index ≡ length apps = omega (arith, c.loop-app-test.false, c.loop-app.auto.app-index-end) in
    let whole : take c.loop-app.app-index apps ≡ c.args.advert.now.apps = ap (λ (n : ℕ). take n apps) end ∙ take-length apps ∙ c.apps-app-items.ensures.apps in
    let Are : List App → Type 0 = λ listed. AreHeaviest (moves_of c.args.advert.now c.args.weights.now c.args.kept.now (flat_map (λ (app : App). paths_of_app c.args.host app.number) listed)) c.loop-app.heaviest.items in
    subst Are whole c.loop-app.invariant.heaviest
