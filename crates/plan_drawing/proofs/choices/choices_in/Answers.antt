use Rattle.std.proofs.Common.{◌≡◌, ◌∷◌, ◌+◌, ◌<◌, ◌++◌, List, Option, length, drop, get_or, refl, sym, ap, ◌∙◌, append_assoc, add-one, drop-cons, arith}
use Rattle.std.specs.List.{flat_map}
use Rattle.applications.specs.declared.app.App.{App}
use Rattle.plan_drawing.specs.declared.choices.Choice.{Choice}
use Rattle.plan_drawing.specs.Choices.{best_of_app, free_if_may, listed, ranked_with}
use Rattle.plan_drawing.specs.Walks.{Basis, basis_of}
use Rattle.plan_drawing.proofs.RankedChoices.{ranked_append}
use Rattle.plan_drawing.proofs.choices.choices_in.Goals as goal

pub loop-app-preserved : goal.loop-app-preserved
loop-app-preserved c =
    let basis : Basis = basis_of c.args.problem.now c.args.gains.now in
    let state = c.args.state.now in
    let apps : List App = basis.advert.apps in
    let i = c.loop-app.app-index in
    let placed = c.loop-app.choices.items in
    let app : App = c.app-item.result in
    let same : c.apps-app-items.result.now ≡ apps = c.apps-app-items.ensures.apps in
    let below : i < length apps = omega (arith, c.loop-app-test.true, ap (λ (list : List App). length list) same) in
    let is : app ≡ get_or apps i app = c.app-item.is ∙ ap (λ (list : List App). get_or list i app) same in
    let next : drop i apps ≡ get_or apps i app ∷ drop (i + 1) apps = rw (add-one, drop-cons apps i app) refl in
    let best = λ (a : App). listed (best_of_app basis state a) in
    let rest = flat_map best (drop (i + 1) apps) in
    let free = listed (free_if_may basis state) in
    record {
      whole =
          c.loop-app.invariant.whole
          ∙ ap (λ (list : List App). ranked_with placed (flat_map best list ++ free)) (next ∙ ap (λ (a : App). a ∷ drop (i + 1) apps) (sym is))
          ∙ ap (λ (choices : List Choice). ranked_with placed choices) (append_assoc (best app) rest free)
          ∙ ranked_append placed (best app) (rest ++ free)
          ∙ ap (λ (ranked : List Choice). ranked_with ranked (rest ++ free))
          (sym (c.place_if_some.ensures.placed ∙ ap (λ (o : Option Choice). ranked_with placed (listed o)) c.best_of_app.ensures));
      few = omega (arith, c.loop-app.invariant.few, c.place_if_some.ensures.few);
    }
