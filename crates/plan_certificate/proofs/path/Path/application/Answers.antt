use Rattle.std.proofs.Common.{◌≡◌, ℕ, ◌+◌, ◌-◌, ◌<◌, ◌≤◌, ◌⊎◌, Some, length, get_or, sym, ap, ◌∙◌, inl, inr, arith}
use Rattle.std.specs.List.{find}
use Rattle.std.specs.Option.{unwrap_or}
use Rattle.applications.specs.declared.app.App.{App}
use Rattle.plan_certificate.specs.Paths.{app_of, has_number, no_app}
use Rattle.plan_certificate.proofs.Numbered.{at_its_number, not_numbered}
use Rattle.plan_certificate.proofs.path.Path.application.Goals as goal
use Rattle.plan_certificate.proofs.path.Path.application.Goals.{else-number-ge1-via-then-number-ge1+else-number-apps, else-number-ge1-via-else-number-ge1}

pub returns-then-number-apps : goal.returns-then-number-apps
unfolding app_of
returns-then-number-apps c =
    let apps = c.apps-apps.result.now in
    let item = c.index-apps-number.result in
    let found = at_its_number c.args.self 1 apps item c.apps-apps.ensures.in_order (omega (arith, c.if-number-ge1.true, c.from-number.ensures)) (omega (arith, c.if-number-apps.true, c.from-number.ensures)) in
    let place : c.args.self.app - 1 ≡ c.from-number.result - 1 = omega (arith, c.from-number.ensures) in
    let is : get_or apps (c.args.self.app - 1) item ≡ item = ap (λ (n : ℕ). get_or apps n item) place ∙ sym c.index-apps-number.is in
    sym (ap (λ o. unwrap_or o no_app) (ap (find (has_number c.args.self)) (sym c.apps-apps.ensures.apps) ∙ found ∙ ap (λ (a : App). Some a) is))

pub returns : goal.returns
unfolding app_of
returns c =
    let apps = c.apps-apps.result.now in
    let number = c.from-number.ensures in
    let out : (c.args.self.app < 1) ⊎ (1 + length apps ≤ c.args.self.app) = elim c.else-number-ge1.branch [
      | else-number-ge1-via-then-number-ge1+else-number-apps w ↦ inr (omega (arith, w.if-number-apps.false, number))
      | else-number-ge1-via-else-number-ge1 w ↦ inl (omega (arith, w.if-number-ge1.false, number))
    ] in
    let none = not_numbered c.args.self 1 apps c.apps-apps.ensures.in_order out in
    let same = c.default.ensures in
    let is_none : no_app ≡ c.default.result = (λ i. record {
      number = sym same.0 i;
      host_id = sym same.1.0 i;
      media_id = sym same.1.1.0 i;
      host_lanes = sym same.1.1.1.0 i;
      media_lanes = sym same.1.1.1.1.0 i;
      host_starts = sym same.1.1.1.1.1.0 i;
      media_starts = sym same.1.1.1.1.1.1 i;
    }) in
    sym (ap (λ o. unwrap_or o no_app) (ap (find (has_number c.args.self)) (sym c.apps-apps.ensures.apps) ∙ none) ∙ is_none)
