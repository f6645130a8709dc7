use Rattle.std.proofs.Common.{◌≡◌, ◌≢◌, ◌+◌, ◌-◌, ◌*◌, ℕ, None, Some, get_or, sym, ap, ◌∙◌, rules}
use Rattle.plan_certificate.specs.Bounds.{Bounded}
use Rattle.plan_certificate.proofs.FiveBytes.{bound_is, none_by, number_by, stated_by}
use Rattle.plan_certificate.proofs.certificate.bounds.Bounds.at.Goals as goal

pub returns-then-high-eq-NONE : goal.returns-then-high-eq-NONE
returns-then-high-eq-NONE c =
    let text = c.self.inside.text.now in
    let place : ℕ = c.args.place in
    let low : ℕ = get_or c.self.inside.low place 0 in
    let high : ℕ = get_or c.self.inside.high place 0 in
    let is : high ≡ 0 = search rules in
    let seen = ap (λ (b : Bounded). get_or b.bounds place None) c.self.view_is in
    sym (sym seen ∙ bound_is text c.self.inside.low c.self.inside.high place c.requires ∙ none_by text low high is)

pub returns-then-high-eq-IN_TEXT : goal.returns-then-high-eq-IN_TEXT
returns-then-high-eq-IN_TEXT c =
    let text = c.self.inside.text.now in
    let place : ℕ = c.args.place in
    let low : ℕ = get_or c.self.inside.low place 0 in
    let high : ℕ = get_or c.self.inside.high place 0 in
    let is : high ≡ 1 = search rules in
    let seen = ap (λ (b : Bounded). get_or b.bounds place None) c.self.view_is in
    ap Some c.potential_at.ensures ∙ sym (sym seen ∙ bound_is text c.self.inside.low c.self.inside.high place c.requires ∙ stated_by text low high is)

pub returns-else-high-eq-IN_TEXT : goal.returns-else-high-eq-IN_TEXT
returns-else-high-eq-IN_TEXT c =
    let text = c.self.inside.text.now in
    let place : ℕ = c.args.place in
    let low : ℕ = get_or c.self.inside.low place 0 in
    let high : ℕ = get_or c.self.inside.high place 0 in
    let some : high ≢ 0 = search rules in
    let small : high ≢ 1 = search rules in
    let seen = ap (λ (b : Bounded). get_or b.bounds place None) c.self.view_is in
    (λ i. Some (c.from.ensures i + 4294967296 * (c.from-else-high-eq-IN_TEXT.ensures i - 2))) ∙ sym (sym seen ∙ bound_is text c.self.inside.low c.self.inside.high place c.requires ∙ number_by text low high some small)
