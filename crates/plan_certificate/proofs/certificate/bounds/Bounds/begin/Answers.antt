use Rattle.std.proofs.Common.{ap, ◌∙◌}
use Rattle.plan_certificate.specs.Bounds.{Bounded}
use Rattle.plan_certificate.proofs.FiveBytes.{are_of_other, none_of_other}
use Rattle.plan_certificate.proofs.certificate.bounds.Bounds.begin.Goals as goal

pub invariant_of-self : goal.invariant_of-self
invariant_of-self c =
    are_of_other c.self.inside.text.now c.args.text.now c.self.inside.low c.self.inside.high c.self.invariant (ap (λ (b : Bounded). b.bounds) c.self.view_is ∙ c.requires)

pub returns : goal.returns
returns c =
    let none = none_of_other c.self.inside.text.now c.args.text.now c.self.inside.low c.self.inside.high c.self.invariant (ap (λ (b : Bounded). b.bounds) c.self.view_is ∙ c.requires) in
    λ i. record { text = c.args.text.now; bounds = none i }
