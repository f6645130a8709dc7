use Rattle.std.proofs.Common.{◌∙◌, ℕ, ap, arith, rules}
use Rattle.observables.specs.Instances.{instances_before}
use Rattle.observables.proofs.instances.all_instances.Goals as goal

pub loop-number-init : goal.loop-number-init
unfolding instances_before
loop-number-init c = search rules

pub returns : goal.returns
returns c =
    c.loop-number.invariant
    ∙ ap (λ (n : ℕ). instances_before c.args.image.now c.args.bank n) (omega (arith, c.loop-number-test.false, c.loop-number.auto.number-end))
