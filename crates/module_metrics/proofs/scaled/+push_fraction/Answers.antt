use Rattle.std.proofs.Common.{arith}
use Rattle.std.proofs.lemmas.Grind.{common_steps}
use Rattle.module_metrics.proofs.Fractions.{no_places, no_rest, one_place}
use Rattle.module_metrics.proofs.scaled.+push_fraction.Goals as goal

pub returns-then-places-eq0 : goal.returns-then-places-eq0
returns-then-places-eq0 t c =
    let none = no_places c.args.places c.args.rest (omega (arith, c.if-places-eq0.true)) in
    grind (arith, common_steps)

pub returns-then-rest-eq0 : goal.returns-then-rest-eq0
returns-then-rest-eq0 t c =
    let none = no_rest c.args.places c.args.rest (omega (arith, c.if-rest-eq0.true)) in
    grind (arith, common_steps)

pub returns : goal.returns
returns t c =
    let step = one_place c.args.places c.args.rest (λ e. omega (arith, e, c.if-places-eq0.false)) (λ e. omega (arith, e, c.if-rest-eq0.false)) in
    grind (arith, common_steps)
