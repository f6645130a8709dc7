use Rattle.std.proofs.Common.{ℤ, pos, ◌<◌, ◌∙◌, arith, subst}
use Rattle.std.proofs.lemmas.List.{get_or_default}
use Rattle.field_tables.specs.Readings.{IsWord, reading_at}
use Rattle.field_tables.proofs.FieldAnswers.{of_each-list}
use Rattle.field_tables.proofs.readings.all_readings.Goals as goal

pub returns-clause-values : goal.returns-clause-values
returns-clause-values g c =
    let loop = c.loop-index in
    of_each-list (pos 0) c.args.field (reading_at c.args.image.now c.args.field) loop.value-items (loop.invariant.len ∙ c.requires)
    (λ k below. loop.invariant.each k (omega (arith, below, loop.invariant.len, c.requires)))

pub returns-clause-words : goal.returns-clause-words
returns-clause-words g c k d below =
    let loop = c.loop-index in
    let reached : k < loop.index = omega (arith, below, loop.invariant.len) in
    subst (λ (v : ℤ). IsWord v) (get_or_default loop.value-items k (pos 0) d below) (loop.invariant.words k reached)
