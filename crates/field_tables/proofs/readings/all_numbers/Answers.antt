use Rattle.std.proofs.Common.{◌∙◌, arith}
use Rattle.field_tables.specs.Readings.{number_at}
use Rattle.field_tables.proofs.FieldAnswers.{of_each-list}
use Rattle.field_tables.proofs.readings.all_numbers.Goals as goal

pub returns : goal.returns
returns g c =
    let loop = c.loop-index in
    of_each-list 0 c.args.field (number_at c.args.image.now c.args.field) loop.number-items (loop.invariant.len ∙ c.requires.count)
    (λ k below. loop.invariant.each k (omega (arith, below, loop.invariant.len, c.requires.count)))
