use Rattle.std.proofs.Common.{false, ◌∙◌, arith}
use Rattle.field_tables.specs.Readings.{bit_at}
use Rattle.field_tables.proofs.FieldAnswers.{of_each-list}
use Rattle.field_tables.proofs.readings.all_bits.Goals as goal

pub returns : goal.returns
returns g c =
    let loop = c.loop-index in
    of_each-list false c.args.field (bit_at c.args.image.now c.args.field) loop.value-items (loop.invariant.len ∙ c.requires.count)
    (λ k below. loop.invariant.each k (omega (arith, below, loop.invariant.len, c.requires.count)))
