use Rattle.std.proofs.Common.{◌+◌, sym, ◌∙◌, arith, map, pos}
use Rattle.std.specs.List.{range_with_len}
use Rattle.std.proofs.lemmas.List.{ext_get_or}
use Rattle.std.proofs.lemmas.List.FromFn.{get_or-map-range_with_len}
use Rattle.firmware_api.specs.MeasuredValues.{eight_values, value_at}
use Rattle.firmware_api.proofs.measured_values.put_values.Goals as goal

pub returns : goal.returns
unfolding eight_values
returns c =
    let loop = c.loop-before in
    let at = value_at c.args.image.now c.args.field c.args.power in
    ext_get_or (pos 0) loop.values (map at (range_with_len 1 8)) loop.invariant.len
    (λ k below. loop.invariant.each k (omega (arith, below, loop.invariant.len)) ∙ sym (get_or-map-range_with_len at 1 8 k (k + 1) (pos 0) (omega (arith, below, loop.invariant.len)) (omega arith)))
