use Rattle.std.proofs.Common.{◌∙◌, false, map, sym, arith}
use Rattle.std.specs.List.{range_with_len}
use Rattle.std.proofs.lemmas.List.{ext_get_or}
use Rattle.std.proofs.lemmas.List.FromFn.{get_or-map-range_with_len, length-map-range_with_len}
use Rattle.command_line.specs.PlanWarnings.{is_unknown}
use Rattle.command_line.proofs.remark.warnings.unknown_in.Goals as goal

pub returns : goal.returns
returns c =
    let loop = c.loop-number in
    let test = is_unknown c.args.advert.now c.args.weights.now c.args.table in
    ext_get_or false loop.unknown-items (map test (range_with_len 0 256)) (loop.invariant.len ∙ sym (length-map-range_with_len test 0 256))
    (λ k below. loop.invariant.each k (omega (arith, below, loop.invariant.len))
    ∙ sym (get_or-map-range_with_len test 0 256 k k false (omega (arith, below, loop.invariant.len)) (omega arith)))
