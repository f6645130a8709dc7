use Rattle.std.proofs.Common.{◌+◌, sym, ◌∙◌, arith}
use Rattle.std.proofs.lemmas.List.{ext_get_or}
use Rattle.std.proofs.lemmas.List.FromFn.{get_or-map-range_with_len}
use Rattle.control_sets.specs.ControlBytes.{control_byte, control_bytes}
use Rattle.control_sets.proofs.plan_bytes.bytes_of.Goals as goal

pub returns : goal.returns
unfolding control_bytes
returns c =
    let loop = c.loop-index in
    let byte = control_byte c.args.advert.now c.args.plan.now in
    ext_get_or 0 loop.byte-items (control_bytes c.args.advert.now c.args.plan.now) loop.invariant.len
    (λ k below. loop.invariant.each k (omega (arith, below, loop.invariant.len)) ∙ sym (get_or-map-range_with_len byte 1 8 k (k + 1) 0 (omega (arith, below, loop.invariant.len)) (omega arith)))
