use Rattle.std.proofs.Common.{sym, ◌∙◌, arith, map}
use Rattle.std.specs.List.{range_with_len}
use Rattle.std.proofs.lemmas.List.{ext_get_or}
use Rattle.std.proofs.lemmas.List.FromFn.{get_or-map-range_with_len}
use Rattle.firmware_api.specs.ObservableNumbers.{byte_at}
use Rattle.firmware_api.proofs.observable_numbers.put_bytes.Goals as goal

pub returns : goal.returns
returns c =
    let loop = c.loop-place in
    let at = byte_at c.args.bytes.now in
    ext_get_or 0 loop.letters (map at (range_with_len 0 28)) loop.invariant.len
    (λ k below. loop.invariant.each k (omega (arith, below, loop.invariant.len)) ∙ sym (get_or-map-range_with_len at 0 28 k k 0 (omega (arith, below, loop.invariant.len)) (omega arith)))
