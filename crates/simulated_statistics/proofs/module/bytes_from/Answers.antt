use Rattle.std.proofs.Common.{◌+◌, ◌∷◌, [], ◌++◌, length, refl, sym, ap, ◌∙◌, length-append}
use Rattle.std.proofs.lemmas.List.FromFn.{map-range_with_len_more}
use Rattle.simulated_statistics.specs.FreezingModules.{read_at}
use Rattle.simulated_statistics.proofs.module.bytes_from.Goals as goal

pub loop-index-preserved : goal.loop-index-preserved
loop-index-preserved c =
    let read = read_at c.args.selecting c.args.selection c.args.request c.args.half.now in
    record {
      items =
          c.push.ensures.items ∙ (λ i. c.loop-index.invariant.items i ++ c.read_at.ensures i ∷ [])
          ∙ sym (map-range_with_len_more read c.args.address c.loop-index.index (c.args.address + c.loop-index.index) refl);
      len = ap length c.push.ensures.items ∙ length-append c.loop-index.bytes.items (c.read_at.result ∷ []) ∙ ap (λ n. n + 1) c.loop-index.invariant.len;
    }
