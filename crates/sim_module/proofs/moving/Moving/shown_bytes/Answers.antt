use Rattle.std.proofs.Common.{◌+◌, ◌∷◌, [], ◌++◌, length, refl, sym, ap, ◌∙◌, length-append}
use Rattle.std.proofs.lemmas.List.FromFn.{map-range_with_len_more}
use Rattle.sim_module.specs.ShownBytes.{shown_byte}
use Rattle.sim_module.specs.Record.{bare}
use Rattle.sim_module.proofs.moving.Moving.shown_bytes.Goals as goal

pub loop-index-preserved : goal.loop-index-preserved
loop-index-preserved c =
    let f = shown_byte (bare c.args.self.now) c.args.page.now in
    record {
      items =
          c.push.ensures.items ∙ (λ i. c.loop-index.invariant.items i ++ c.shown_byte.ensures i ∷ [])
          ∙ sym (map-range_with_len_more f c.args.first c.loop-index.index (c.args.first + c.loop-index.index) refl);
      len = ap length c.push.ensures.items ∙ length-append c.loop-index.bytes.items (c.shown_byte.result ∷ []) ∙ ap (λ n. n + 1) c.loop-index.invariant.len;
    }
