use Rattle.std.proofs.Common.{◌+◌, ◌∷◌, [], ◌++◌, length, sym, ap, arith, ◌∙◌, length-append}
use Rattle.std.proofs.lemmas.List.FromFn.{map-range_with_len_more}
use Rattle.sample_modules.specs.Lies.{told_at}
use Rattle.sample_modules.proofs.lying_device.LyingDevice.told.Goals as goal

pub loop-place-preserved : goal.loop-place-preserved
loop-place-preserved c =
    let told = told_at c.args.self.now c.args.address in
    record {
      items =
          c.push.ensures.items ∙ (λ i. c.loop-place.invariant.items i ++ c.told_at.ensures i ∷ [])
          ∙ sym (map-range_with_len_more told 0 c.loop-place.place c.loop-place.place (omega arith));
      len = ap length c.push.ensures.items ∙ length-append c.loop-place.bytes.items (c.told_at.result ∷ []) ∙ ap (λ n. n + 1) c.loop-place.invariant.len;
    }
