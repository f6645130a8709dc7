use Rattle.std.proofs.Common.{◌≡◌, ◌+◌, ◌<◌, ◌++◌, ◌∷◌, [], get_or, length, map, take, pos, arith}
use Rattle.std.proofs.lemmas.Grind.{common_steps}
use Rattle.std.specs.List.{enumerate_from}
use Rattle.report_entries.proofs.Numbered.{numbered_more}
use Rattle.module_metrics.specs.Amounts.{lane_sample}
use Rattle.module_metrics.proofs.amounts.lane_samples.Goals as goal

pub loop-index-preserved : goal.loop-index-preserved
loop-index-preserved c =
    let of = lane_sample c.args.unit in
    let xs = c.args.values.now in
    let k = c.loop-index.index in
    let below : k < length xs = omega (arith, c.loop-index-test.true) in
    let more : map of (enumerate_from 1 (take (k + 1) xs)) ≡ map of (enumerate_from 1 (take k xs)) ++ of (k + 1, get_or xs k (pos 0)) ∷ [] =
    numbered_more of xs k (pos 0) below in
    grind (arith, common_steps)
