use Rattle.std.proofs.Common.{◌≡◌, ◌+◌, ◌++◌, ◌∷◌, [], ap, ◌∙◌, map, arith}
use Rattle.std.proofs.lemmas.Grind.{common_steps}
use Rattle.std.proofs.lemmas.List.FromFn.{map-range_with_len_more}
use Rattle.std.specs.List.{range_with_len}
use Rattle.report_entries.specs.FlagRows.{lane_flag}
use Rattle.report_entries.specs.Flags.{raised}
use Rattle.report_entries.proofs.RaisedFlags.{raised_append}
use Rattle.report_entries.proofs.flag_rows.push_bank.Goals as goal

pub loop-before-preserved : goal.loop-before-preserved
loop-before-preserved c =
    let of = lane_flag c.args.name c.args.field c.args.bank c.args.lanes.now in
    let k = c.loop-before.before in
    let before = map of (range_with_len 1 k) in
    let next : 1 + k ≡ k + 1 = omega arith in
    let more : raised (map of (range_with_len 1 (k + 1))) ≡ raised before ++ raised (of (k + 1) ∷ []) =
    ap raised (map-range_with_len_more of 1 k (k + 1) next) ∙ raised_append before (of (k + 1) ∷ []) in
    grind (arith, common_steps)
