use Rattle.std.proofs.Common.{◌≡◌, ◌+◌, arith}
use Rattle.std.proofs.lemmas.Grind.{common_steps}
use Rattle.std.proofs.lemmas.List.FromFn.{map-range_with_len_more}
use Rattle.report_entries.specs.FlagRows.{lane_flag}
use Rattle.report_entries.proofs.flag_rows.add_bank.Goals as goal

pub loop-before-preserved : goal.loop-before-preserved
loop-before-preserved c =
    let of = lane_flag c.args.name c.args.field c.args.bank c.args.lanes.now in
    let k = c.loop-before.before in
    let next : 1 + k ≡ k + 1 = omega arith in
    let more = map-range_with_len_more of 1 k (k + 1) next in
    grind (arith, common_steps)
