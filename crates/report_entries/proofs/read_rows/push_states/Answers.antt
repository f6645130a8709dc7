use Rattle.std.proofs.Common.{◌≡◌, ◌+◌, ◌++◌, ap, ◌∙◌, length, length-append, map, arith}
use Rattle.std.proofs.lemmas.Grind.{common_steps}
use Rattle.std.proofs.lemmas.List.FromFn.{length-map-range_with_len, map-range_with_len_more}
use Rattle.std.specs.List.{range_with_len}
use Rattle.report_entries.specs.Rows.{lane_state_at}
use Rattle.report_entries.proofs.read_rows.push_states.Goals as goal

pub loop-before-preserved : goal.loop-before-preserved
loop-before-preserved c =
    let of = lane_state_at c.args.image.now c.args.paths c.args.statuses in
    let k = c.loop-before.before in
    let next : 1 + k ≡ k + 1 = omega arith in
    let more = map-range_with_len_more of 1 k (k + 1) next in
    grind (arith, common_steps)

pub push-requires : goal.push-requires
push-requires c =
    let of = lane_state_at c.args.image.now c.args.paths c.args.statuses in
    let before = c.args.states.now.items in
    let len : length c.loop-before.states.items ≡ length before + c.loop-before.before =
    ap length c.loop-before.invariant ∙ length-append before (map of (range_with_len 1 c.loop-before.before)) ∙ ap (λ n. length before + n) (length-map-range_with_len of 1 c.loop-before.before) in
    (omega arith, omega (arith, len, c.requires.room, c.loop-before-test.true))
