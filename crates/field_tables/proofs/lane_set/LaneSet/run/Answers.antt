use Rattle.std.proofs.Common.{◌+◌, ◌-◌, ◌^◌, ◌≤◌, ap, ◌∙◌, arith, pow_mono}
use Rattle.std.proofs.lemmas.Nat.{one_shl}
use Rattle.field_tables.proofs.LaneLaws.{lanes_in-mask}
use Rattle.field_tables.specs.LaneSets.{lanes_in}
use Rattle.field_tables.proofs.lane_set.LaneSet.run.Goals as goal

pub overflow_sub-ones : goal.overflow_sub-ones
overflow_sub-ones c =
    let from = c.args.first - 1 in
    let grows : 2 ^ from ≤ 2 ^ (from + c.args.count) = pow_mono (omega arith) in
    omega (arith, one_shl from 16 (omega arith), one_shl (from + c.args.count) 16 (omega arith))

pub returns : goal.returns
returns c =
    let from = c.args.first - 1 in
    let high = one_shl (from + c.args.count) 16 (omega arith) in
    let low = one_shl from 16 (omega arith) in
    c.from.ensures ∙ ap lanes_in (λ i. high i - low i) ∙ lanes_in-mask c.args.first c.args.count c.requires.from_one c.requires.to_eight
