use Rattle.std.proofs.Common.{◌≡◌, ◌<◌, if◌then◌else◌, sym, subst, ap, ◌∙◌}
use Rattle.std.specs.FinSet as set
use Rattle.field_tables.specs.LaneSets.{Lanes, lanes_in}
use Rattle.lane_controls.specs.LaneChanges.{bits_of}
use Rattle.lane_controls.specs.Merging.{merged}
use Rattle.lane_controls.proofs.MergingLaws.{takes_lanes}
use Rattle.lane_controls.proofs.lane_change.LaneChange.wanted.Goals as goal

pub returns-clause-lanes : goal.returns-clause-lanes
returns-clause-lanes c lane =
    let change = c.args.self in
    let byte = c.args.byte in
    let mask = c.byte.result in
    let fits : mask < 256 = c.byte.type_inv in
    let named = subst (λ (lanes : Lanes). set.contains (lanes_in (merged mask (bits_of change.on) byte)) lane ≡ (if set.contains lanes lane then change.on else set.contains (lanes_in byte) lane)) c.byte.ensures.lanes (takes_lanes mask byte change.on lane fits) in
    subst (λ stored. set.contains (lanes_in stored) lane ≡ (if set.contains change.lanes lane then change.on else set.contains (lanes_in byte) lane))
    (sym (c.merged.ensures ∙ ap (λ bits. merged mask bits byte) c.bits_of.ensures)) named
