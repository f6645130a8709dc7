use Rattle.std.proofs.Common.{sym, ap, ◌∙◌}
use Rattle.std.specs.FinSet as set
use Rattle.field_tables.specs.LaneSets.{Lanes}
use Rattle.control_sets.specs.ControlBytes.{byte_saying}
use Rattle.control_sets.proofs.Bytes.{byte_here, byte_later, byte_none}
use Rattle.control_sets.proofs.plan_bytes.control_byte.Goals as goal

pub returns-then-contains : goal.returns-then-contains
returns-then-contains c =
    let paths = c.as_slice-path-items.result.now in
    let taken = sym (ap (λ (lanes : Lanes). set.contains lanes c.args.lane) c.host_lanes.ensures) ∙ ap (λ lane. set.contains c.host_lanes.result lane) (sym c.number.ensures.same) ∙ sym c.contains.ensures ∙ c.if-contains.true in
    c.byte.ensures ∙ ap byte_saying c.control_in.ensures.control
    ∙ sym (c.loop-path.invariant ∙ byte_here c.args.advert.now c.args.lane paths c.loop-path.path-index _ c.loop-path-test.true taken)

pub loop-path-preserved : goal.loop-path-preserved
loop-path-preserved c =
    let paths = c.as_slice-path-items.result.now in
    let free = sym (ap (λ (lanes : Lanes). set.contains lanes c.args.lane) c.host_lanes.ensures) ∙ ap (λ lane. set.contains c.host_lanes.result lane) (sym c.number.ensures.same) ∙ sym c.contains.ensures ∙ c.if-contains.false in
    c.loop-path.invariant ∙ byte_later c.args.advert.now c.args.lane paths c.loop-path.path-index _ c.loop-path-test.true free

pub returns : goal.returns
returns c =
    let paths = c.as_slice-path-items.result.now in
    sym (c.loop-path.invariant ∙ byte_none c.args.advert.now c.args.lane paths c.loop-path.path-index c.loop-path-test.false)
