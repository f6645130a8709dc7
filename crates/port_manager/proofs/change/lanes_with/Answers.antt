use Rattle.std.proofs.Common.{◌≡◌, ◌+◌, sym, ap, subst, ◌∙◌, arith}
use Rattle.std.specs.FinSet as set
use Rattle.field_tables.specs.LaneSets.{run_of}
use Rattle.port_manager.specs.Changes.{has_role, lanes_with}
use Rattle.port_manager.proofs.GatheredLanes.{Gathered, all_those, none_yet, not_this, one_more}
use Rattle.port_manager.proofs.change.lanes_with.Goals as goal
use Rattle.port_manager.proofs.change.lanes_with.Goals.{then-has_role, else-has_role}

pub loop-place-init : goal.loop-place-init
loop-place-init c =
    let test = has_role c.args.role c.args.page.now c.args.change.now in
    subst (Gathered test 1) (sym c.empty-lanes.ensures) (none_yet test)

pub loop-place-preserved : goal.loop-place-preserved
loop-place-preserved c =
    let test = has_role c.args.role c.args.page.now c.args.change.now in
    let lane = c.loop-place.place + 1 in
    elim c.if-has_role.branch [
      | then-has_role w ↦
          let run = w.run.ensures ∙ ap (λ n. run_of n 1) (w.number.ensures.same ∙ c.at-lane.ensures) in
          let is = w.lanes-is ∙ w.union-lanes.ensures ∙ ap (set.union c.loop-place.lanes) run in
          subst (Gathered test (lane + 1)) (sym is)
          (one_more test lane c.loop-place.lanes (omega arith) (ap test (sym c.at-lane.ensures) ∙ sym c.has_role.ensures ∙ w.if-has_role.true) c.loop-place.invariant)
      | else-has_role w ↦
          subst (Gathered test (lane + 1)) (sym w.lanes-is)
          (not_this test lane c.loop-place.lanes (ap test (sym c.at-lane.ensures) ∙ sym c.has_role.ensures ∙ w.if-has_role.false) c.loop-place.invariant)
    ]

pub returns : goal.returns
unfolding lanes_with
returns c =
    let test = has_role c.args.role c.args.page.now c.args.change.now in
    let end : c.loop-place.place + 1 ≡ 9 = omega arith in
    all_those test c.loop-place.lanes (subst (λ n. Gathered test n c.loop-place.lanes) end c.loop-place.invariant)
