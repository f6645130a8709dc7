use Rattle.std.proofs.Common.{◌≡◌, ◌+◌, List, take, subst, sym, ap, ◌∙◌}
use Rattle.std.proofs.lemmas.List.{take_all}
use Rattle.std.specs.FinSet as set
use Rattle.field_tables.specs.LaneSets.{Lanes}
use Rattle.plan_certificate.specs.declared.path.Path.{Path}
use Rattle.plan_certificate.specs.Plans.{AreAllowed}
use Rattle.control_sets.specs.PlanLanes.{plan_lanes}
use Rattle.control_sets.proofs.PlanLaneLaws.{AreLanesOf, lanes_are, none_taken, one_more}
use Rattle.control_sets.proofs.plan_bytes.lanes_of.Goals as goal

pub loop-path-init : goal.loop-path-init
loop-path-init c = subst (λ (lanes : Lanes). AreLanesOf c.args.advert.now (take 0 c.as_slice-path-items.result.now) lanes) (sym c.empty-lanes.ensures) (none_taken c.args.advert.now c.as_slice-path-items.result.now)

pub loop-path-preserved : goal.loop-path-preserved
loop-path-preserved c =
    let paths = c.as_slice-path-items.result.now in
    let index = c.loop-path.path-index in
    subst (λ (lanes : Lanes). AreLanesOf c.args.advert.now (take (index + 1) paths) lanes) (sym (c.union-lanes.ensures ∙ ap (set.union c.loop-path.lanes) c.host_lanes.ensures))
    (one_more c.args.advert.now paths index _ c.loop-path.lanes c.loop-path-test.true c.loop-path.invariant)

pub returns : goal.returns
returns c =
    let paths = c.as_slice-path-items.result.now in
    let all = take_all c.loop-path.path-index paths c.loop-path-test.false in
    let is : paths ≡ c.args.plan.now = c.as_slice-path-items.ensures.value ∙ c.plan.view_is in
    lanes_are c.args.advert.now paths c.loop-path.lanes (subst (AreAllowed c.args.advert.now) (sym is) c.requires)
    (subst (λ (some : List Path). AreLanesOf c.args.advert.now some c.loop-path.lanes) all c.loop-path.invariant)
    ∙ ap (plan_lanes c.args.advert.now) is
