use Rattle.std.proofs.Common.{◌≡◌, Bool, sym, ap, subst, ◌∙◌, List, [], true}
use Rattle.std.specs.List.{filter}
use Rattle.std.proofs.lemmas.List.Elements.{All-filter}
use Rattle.std.proofs.lemmas.List.Kept.{AllPairs-filter}
use Rattle.applications.specs.Advertised.{Advertised}
use Rattle.applications.specs.AppWeights.{PathWeights}
use Rattle.field_tables.specs.LaneSets.{Lanes}
use Rattle.plan_certificate.specs.declared.path.Path.{Path}
use Rattle.plan_certificate.specs.Paths.{is_allowed}
use Rattle.plan_certificate.specs.Plans.{AreAllowed, IsAdmissible, are_apart}
use Rattle.lane_planner.specs.FirstBest.{IsFirstBest}
use Rattle.control_sets.specs.ControlBytes.{control_bytes}
use Rattle.control_sets.specs.PlanLanes as lanes
use Rattle.port_manager.specs.Goals.{is_kept, kept_of, stays_up, wanted_of}
use Rattle.port_manager.proofs.deciding.goal_of.Goals as goal

-- some of the paths of a plan are a plan
few_allowed : (advert : Advertised) (p : Path → Bool) (plan : List Path) → AreAllowed advert plan → AreAllowed advert (filter p plan)
few_allowed advert p plan allowed = All-filter p (λ (path : Path). is_allowed advert path ≡ true) plan allowed

admissible : (advert : Advertised) (down : Lanes) (plan : List Path) → IsAdmissible advert plan → IsAdmissible advert (wanted_of advert down plan)
admissible advert down plan is =
    record {
      allowed = few_allowed advert (stays_up advert down) plan is.allowed;
      apart = AllPairs-filter (λ (path other : Path). are_apart advert path other ≡ true) (stays_up advert down) plan is.apart;
    }

pub bytes_of-control-requires : goal.bytes_of-control-requires
bytes_of-control-requires c =
    subst (λ (paths : List Path). IsAdmissible c.args.advert.now paths) (sym c.wanted_of-plan.ensures)
    (admissible c.args.advert.now c.args.wanted.now.down c.first_plan-first.result c.first_plan-first.ensures.first.candidate.best.admissible)

pub kept_of-kept-requires-clause-plan : goal.kept_of-kept-requires-clause-plan
kept_of-kept-requires-clause-plan c =
    subst (λ (paths : List Path). IsAdmissible c.args.advert.now paths) (sym c.wanted_of-plan.ensures)
    (admissible c.args.advert.now c.args.wanted.now.down c.first_plan-first.result c.first_plan-first.ensures.first.candidate.best.admissible)

pub lanes_of-requires : goal.lanes_of-requires
lanes_of-requires c =
    subst (λ (paths : List Path). AreAllowed c.args.advert.now paths) (sym c.wanted_of-plan.ensures)
    (few_allowed c.args.advert.now (stays_up c.args.advert.now c.args.wanted.now.down) c.first_plan-first.result c.first_plan-first.ensures.first.candidate.best.admissible.allowed)

pub lanes_outside-requires : goal.lanes_outside-requires
lanes_outside-requires c =
    let advert = c.args.advert.now in
    let down = c.args.wanted.now.down in
    let plan = c.first_plan-first.result in
    subst (λ (paths : List Path). AreAllowed advert paths) (sym (c.kept_of-kept.ensures ∙ ap (λ (paths : List Path). kept_of advert c.args.page.now c.bytes_of-control.result paths) c.wanted_of-plan.ensures))
    (few_allowed advert (is_kept advert c.args.page.now c.bytes_of-control.result) (wanted_of advert down plan)
    (few_allowed advert (stays_up advert down) plan c.first_plan-first.ensures.first.candidate.best.admissible.allowed))

pub returns : goal.returns
returns c =
    let advert = c.args.advert.now in
    let plan = c.first_plan-first.result in
    let wanted = c.wanted_of-plan.ensures in (
      plan,
      record {
        first = subst (λ (weights : PathWeights). IsFirstBest advert weights [] plan) c.by_host-weights.ensures
            (subst (λ (kept : List Path). IsFirstBest advert c.by_host-weights.result kept plan) c.new.ensures c.first_plan-first.ensures.first);
        rising = c.first_plan-first.ensures.rising;
        control = c.bytes_of-control.ensures ∙ ap (λ (paths : List Path). control_bytes advert paths) wanted;
        lanes = c.lanes_of.ensures ∙ ap (λ (paths : List Path). lanes.plan_lanes advert paths) wanted;
        outside = c.lanes_outside.ensures
            ∙ ap (λ (kept : List Path). lanes.lanes_outside advert kept) (c.kept_of-kept.ensures ∙ ap (λ (paths : List Path). kept_of advert c.args.page.now c.bytes_of-control.result paths) wanted);
      },
    )
