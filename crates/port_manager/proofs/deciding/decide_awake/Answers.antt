use Rattle.std.proofs.Common.{◌≡◌, ℕ, List, Some, sym, ap, subst, ◌∙◌}
use Rattle.std.specs.FinMap as map
use Rattle.applications.specs.Advertised.{Advertised}
use Rattle.applications.specs.Refusals.{advert_fault_under}
use Rattle.paged_memory.specs.declared.key.Key.{Key}
use Rattle.port_manager.specs.Decisions.{page_of_lanes}
use Rattle.port_manager.specs.Goals.{HasGoal, advert_of, conventions_of}
use Rattle.port_manager.proofs.DecisionLaws.{advertised, ready_judged}
use Rattle.port_manager.proofs.KeptPaths.{advert_is}
use Rattle.port_manager.proofs.deciding.decide_awake.Goals as goal

pub returns : goal.returns
returns c =
    let image = c.args.image.now in
    let wanted = c.args.wanted.now in
    let bytes = c.bytes-page.result.now in
    let there : page_of_lanes image ≡ Some bytes = sym (c.in-Some.ensures.page ∙ ap (λ (key : Key). map.get image key) c.upper.ensures) ∙ ap (λ (page : List ℕ). Some page) (sym c.bytes-page.ensures.same) in
    let has = subst (λ (advert : Advertised). HasGoal advert wanted bytes c.goal_of-goal.result) (advert_is _ c.advert_of.result c.in-Ok.advert (advert_of wanted image) c.advert_of.ensures c.in-Ok.is) c.goal_of-goal.ensures in
    advertised (advert_fault_under (conventions_of wanted) image) c.advert_of.result c.in-Ok.advert (advert_of wanted image) _ _ c.advert_of.ensures c.in-Ok.is
    (ready_judged wanted image bytes c.goal_of-goal.result c.judged.result (sym c.number.ensures.value ∙ c.if-number-ne-READY.false) there has c.judged.ensures)
