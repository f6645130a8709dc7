use Rattle.applications.specs.Refusals.{advert_fault_under}
use Rattle.port_manager.specs.Goals.{advert_of, conventions_of}
use Rattle.port_manager.proofs.DecisionLaws.{advertised}
use Rattle.port_manager.proofs.deciding.decide_asleep.Goals as goal

pub returns : goal.returns
returns c =
    let image = c.args.image.now in
    let wanted = c.args.wanted.now in
    advertised (advert_fault_under (conventions_of wanted) image) c.advert_of.result c.in-Ok.advert (advert_of wanted image) _ _ c.advert_of.ensures c.in-Ok.is c.may_sleep.ensures
