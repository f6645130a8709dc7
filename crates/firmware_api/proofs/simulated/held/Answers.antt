use Rattle.std.proofs.Common.{ap, sym, ◌∙◌, None, Some}
use Rattle.firmware_api.specs.Statuses.{by_status}
use Rattle.firmware_api.proofs.HeldModules.{held_is}
use Rattle.firmware_api.proofs.simulated.held.Goals as goal

pub returns-in-Some : goal.returns-in-Some
returns-in-Some c =
    ap by_status (sym (held_is c.args.halves.now c.args.saved.now c.large_image_of-image.result c.own_advert.result c.in-Ok.advert (Some c.in-Some.held)
    (c.simulated_status-status.ensures.sound c.if-status-ne-DONE.false) c.large_image_of-image.ensures (rw c.view.ensures.same at c.own_advert.ensures) c.in-Ok.is (sym c.in-Some.is ∙ c.restore.ensures)))

pub returns-in-None : goal.returns-in-None
returns-in-None c =
    ap by_status (sym (held_is c.args.halves.now c.args.saved.now c.large_image_of-image.result c.own_advert.result c.in-Ok.advert None
    (c.simulated_status-status.ensures.sound c.if-status-ne-DONE.false) c.large_image_of-image.ensures (rw c.view.ensures.same at c.own_advert.ensures) c.in-Ok.is (sym c.in-None.is ∙ c.restore.ensures)))
