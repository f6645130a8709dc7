use Rattle.std.proofs.Common.{Ok, Err, refl, sym, ◌∙◌}
use Rattle.firmware_api.proofs.ModuleRefusals.{no_place, reads, too_many}
use Rattle.firmware_api.proofs.half.read_advert_under.Goals as goal

pub returns-then-halves-gt-SMALL : goal.returns-then-halves-gt-SMALL
returns-then-halves-gt-SMALL c = rw (too_many c.args.conventions c.args.halves.now c.if-halves-gt-SMALL.true) refl

pub returns-then-not-all_have_places : goal.returns-then-not-all_have_places
returns-then-not-all_have_places c =
    rw (no_place c.args.conventions c.args.halves.now c.if-halves-gt-SMALL.false (sym c.all_have_places.ensures ∙ c.if-not-all_have_places.true)) refl

pub returns-in-Ok : goal.returns-in-Ok
returns-in-Ok c =
    reads c.args.conventions c.args.halves.now c.view.result (Ok c.in-Ok.advert) c.if-halves-gt-SMALL.false (sym c.all_have_places.ensures ∙ c.if-not-all_have_places.false)
    (c.view.ensures.same ∙ c.image_of.ensures) c.in-Ok.ensures

pub returns-in-Err : goal.returns-in-Err
returns-in-Err c =
    rw c.advert_status.ensures.status (reads c.args.conventions c.args.halves.now c.view.result (Err c.in-Err.fault) c.if-halves-gt-SMALL.false (sym c.all_have_places.ensures ∙ c.if-not-all_have_places.false)
    (c.view.ensures.same ∙ c.image_of.ensures) c.in-Err.ensures)
