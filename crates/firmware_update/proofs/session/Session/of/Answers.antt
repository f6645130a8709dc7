use Rattle.std.proofs.Common.{[], Option, ap, refl, sym, subst, arith}
use Rattle.command_block.specs.declared.delivery.Delivery.{Delivery}
use Rattle.firmware_update.specs.declared.update.Update.{Update}
use Rattle.firmware_update.specs.Courses.{IsOnBus}
use Rattle.firmware_update.specs.Sessions.{HasRoomAt, IsAbout}
use Rattle.firmware_update.proofs.OnBus.{begins}
use Rattle.firmware_update.proofs.Room.{at_about}
use Rattle.firmware_update.proofs.session.Session.of.Goals as goal

pub returns-clause-begins : goal.returns-clause-begins
returns-clause-begins c =
    let file = c.args.file.now in
    let update = c.of-update.result in
    let durations = c.new-durations.result in
    subst (λ (o : Option Delivery). IsOnBus file [] (record { update = update; durations = durations; delivery = o })) (sym c.delivery_at-delivery.ensures)
    (begins file durations update [] [] (record { course = refl; come = c.of-update.ensures.begins; learnt = c.new-durations.ensures; few = omega (arith, c.of-update.ensures.bound) }))

pub returns-clause-about : goal.returns-clause-about
returns-clause-about c =
    let file = c.args.file.now in
    let update = c.of-update.result in
    let durations = c.new-durations.result in
    subst (λ (o : Option Delivery). IsAbout file (record { update = update; durations = durations; delivery = o })) (sym c.delivery_at-delivery.ensures)
    (at_about file update durations (ap (λ (u : Update). u.size) c.of-update.ensures.value) (subst (λ (u : Update). HasRoomAt u.stage) (sym c.of-update.ensures.value) tt))
