use Rattle.std.proofs.Common.{Option, subst, sym, ◌∙◌}
use Rattle.command_block.specs.declared.delivery.Delivery.{Delivery}
use Rattle.conversations.specs.declared.event.Event.TheVariants.{Waited}
use Rattle.firmware_update.specs.Progress.{taken}
use Rattle.firmware_update.specs.Turned.{HasRestedBy}
use Rattle.firmware_update.proofs.OnBus.{delivery_waits, goes}
use Rattle.firmware_update.proofs.Room.{going_about, next_room, taken_room}
use Rattle.firmware_update.proofs.Turns.{fewer_waited}
use Rattle.firmware_update.proofs.session.Session.waited.Goals as goal

pub go_on-requires-clause-room : goal.go_on-requires-clause-room
go_on-requires-clause-room c outcome command ends asks =
    next_room (taken c.args.self.now.update outcome) command (taken_room c.args.self.now.update outcome c.requires.about.1) asks

pub returns-in-Some-clause-rests : goal.returns-in-Some-clause-rests
returns-in-Some-clause-rests c =
    let is = sym c.take.ensures.value ∙ c.in-Some.is in
    subst (λ (o : Option Delivery). HasRestedBy c.args.file.now c.args.self.now o c.go_on.new.self) (sym is)
    (c.waited.new.self, c.waited.ensures.rested, c.go_on.ensures)

pub returns-in-Some-clause-told : goal.returns-in-Some-clause-told
returns-in-Some-clause-told c events time at asks =
    let is = sym c.take.ensures.value ∙ c.in-Some.is in
    let waits = delivery_waits c.args.file.now c.args.self.now c.in-Some.delivery time is asks in
    goes c.args.file.now (Waited time) events c.args.self.now c.go_on.new.self c.in-Some.delivery c.waited.new.self is c.go_on.ensures at
    (λ own told. c.waited.ensures.told own time waits told) c.waited.ensures.topic

pub returns-in-Some-clause-fewer : goal.returns-in-Some-clause-fewer
returns-in-Some-clause-fewer c events time at asks =
    let is = sym c.take.ensures.value ∙ c.in-Some.is in
    let waits = delivery_waits c.args.file.now c.args.self.now c.in-Some.delivery time is asks in
    fewer_waited c.args.file.now events time c.args.self.now c.go_on.new.self c.in-Some.delivery c.waited.new.self is c.go_on.ensures at asks
    (λ own told. c.waited.ensures.told own time waits told) c.waited.ensures.once

pub returns-in-Some-clause-about : goal.returns-in-Some-clause-about
returns-in-Some-clause-about c =
    let is = sym c.take.ensures.value ∙ c.in-Some.is in
    going_about c.args.file.now c.args.self.now c.go_on.new.self c.in-Some.delivery c.waited.new.self is c.go_on.ensures c.waited.ensures.topic c.requires.about
