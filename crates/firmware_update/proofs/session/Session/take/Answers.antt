use Rattle.std.proofs.Common.{Option, ap, sym, ◌∙◌}
use Rattle.command_block.specs.declared.delivery.Delivery.{Delivery}
use Rattle.conversations.specs.Events.{made}
use Rattle.firmware_update.specs.Courses.{going_on}
use Rattle.firmware_update.specs.Progress.{taken}
use Rattle.firmware_update.specs.Turned.{replied_by}
use Rattle.firmware_update.proofs.OnBus.{delivery_does, goes}
use Rattle.firmware_update.proofs.Room.{going_about, next_room, taken_room}
use Rattle.firmware_update.proofs.Turns.{fewer_made}
use Rattle.firmware_update.proofs.session.Session.take.Goals as goal

pub go_on-requires-clause-room : goal.go_on-requires-clause-room
go_on-requires-clause-room c outcome command ends asks =
    next_room (taken c.args.self.now.update outcome) command (taken_room c.args.self.now.update outcome c.requires.about.1) asks

pub returns-in-Some-clause-value : goal.returns-in-Some-clause-value
returns-in-Some-clause-value c =
    let is = sym c.take.ensures.value ∙ c.in-Some.is in
    c.go_on.ensures
    ∙ ap (λ (d : Delivery). going_on c.args.file.now c.args.self.now.update c.args.self.now.durations d) c.take-in-Some.ensures.after
    ∙ sym (ap (λ (o : Option Delivery). replied_by c.args.file.now c.args.self.now o c.args.reply.now) is)

pub returns-in-Some-clause-told : goal.returns-in-Some-clause-told
returns-in-Some-clause-told c events op at asks =
    let is = sym c.take.ensures.value ∙ c.in-Some.is in
    let does = delivery_does c.args.file.now c.args.self.now c.in-Some.delivery op is asks in
    goes c.args.file.now (made op c.args.reply.now) events c.args.self.now c.go_on.new.self c.in-Some.delivery c.take-in-Some.new.self is c.go_on.ensures at
    (λ own told. c.take-in-Some.ensures.told own op does told) c.take-in-Some.ensures.topic

pub returns-in-Some-clause-fewer : goal.returns-in-Some-clause-fewer
returns-in-Some-clause-fewer c events op at asks =
    let is = sym c.take.ensures.value ∙ c.in-Some.is in
    let does = delivery_does c.args.file.now c.args.self.now c.in-Some.delivery op is asks in
    fewer_made c.args.file.now events op c.args.reply.now c.args.self.now c.go_on.new.self c.in-Some.delivery c.take-in-Some.new.self is c.go_on.ensures at asks
    (λ own told. c.take-in-Some.ensures.told own op does told) c.take-in-Some.ensures.topic

pub returns-in-Some-clause-about : goal.returns-in-Some-clause-about
returns-in-Some-clause-about c =
    let is = sym c.take.ensures.value ∙ c.in-Some.is in
    going_about c.args.file.now c.args.self.now c.go_on.new.self c.in-Some.delivery c.take-in-Some.new.self is c.go_on.ensures c.take-in-Some.ensures.topic c.requires.about
