use Rattle.std.proofs.Common.{◌≡◌, ◌++◌, ◌≤◌, ◌<◌, ℕ, [], Option, Some, ap, refl, sym, subst, ◌∙◌, arith}
use Rattle.command_block.specs.Deliveries.{Terms, delivery_wants, terms_of}
use Rattle.command_block.specs.declared.delivery.Delivery.{Delivery}
use Rattle.command_block.specs.Turns.{ToldDelivery}
use Rattle.conversations.specs.declared.within.Within.{Within}
use Rattle.firmware_update.specs.declared.session.Session.{Session}
use Rattle.firmware_update.specs.Courses.{IsOnBus, asked_for, wanted_by}
use Rattle.firmware_update.specs.Progress.{left}
use Rattle.firmware_update.proofs.Delivering.{IsDue, begins_due, does_within, ends, ends_due, happens_on, happens_to, has_room, leaves_fewer, stops, told_nothing}
use Rattle.firmware_update.proofs.Over.{over}
use Rattle.firmware_update.proofs.OnBus.{begins, ends_bus, safe_bus}
use Rattle.firmware_update.proofs.runner.run_update.Goals as goal

pub delivered-init : goal.delivered-init
delivered-init g c = ([], refl, subst (λ (s : Session). IsDue c.args.file.now [] s) (sym c.of-session.ensures.value) (begins_due c.args.file.now))

pub run-requires : goal.run-requires
run-requires g c =
    let (events, happens, due) = c.delivered.invariant in
    let told = told_nothing c.args.file.now c.delivered.session events due c.in-Some.delivery (sym c.take.ensures.value ∙ c.in-Some.is) in
    record { begun = subst (λ (w : Within Delivery). ToldDelivery [] w.conversation × (0 ≡ w.steps) × (w.steps ≤ w.limit)) (sym c.new-within.ensures) (told, refl, omega arith) }

pub go_on-requires-clause-room : goal.go_on-requires-clause-room
go_on-requires-clause-room g c outcome command asks sent =
    let (events, happens, due) = c.delivered.invariant in
    let (last, own, happened, (told, left_at, (same, spent))) = c.in-Ok.ensures.made in
    let terms = ap (λ (t : ℕ × Terms). t.1) c.in-Ok.ensures.topic ∙ ap (λ (w : Within Delivery). terms_of w.conversation.patient) c.new-within.ensures in
    has_room c.args.file.now c.delivered.session events due c.in-Some.delivery (sym c.take.ensures.value ∙ c.in-Some.is)
    g.B.TimedBus.makes g.B.TimedBus.passes c.delivered.bus last own c.run.new.within.conversation happened told.0 terms outcome asks command sent

pub delivered-smaller : goal.delivered-smaller
delivered-smaller g c =
    let (events, happens, due) = c.delivered.invariant in
    let is = sym c.take.ensures.value ∙ c.in-Some.is in
    let (last, own, happened, (told, left_at, (same, spent))) = c.in-Ok.ensures.made in
    let file = c.args.file.now in
    let later = c.run.new.within in
    let terms = ap (λ (t : ℕ × Terms). t.1) c.in-Ok.ensures.topic ∙ ap (λ (w : Within Delivery). terms_of w.conversation.patient) c.new-within.ensures in
    let (outcome, asks) = ends file c.delivered.session events due c.in-Some.delivery is c.new-within.result own later.steps later.limit later.conversation c.in-Ok._spent c.new-within.ensures left_at spent in
    subst (λ (s : Session). left s.update < left c.delivered.session.update) (sym c.go_on.ensures)
    (leaves_fewer file c.delivered.session events due c.in-Some.delivery is g.B.TimedBus.makes g.B.TimedBus.passes c.delivered.bus last own later.conversation happened told.0 terms outcome asks)

pub delivered-preserved : goal.delivered-preserved
delivered-preserved g c =
    let (events, happens, due) = c.delivered.invariant in
    let is = sym c.take.ensures.value ∙ c.in-Some.is in
    let (last, own, happened, (told, left_at, (same, spent))) = c.in-Ok.ensures.made in
    let file = c.args.file.now in
    let later = c.run.new.within in
    let terms = ap (λ (t : ℕ × Terms). t.1) c.in-Ok.ensures.topic ∙ ap (λ (w : Within Delivery). terms_of w.conversation.patient) c.new-within.ensures in
    let (outcome, asks) = ends file c.delivered.session events due c.in-Some.delivery is c.new-within.result own later.steps later.limit later.conversation c.in-Ok._spent c.new-within.ensures left_at spent in (
      own ++ events,
      happens_to g.B.TimedBus.makes g.B.TimedBus.passes c.args.bus.now c.delivered.bus last c.run.new.bus own events happens happened same,
      subst (λ (s : Session). IsDue file (own ++ events) s) (sym c.go_on.ensures)
          (ends_due file c.delivered.session events due c.in-Some.delivery is g.B.TimedBus.makes g.B.TimedBus.passes c.delivered.bus last own later.conversation happened told.0 terms outcome asks),
    )

pub returns-in-Err : goal.returns-in-Err
returns-in-Err g c =
    let (events, happens, due) = c.delivered.invariant in
    let is = sym c.take.ensures.value ∙ c.in-Some.is in
    let (last, own, happened, (told, (op, left_at), out)) = c.in-Err.ensures.made in
    let file = c.args.file.now in
    let later = c.run.new.within in
    let terms = ap (λ (t : ℕ × Terms). t.1) c.in-Err.ensures.topic ∙ ap (λ (w : Within Delivery). terms_of w.conversation.patient) c.new-within.ensures in
    let wants = does_within later.steps later.limit (delivery_wants later.conversation) op left_at in
    let session : Session = record { update = c.delivered.session.update; durations = c.delivered.session.durations; delivery = Some later.conversation } in
    let (turned, at) = stops file c.delivered.session events due c.in-Some.delivery is g.B.TimedBus.makes g.B.TimedBus.passes c.delivered.bus last own later.conversation happened told.0 terms op wants in (
      last,
      own ++ events,
      happens_on g.B.TimedBus.makes g.B.TimedBus.passes c.args.bus.now c.delivered.bus last own events happens happened,
      (out.failed, (session, turned, at, safe_bus file (own ++ events) session at, (op, ap asked_for wants))),
    )

pub returns-in-None : goal.returns-in-None
returns-in-None g c =
    let (events, happens, due) = c.delivered.invariant in
    let file = c.args.file.now in
    let session = c.delivered.session in
    let none = sym c.take.ensures.value ∙ c.in-None.is in
    let wants = ap (λ (o : Option Delivery). wanted_by session.update o) none ∙ c.end-end.ensures in
    let at = subst (λ (o : Option Delivery). IsOnBus file events (record { update = session.update; durations = session.durations; delivery = o })) (sym due.due)
    (begins file session.durations session.update due.history events due.between) in
    (c.delivered.bus, events, happens, (refl, (session, due.turned, wants, c.known-known.ensures.value), over file events session.update c.known-known.result c.end-end.result (ends_bus file events c.end-end.result session at wants) c.known-known.ensures.value c.known-known.ensures.shown))
