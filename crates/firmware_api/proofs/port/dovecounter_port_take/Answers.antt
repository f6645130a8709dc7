use Rattle.std.proofs.Common.{◌≡◌, Option, Some, sym, subst, ◌∙◌, true, rules}
use Rattle.std.specs.Prelude.{IfSome}
use Rattle.bus_model.specs.declared.operation.Reply.{Reply}
use Rattle.port_manager.specs.declared.deciding.Wanted.{Wanted}
use Rattle.port_manager.specs.declared.port.Outcome.{Outcome}
use Rattle.port_manager.specs.declared.port.Port.{Port}
use Rattle.port_manager.specs.Ports.{IsAwaited, IsTaken}
use Rattle.saved_port.specs.Outcomes.{AreNumbersOf}
use Rattle.firmware_api.specs.KeptPorts.{IsKept}
use Rattle.firmware_api.specs.Operations.{reply_of}
use Rattle.firmware_api.specs.PortsTold.{wanted_in}
use Rattle.firmware_api.proofs.KeptLaws.{found_kept, same_some}
use Rattle.firmware_api.proofs.port.dovecounter_port_take.Goals as goal

pub returns-clause-taken : goal.returns-clause-taken
returns-clause-taken c done held given is replied =
    let old = c.args.port.now in
    let found = c.restore.new.port in
    let reply = c.in-Some.reply in
    let there : c.restore.result ≡ true = search rules in
    let same = found_kept old found held (c.restore.ensures.found there) is in
    let (said, comes) = subst (λ (r : Option Reply). IfSome r (λ reply. (reply_of c.args.reply c.args.bytes.now ≡ Some reply) × IsAwaited found reply)) c.in-Some.is c.awaited.ensures.given in
    let same_reply = same_some reply given (sym said ∙ replied) in
    let Takes : Port → Reply → Wanted → Type 0 = λ h r w.
    (led : Outcome) × IsTaken h r w c.args.now led c.take.new.held × AreNumbersOf led c.take.result × (IsKept old h → IsKept c.take.new.kept c.take.new.held) in
    let (led, taken, numbers, kept) =
    subst (λ (h : Port). Takes h given (wanted_in c.args.wanted.now)) same
    (subst (λ (r : Reply). Takes found r (wanted_in c.args.wanted.now)) same_reply (subst (λ (w : Wanted). Takes found reply w) c.wanted.ensures c.take.ensures)) in
    (led, c.take.new.held, taken, numbers, kept)
