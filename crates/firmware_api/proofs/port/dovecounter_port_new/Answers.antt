use Rattle.std.proofs.Common.{sym, subst}
use Rattle.port_manager.specs.declared.port.Port.{Port}
use Rattle.saved_port.specs.Known.{IsKnown}
use Rattle.firmware_api.specs.KeptPorts.{IsKept}
use Rattle.firmware_api.proofs.KeptLaws.{Fits, absent, keeps}
use Rattle.firmware_api.proofs.port.dovecounter_port_new.Goals as goal

pub returns : goal.returns
returns c =
    let is = c.new-empty.ensures.value in
    let held = subst (λ (p : Port). IsKept c.kept.result p) is in
    held (keeps c.kept.result c.new-empty.result 0 c.kept.result.halves (subst (λ (p : Port). Fits p.stage 0 c.kept.result.halves) (sym is) (absent 0 c.kept.result.halves))
    (subst (λ (p : Port). IsKnown p) (sym is) tt) c.kept.ensures.count c.kept.ensures.same c.kept.ensures.shown)
