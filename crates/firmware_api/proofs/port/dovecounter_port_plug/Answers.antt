use Rattle.std.proofs.Common.{◌≡◌, ◌∙◌, false, ap, true, rules}
use Rattle.port_manager.specs.declared.port.Port.{Port}
use Rattle.port_manager.specs.Ports.{plugged}
use Rattle.firmware_api.proofs.KeptLaws.{begins, fits_kept, found_kept, put_kept}
use Rattle.firmware_api.proofs.port.dovecounter_port_plug.Goals as goal

pub returns-clause-plugged : goal.returns-clause-plugged
returns-clause-plugged c held kept =
    let old = c.args.port.now in
    let count = old.numbers.half_count in
    let there : c.restore.result ≡ true = search rules in
    let same = found_kept old c.restore.new.port held (c.restore.ensures.found there) kept.is in
    let fits = fits_kept old c.restore.new.port held (c.restore.ensures.fits there) same kept in
    let is : c.plug.new.self ≡ plugged c.args.now held = c.plug.ensures.value ∙ ap (λ (p : Port). plugged c.args.now p) same in
    put_kept old c.put.new.kept c.plug.new.self (plugged c.args.now held) is c.put.ensures.same c.put.ensures.shown c.put.ensures.count
    (begins false count old.halves) (tt)
