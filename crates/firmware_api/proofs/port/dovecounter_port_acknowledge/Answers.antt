use Rattle.std.proofs.Common.{◌≡◌, ◌∙◌, ap, true, rules}
use Rattle.port_manager.specs.declared.port.Port.{Port}
use Rattle.port_manager.specs.Ports.{acknowledged_to}
use Rattle.firmware_api.proofs.KeptLaws.{fits_kept, found_kept, put_kept, stays}
use Rattle.firmware_api.proofs.port.dovecounter_port_acknowledge.Goals as goal

pub returns-clause-acknowledged : goal.returns-clause-acknowledged
returns-clause-acknowledged c held kept =
    let old = c.args.port.now in
    let count = old.numbers.half_count in
    let there : c.restore.result ≡ true = search rules in
    let same = found_kept old c.restore.new.port held (c.restore.ensures.found there) kept.is in
    let fits = fits_kept old c.restore.new.port held (c.restore.ensures.fits there) same kept in
    let is : c.acknowledge.new.self ≡ acknowledged_to c.args.moment held = c.acknowledge.ensures ∙ ap (λ (p : Port). acknowledged_to c.args.moment p) same in
    put_kept old c.put.new.kept c.acknowledge.new.self (acknowledged_to c.args.moment held) is c.put.ensures.same c.put.ensures.shown c.put.ensures.count
    (stays held.stage count old.halves fits) (kept.known)
