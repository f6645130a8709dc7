use Rattle.std.proofs.Common.{◌≡◌, ◌∙◌, false, ap, true, rules}
use Rattle.port_manager.specs.declared.port.Port.{Port}
use Rattle.port_manager.specs.Ports.{holding}
use Rattle.firmware_api.specs.SimulatedModules.{is_on}
use Rattle.firmware_api.proofs.KeptLaws.{fits_kept, found_kept, put_kept, reconsidered_fits, reconsidered_known}
use Rattle.firmware_api.proofs.port.dovecounter_port_hold.Goals as goal

pub returns-clause-holds : goal.returns-clause-holds
returns-clause-holds c held kept =
    let old = c.args.port.now in
    let count = old.numbers.half_count in
    let on = is_on c.args.hold in
    let there : c.restore.result ≡ true = search rules in
    let same = found_kept old c.restore.new.port held (c.restore.ensures.found there) kept.is in
    let fits = fits_kept old c.restore.new.port held (c.restore.ensures.fits there) same kept in
    let is : c.hold.new.self ≡ holding on held = c.hold.ensures ∙ ap (λ (p : Port). holding on p) same in
    put_kept old c.put.new.kept c.hold.new.self (holding on held) is c.put.ensures.same c.put.ensures.shown c.put.ensures.count
    (reconsidered_fits held.outstanding (record held { vain = false; held = on }) count old.halves fits) (reconsidered_known held.outstanding (record held { vain = false; held = on }) kept.known)
