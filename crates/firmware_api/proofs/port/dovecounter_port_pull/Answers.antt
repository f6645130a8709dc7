use Rattle.std.proofs.Common.{◌≡◌, ◌∙◌, ap, true, rules}
use Rattle.port_manager.specs.declared.port.Port.{Port}
use Rattle.port_manager.specs.Ports.{pulled}
use Rattle.firmware_api.proofs.KeptLaws.{absent, fits_kept, found_kept, put_kept}
use Rattle.firmware_api.proofs.port.dovecounter_port_pull.Goals as goal

pub returns-clause-pulled : goal.returns-clause-pulled
returns-clause-pulled c held kept =
    let old = c.args.port.now in
    let count = old.numbers.half_count in
    let there : c.restore.result ≡ true = search rules in
    let same = found_kept old c.restore.new.port held (c.restore.ensures.found there) kept.is in
    let fits = fits_kept old c.restore.new.port held (c.restore.ensures.fits there) same kept in
    let is : c.pull.new.self ≡ pulled held = c.pull.ensures.value ∙ ap (λ (p : Port). pulled p) same in
    put_kept old c.put.new.kept c.pull.new.self (pulled held) is c.put.ensures.same c.put.ensures.shown c.put.ensures.count
    (absent count old.halves) (tt)
