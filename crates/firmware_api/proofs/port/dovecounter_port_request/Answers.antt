use Rattle.std.proofs.Common.{◌≡◌, ◌∙◌, false, ap, true, rules}
use Rattle.port_manager.specs.declared.port.Port.{Port}
use Rattle.port_manager.specs.declared.request.Request.{Request}
use Rattle.port_manager.specs.Ports.{asked_for}
use Rattle.saved_port.specs.SavedPorts.{request_in}
use Rattle.firmware_api.proofs.KeptLaws.{fits_kept, found_kept, put_kept, reconsidered_fits, reconsidered_known}
use Rattle.firmware_api.proofs.port.dovecounter_port_request.Goals as goal

pub returns-clause-asked : goal.returns-clause-asked
returns-clause-asked c held kept =
    let old = c.args.port.now in
    let count = old.numbers.half_count in
    let request = request_in c.args.request c.args.lanes in
    let there : c.restore.result ≡ true = search rules in
    let same = found_kept old c.restore.new.port held (c.restore.ensures.found there) kept.is in
    let fits = fits_kept old c.restore.new.port held (c.restore.ensures.fits there) same kept in
    let is : c.ask.new.self ≡ asked_for request held =
    c.ask.ensures ∙ ap (λ (r : Request). asked_for r c.restore.new.port) c.request_in.ensures ∙ ap (λ (p : Port). asked_for request p) same in
    put_kept old c.put.new.kept c.ask.new.self (asked_for request held) is c.put.ensures.same c.put.ensures.shown c.put.ensures.count
    (reconsidered_fits held.outstanding (record held { vain = false; request = request }) count old.halves fits) (reconsidered_known held.outstanding (record held { vain = false; request = request }) kept.known)
