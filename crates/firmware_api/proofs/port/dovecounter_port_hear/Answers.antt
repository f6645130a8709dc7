use Rattle.std.proofs.Common.{◌≡◌, ◌∙◌, ap, true, rules}
use Rattle.port_manager.specs.declared.port.Port.{Port}
use Rattle.port_manager.specs.declared.silence.Presence.{Presence}
use Rattle.port_manager.specs.Ports.{heard, presence_by}
use Rattle.firmware_api.specs.PortsTold.{number_of_presence}
use Rattle.firmware_api.specs.SimulatedModules.{is_on}
use Rattle.firmware_api.proofs.KeptLaws.{fits_kept, found_kept, heard_fits, heard_known, put_kept}
use Rattle.firmware_api.proofs.port.dovecounter_port_hear.Goals as goal

pub returns-clause-heard : goal.returns-clause-heard
returns-clause-heard c held kept =
    let old = c.args.port.now in
    let count = old.numbers.half_count in
    let alive = is_on c.args.answered in
    let began = c.args.began in
    let now = c.args.now in
    let there : c.restore.result ≡ true = search rules in
    let same = found_kept old c.restore.new.port held (c.restore.ensures.found there) kept.is in
    let fits = fits_kept old c.restore.new.port held (c.restore.ensures.fits there) same kept in
    let is : c.hear-heard.new.self ≡ heard held alive began now = c.hear-heard.ensures.after ∙ ap (λ (p : Port). heard p alive began now) same in
    let presence = presence_by held alive began now in
    put_kept old c.put.new.kept c.hear-heard.new.self (heard held alive began now) is c.put.ensures.same c.put.ensures.shown c.put.ensures.count
    (heard_fits presence held alive began now count old.halves fits) (heard_known presence held alive began now kept.known)

pub returns-clause-told : goal.returns-clause-told
returns-clause-told c held is =
    let alive = is_on c.args.answered in
    let there : c.restore.result ≡ true = search rules in
    let same = found_kept c.args.port.now c.restore.new.port held (c.restore.ensures.found there) is in
    c.tell.ensures ∙ ap number_of_presence c.hear-heard.ensures.presence ∙ ap (λ (p : Port). number_of_presence (presence_by p alive c.args.began c.args.now)) same
