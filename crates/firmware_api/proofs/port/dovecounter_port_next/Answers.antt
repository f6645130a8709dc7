use Rattle.std.proofs.Common.{◌≡◌, ◌∙◌, ap, true, rules}
use Rattle.port_manager.specs.declared.port.Port.{Port}
use Rattle.conversations.specs.declared.next.Next.{Next}
use Rattle.port_manager.specs.declared.port.Rest.{Rest}
use Rattle.port_manager.specs.Ports.{asking, next_at, rechecked}
use Rattle.firmware_api.specs.PortsTold.{next_told}
use Rattle.firmware_api.proofs.KeptLaws.{asking_fits, asking_known, fits_kept, found_kept, put_kept, rechecked_known, told_asking}
use Rattle.firmware_api.proofs.port.dovecounter_port_next.Goals as goal

pub returns-clause-asked : goal.returns-clause-asked
returns-clause-asked c held kept =
    let old = c.args.port.now in
    let count = old.numbers.half_count in
    let now = c.args.now in
    let there : c.restore.result ≡ true = search rules in
    let same = found_kept old c.restore.new.port held (c.restore.ensures.found there) kept.is in
    let fits = fits_kept old c.restore.new.port held (c.restore.ensures.fits there) same kept in
    let found = c.restore.new.port in
    let later = rechecked now held in
    let is : c.next-wants.new.self ≡ asking later (next_at later now) =
    c.next-wants.ensures.after ∙ ap (λ (n : Next Rest). asking (rechecked now found) n) c.next-wants.ensures.value
    ∙ ap (λ (p : Port). asking (rechecked now p) (next_at (rechecked now p) now)) same in
    put_kept old c.put.new.kept c.next-wants.new.self (asking later (next_at later now)) is c.put.ensures.same c.put.ensures.shown c.put.ensures.count
    (asking_fits now held (next_at later now) count old.halves fits) (asking_known later (next_at later now) (rechecked_known now held kept.known))

pub returns-clause-told : goal.returns-clause-told
returns-clause-told c held is =
    let now = c.args.now in
    let found = c.restore.new.port in
    let later = rechecked now found in
    let wants = c.next-wants.result in
    let there : c.restore.result ≡ true = search rules in
    let same = found_kept c.args.port.now found held (c.restore.ensures.found there) is in
    c.fill.ensures ∙ ap (λ (p : Port). next_told p wants) c.next-wants.ensures.after ∙ told_asking later wants ∙ ap (λ (n : Next Rest). next_told later n) c.next-wants.ensures.value
    ∙ ap (λ (p : Port). next_told (rechecked now p) (next_at (rechecked now p) now)) same
