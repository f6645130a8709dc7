use Rattle.std.proofs.Common.{◌≡◌, ◌∙◌, ◌≤◌, ◌<◌, nat_lt, Ok, Err, ap, inl, inr, rules, arith}
use Rattle.std.proofs.lemmas.Bool.{le-ltb, lt-ltb}
use Rattle.module_reading.specs.Regions.{everything, of_banks}
use Rattle.observables.specs.Banks.{bank_count}
use Rattle.paged_memory.specs.Images.{Memory}
use Rattle.reports.specs.FetchedImages.{with_banks}
use Rattle.reports.proofs.BanksRead.{alone, joined, requested}
use Rattle.reports.proofs.fetching.fetch_image.Goals as goal

pub returns-in_err-read-clause-fetched : goal.returns-in_err-read-clause-fetched
returns-in_err-read-clause-fetched g c =
    let new = g.B.Bus.seen c.fetch_halves.new.bus in
    let fault = c.in_err-read.field-0.0 in
    let answer : c.from_residual.result ≡ Err fault = search rules in
    inl (fault, answer, requested g.B.Bus.rules (g.B.Bus.seen c.args.bus.now) new c.everything.result everything (Err fault) c.everything.ensures c.in_err-read.ensures.read)

pub returns-then-banks-lt2-clause-fetched : goal.returns-then-banks-lt2-clause-fetched
returns-then-banks-lt2-clause-fetched g c =
    let memory = c.in_ok-read.read in
    let mid = g.B.Bus.seen c.fetch_halves.new.bus in
    let read = requested g.B.Bus.rules (g.B.Bus.seen c.args.bus.now) mid c.everything.result everything (Ok memory) c.everything.ensures c.in_ok-read.ensures.read in
    let count : c.bank_count-banks.result ≡ bank_count memory = c.bank_count-banks.ensures ∙ ap bank_count c.view-2.ensures.same in
    let few : bank_count memory ≤ 1 = omega (arith, count) in
    let copied : c.unwrap-image.result ≡ memory = search rules in
    rw copied (inr (mid, memory, read, alone g.B.Bus.rules mid memory (nat_lt 1 (bank_count memory)) (le-ltb 1 (bank_count memory) few)))

pub returns-in_err-lanes-clause-fetched : goal.returns-in_err-lanes-clause-fetched
returns-in_err-lanes-clause-fetched g c =
    let memory = c.in_ok-read.read in
    let mid = g.B.Bus.seen c.fetch_halves.new.bus in
    let new = g.B.Bus.seen c.fetch_halves-2.new.bus in
    let read = requested g.B.Bus.rules (g.B.Bus.seen c.args.bus.now) mid c.everything.result everything (Ok memory) c.everything.ensures c.in_ok-read.ensures.read in
    let count : c.bank_count-banks.result ≡ bank_count memory = c.bank_count-banks.ensures ∙ ap bank_count c.view-2.ensures.same in
    let more : 1 < bank_count memory = omega (arith, count) in
    let answer : c.from_residual-in_err-lanes.result ≡ Err c.in_err-lanes.field-0.0 = search rules in
    inr (mid, memory, read, joined g.B.Bus.rules mid memory new c.of_banks.result (Err c.in_err-lanes.field-0.0) c.from_residual-in_err-lanes.result (nat_lt 1 (bank_count memory)) (lt-ltb 1 (bank_count memory) more) (c.of_banks.ensures ∙ ap of_banks count) c.in_err-lanes.ensures.read answer)

pub returns-clause-fetched : goal.returns-clause-fetched
returns-clause-fetched g c =
    let memory = c.in_ok-read.read in
    let lanes = c.in_ok-lanes.lanes in
    let mid = g.B.Bus.seen c.fetch_halves.new.bus in
    let new = g.B.Bus.seen c.fetch_halves-2.new.bus in
    let read = requested g.B.Bus.rules (g.B.Bus.seen c.args.bus.now) mid c.everything.result everything (Ok memory) c.everything.ensures c.in_ok-read.ensures.read in
    let count : c.bank_count-banks.result ≡ bank_count memory = c.bank_count-banks.ensures ∙ ap bank_count c.view-2.ensures.same in
    let more : 1 < bank_count memory = omega (arith, count) in
    let copied : c.unwrap-image.result ≡ memory = search rules in
    let put : c.with_banks.result ≡ with_banks lanes memory =
    c.with_banks.ensures.put ∙ ap (λ (from : Memory). with_banks from c.unwrap-image.result) c.view-3.ensures.same ∙ ap (λ (image : Memory). with_banks lanes image) copied in
    inr (mid, memory, read, joined g.B.Bus.rules mid memory new c.of_banks.result (Ok lanes) (Ok c.with_banks.result) (nat_lt 1 (bank_count memory)) (lt-ltb 1 (bank_count memory) more) (c.of_banks.ensures ∙ ap of_banks count) c.in_ok-lanes.ensures.read (ap (λ (image : Memory). Ok image) put))
