use Rattle.std.proofs.Common.{◌≡◌, ◌∙◌, ℕ, Err, refl, ap, inr, subst, rules, arith}
use Rattle.observables.specs.Banks.{statistics_banks}
use Rattle.observable_reports.specs.FetchedObservables.{AreFirstRead}
use Rattle.observable_reports.proofs.ObservingRuns.{cut_short, one_more}
use Rattle.observable_reports.proofs.fetching.fetch_observables.Goals as goal

pub read_bank-requires : goal.read_bank-requires
read_bank-requires g c = omega (arith, c.loop-bank.invariant.few, c.loop-bank-test.true, c.statistics_banks-bank-end.ensures.few)

pub loop-bank-init : goal.loop-bank-init
loop-bank-init g c = record { read = (refl, refl); few = c.in_ok-image.ensures.few }

pub loop-bank-preserved : goal.loop-bank-preserved
loop-bank-preserved g c =
    let mid = g.B.Bus.seen c.fetch_image.new.bus in
    let last = g.B.Bus.seen c.loop-bank.bus in
    let new = g.B.Bus.seen c.read_bank.new.bus in
    record {
      read = one_more g.B.Bus.rules mid c.in_ok-image.image c.loop-bank.bank last c.loop-bank.image c.loop-bank.invariant.read new c.read_bank.new.image c.in_ok-read_bank.ensures.read;
      few = omega (arith, c.loop-bank.invariant.few, c.in_ok-read_bank.ensures.few);
    }

pub returns-in_err-read_bank : goal.returns-in_err-read_bank
returns-in_err-read_bank g c =
    let memory = c.in_ok-image.image in
    let mid = g.B.Bus.seen c.fetch_image.new.bus in
    let last = g.B.Bus.seen c.loop-bank.bus in
    let new = g.B.Bus.seen c.read_bank.new.bus in
    let fault = c.in_err-read_bank.field-0.0 in
    let answer : c.from_residual-in_err-read_bank.result ≡ Err fault = search rules in
    let count : c.statistics_banks-bank-end.result ≡ statistics_banks memory = c.statistics_banks-bank-end.ensures.value ∙ ap statistics_banks c.view.ensures.same in
    inr (
      mid,
      memory,
      c.in_ok-image.ensures.fetched,
      cut_short g.B.Bus.rules mid memory c.loop-bank.bank last c.loop-bank.image c.loop-bank.invariant.read new c.read_bank.new.image (statistics_banks memory) fault
          c.from_residual-in_err-read_bank.result answer (omega (arith, count, c.loop-bank-test.true)) c.in_err-read_bank.ensures.read,
    )

pub returns : goal.returns
returns g c =
    let memory = c.in_ok-image.image in
    let mid = g.B.Bus.seen c.fetch_image.new.bus in
    let new = g.B.Bus.seen c.loop-bank.bus in
    let count : c.statistics_banks-bank-end.result ≡ statistics_banks memory = c.statistics_banks-bank-end.ensures.value ∙ ap statistics_banks c.view.ensures.same in
    let all : c.loop-bank.bank ≡ statistics_banks memory = omega (arith, count, c.loop-bank.auto.bank-end, c.loop-bank-test.false) in
    inr (mid, memory, c.in_ok-image.ensures.fetched, subst (λ (n : ℕ). AreFirstRead g.B.Bus.rules mid memory n new c.loop-bank.image) all c.loop-bank.invariant.read)
