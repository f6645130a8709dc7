use Rattle.std.proofs.Common.{◌≡◌, ◌∙◌, refl, ap, rules, arith}
use Rattle.bus_model.specs.declared.bus.BusFault.{BusFault}
use Rattle.conversations.proofs.BusRuns.{ran_to_end, ran_to_full}
use Rattle.reports.specs.declared.fault.ReportFault.TheVariants.{Bus}
use Rattle.vdm_reading.specs.declared.reading.VdmReading.{VdmReading}
use Rattle.observable_reports.specs.FetchedObservables.{request_of, with_statistics}
use Rattle.observable_reports.proofs.StatisticsRead.{are_wanted, at_start, few_listed, is_after, is_over, is_unfinished}
use Rattle.observable_reports.proofs.fetching.read_bank.Goals as goal

pub put_statistics-requires : goal.put_statistics-requires
put_statistics-requires g c =
    let (last, events, happens, (told, left, carried)) = c.in-Ok.ensures.made in
    let began : c.new-reading.result ≡ at_start (request_of c.args.bank) = c.new-reading.ensures ∙ search rules in
    let few = few_listed (request_of c.args.bank) c.new-reading.result c.run.new.within events began c.in-Ok.ensures.topic told.0 c.in-Ok._spent carried.1 in
    omega (arith, few, c.requires)

pub returns-in-Ok-clause-read : goal.returns-in-Ok-clause-read
returns-in-Ok-clause-read g c =
    let (last, events, happens, (told, left, carried)) = c.in-Ok.ensures.made in
    let request = request_of c.args.bank in
    let old = c.new-reading.result in
    let new = c.run.new.within in
    let began : old ≡ at_start request = c.new-reading.ensures ∙ search rules in
    let ran = ran_to_end g.B.Bus.rules (λ bus. g.B.Bus.seen bus) c.args.bus.now last c.run.new.bus events happens carried.0 in
    let wanted = are_wanted request old new events began c.in-Ok.ensures.topic told.0 in
    let over = is_over request old new events began c.in-Ok.ensures.topic told.0 c.in-Ok._spent carried.1 in
    let is = is_after request old new events began c.in-Ok.ensures.topic told.0 in
    (events, record { ran = ran; each = wanted }, (over, c.put_statistics.ensures.put ∙ ap (λ (reading : VdmReading). with_statistics c.args.image.now reading) is))

pub returns-in-Ok-clause-few : goal.returns-in-Ok-clause-few
returns-in-Ok-clause-few g c =
    let (last, events, happens, (told, left, carried)) = c.in-Ok.ensures.made in
    let began : c.new-reading.result ≡ at_start (request_of c.args.bank) = c.new-reading.ensures ∙ search rules in
    let few = few_listed (request_of c.args.bank) c.new-reading.result c.run.new.within events began c.in-Ok.ensures.topic told.0 c.in-Ok._spent carried.1 in
    let put = c.put_statistics.ensures.few in
    omega (arith, few, put)

pub returns-in-Err-clause-read : goal.returns-in-Err-clause-read
returns-in-Err-clause-read g c =
    let (last, events, happens, (told, left, out)) = c.in-Err.ensures.made in
    let request = request_of c.args.bank in
    let old = c.new-reading.result in
    let new = c.run.new.within in
    let began : old ≡ at_start request = c.new-reading.ensures ∙ search rules in
    let ran = ran_to_full g.B.Bus.rules (λ bus. g.B.Bus.seen bus) c.args.bus.now last c.run.new.bus events c.in-Err.fault happens out.failed in
    let wanted = are_wanted request old new events began c.in-Err.ensures.topic told.0 in
    let more = is_unfinished request old new events began c.in-Err.ensures.topic told.0 left.0 left.1 in
    (events, record { ran = ran; each = wanted }, ((ap (λ (fault : BusFault). Bus fault) out.failed.0, out.failed.1, more), refl))
