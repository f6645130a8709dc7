use Rattle.std.proofs.Common.{◌≡◌, rules}
use Rattle.std.specs.FinMap as map
use Rattle.observables.proofs.BankLanes.{insert_few}
use Rattle.observable_reports.proofs.own_halves.take.Goals as goal

pub returns-in-Some-clause-few : goal.returns-in-Some-clause-few
returns-in-Some-clause-few c =
    let put : c.put.new.self ≡ map.insert c.args.halves.now c.args.key c.from.result = search rules in
    rw put (insert_few c.args.halves.now c.args.key c.from.result)
