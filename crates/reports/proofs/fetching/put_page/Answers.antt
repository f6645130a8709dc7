use Rattle.std.proofs.Common.{◌≡◌, rules}
use Rattle.std.specs.FinMap as map
use Rattle.observables.proofs.BankLanes.{insert_few}
use Rattle.reports.proofs.fetching.put_page.Goals as goal

pub returns-in-Some-clause-few : goal.returns-in-Some-clause-few
returns-in-Some-clause-few c =
    let put : c.put.new.self ≡ map.insert c.args.image.now c.of_page-key.result c.from.result = search rules in
    rw put (insert_few c.args.image.now c.of_page-key.result c.from.result)
