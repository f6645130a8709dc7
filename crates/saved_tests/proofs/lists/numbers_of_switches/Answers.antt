use Rattle.std.proofs.Common.{◌≡◌, ◌≤◌, length, rules}
use Rattle.saved_tests.proofs.TestsBack.{first_switches_back, first_switches_known}
use Rattle.saved_tests.proofs.lists.numbers_of_switches.Goals as goal

pub returns-clause-same : goal.returns-clause-same
returns-clause-same c =
    let many : c.len-count.result ≡ length c.args.switches.now.items = search rules in
    first_switches_back c.len-count.result c.first_switches-all.result c.args.switches.now.items many c.first_switches-all.ensures

pub returns-clause-known : goal.returns-clause-known
returns-clause-known c =
    let many : c.len-count.result ≡ length c.args.switches.now.items = search rules in
    let few : c.len-count.result ≤ 16 = search rules in
    first_switches_known c.len-count.result c.first_switches-all.result c.args.switches.now.items few many c.first_switches-all.ensures
