use Rattle.std.proofs.Common.{◌≡◌, ◌≤◌, length, rules}
use Rattle.saved_tests.proofs.TestsBack.{first_changes_back, first_changes_known}
use Rattle.saved_tests.proofs.lists.numbers_of_changes.Goals as goal

pub returns-clause-same : goal.returns-clause-same
returns-clause-same c =
    let many : c.len-count.result ≡ length c.args.changes.now.items = search rules in
    first_changes_back c.len-count.result c.first_changes-all.result c.args.changes.now.items many c.first_changes-all.ensures

pub returns-clause-known : goal.returns-clause-known
returns-clause-known c =
    let many : c.len-count.result ≡ length c.args.changes.now.items = search rules in
    let few : c.len-count.result ≤ 16 = search rules in
    first_changes_known c.len-count.result c.first_changes-all.result c.args.changes.now.items few many c.first_changes-all.ensures
