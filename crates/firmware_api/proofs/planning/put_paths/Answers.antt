use Rattle.std.proofs.Common.{◌≡◌, length, ap, rules}
use Rattle.firmware_api.proofs.Padding.{is_no_path, no_paths_behind}
use Rattle.firmware_api.proofs.planning.put_paths.Goals as goal

pub returns : goal.returns
returns c =
    let paths : c.as_slice-paths.result.now ≡ c.args.plan.now = search rules in
    let same : c.copy_from_slice.new.self ≡ c.args.plan.now = search (rules, paths) in
    let none = c.default-all in
    no_paths_behind c.args.plan.now c.copy_from_slice.new.self (length c.as_slice-paths.result.now) none.result same (ap length paths)
    (is_no_path none.result none.ensures.0 none.ensures.1.0 none.ensures.1.1)
