use Rattle.std.proofs.Common.{◌≡◌, true, rules, sym, ◌∙◌}
use Rattle.std.specs.Prelude.{nat_le}
use Rattle.std.specs.List.{list_all}
use Rattle.sim_module.specs.SavedModules.{is_lane}
use Rattle.sim_module.proofs.SavedBack.{moving_restored}
use Rattle.sim_module.proofs.moving.Moving.restore.Goals as goal

pub returns : goal.returns
returns c =
    let numbers = c.args.saved.now in
    let pin : nat_le numbers.pin 1 ≡ true = search rules in
    let all : list_all is_lane numbers.lanes ≡ true = search rules in
    rw (c.lanes_numbered.ensures, c.from.ensures)
    (sym (moving_restored numbers c.in_ok-state_numbered.field-0 pin all (sym c.state_numbered.ensures ∙ c.in_ok-state_numbered.was)))
