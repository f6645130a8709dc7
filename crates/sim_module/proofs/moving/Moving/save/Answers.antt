use Rattle.std.proofs.Common.{◌≡◌, ℕ, rules, subst}
use Rattle.field_tables.specs.LaneSets.{lanes_in}
use Rattle.sim_module.proofs.SavedBack.{moving_back}
use Rattle.sim_module.proofs.moving.Moving.save.Goals as goal

pub returns-clause-back : goal.returns-clause-back
returns-clause-back c =
    let moving = c.args.self.now in
    moving_back moving _ (search rules) (subst (λ (byte : ℕ). lanes_in byte ≡ moving.deinit) c.byte.ensures.byte c.byte.ensures.lanes)
