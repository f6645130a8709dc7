use Rattle.std.proofs.Common.{rules}
use Rattle.sim_module.specs.Ticks.{ticked}
use Rattle.sim_module.proofs.StillModule.{rests_if}
use Rattle.sim_module.proofs.moving.Moving.pass_tick.Goals as goal

pub returns-clause-rests : goal.returns-clause-rests
unfolding ticked
returns-clause-rests c = rests_if c.is_still-rests.result c.args.self.now _ c.is_still-rests.ensures (search rules)
