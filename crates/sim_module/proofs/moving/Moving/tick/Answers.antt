use Rattle.sim_module.proofs.StillModule.{rests_over}
use Rattle.sim_module.proofs.TickedParts.{ticked_of}
use Rattle.sim_module.proofs.moving.Moving.tick.Goals as goal

pub returns-clause-new : goal.returns-clause-new
returns-clause-new c fixed = ticked_of fixed c.args.self.now c.pass_tick.new.self c.pass_tick.ensures.new

pub returns-clause-rests : goal.returns-clause-rests
returns-clause-rests c fixed = rests_over c.pass_tick.result fixed c.pass_tick.new.self c.pass_tick.ensures.rests
