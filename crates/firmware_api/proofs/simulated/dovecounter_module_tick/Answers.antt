use Rattle.std.proofs.Common.{sym, ◌∙◌}
use Rattle.sim_module.specs.Ticks.{ticked}
use Rattle.firmware_api.proofs.HeldModules.{made_by, none_by}
use Rattle.firmware_api.proofs.simulated.dovecounter_module_tick.Goals as goal

pub returns-in-Some-clause-done : goal.returns-in-Some-clause-done
returns-in-Some-clause-done c =
    made_by ticked c.args.simulated.now c.save.result c.in-Some.moving c.tick.new.self (sym c.restore.ensures ∙ c.in-Some.is) c.save.ensures.back c.tick.ensures.new

pub returns-in-None-clause-done : goal.returns-in-None-clause-done
returns-in-None-clause-done c = none_by ticked c.args.simulated.now (sym c.restore.ensures ∙ c.in-None.is)

pub returns-in-Some-clause-numbers : goal.returns-in-Some-clause-numbers
returns-in-Some-clause-numbers c = λ done. (c.tick.new.self, c.save.ensures.numbers)
