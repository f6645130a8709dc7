use Rattle.std.proofs.Common.{sym, ◌∙◌}
use Rattle.firmware_api.proofs.HeldModules.{active_in, no_active}
use Rattle.firmware_api.proofs.simulated.dovecounter_module_active.Goals as goal

pub returns-in-Some-clause-done : goal.returns-in-Some-clause-done
returns-in-Some-clause-done c fixed sim made =
    c.active.ensures ∙ active_in c.args.simulated.now c.in-Some.moving (sym c.restore.ensures ∙ c.in-Some.is) fixed sim made

pub returns-in-None-clause-done : goal.returns-in-None-clause-done
returns-in-None-clause-done c fixed sim made = absurd (no_active c.args.simulated.now fixed sim (sym c.restore.ensures ∙ c.in-None.is) made)
