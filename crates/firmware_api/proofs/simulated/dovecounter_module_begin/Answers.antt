use Rattle.std.proofs.Common.{◌≡◌, Some, ap, sym, ◌∙◌}
use Rattle.sim_module.specs.Record.{moving_of}
use Rattle.sim_module.specs.SavedModules.{restored}
use Rattle.firmware_api.specs.SimulatedModules.{begun}
use Rattle.firmware_api.specs.Statuses.{status_in}
use Rattle.firmware_api.proofs.HeldModules.{begun_is, passed, when_ok}
use Rattle.firmware_api.proofs.simulated.dovecounter_module_begin.Goals as goal

pub returns-in-Ok-clause-done : goal.returns-in-Ok-clause-done
returns-in-Ok-clause-done c =
    let is = begun_is c.args.halves.now c.args.delays.now c.large_image_of.result c.new.result (c.simulated_status-status.ensures.sound c.if-status-ne-DONE.false) c.large_image_of.ensures c.new.ensures in
    when_ok (begun c.args.halves.now c.args.delays.now) c.in-Ok.begun (λ sim. restored c.save.result ≡ Some (moving_of sim)) (is ∙ ap passed c.in-Ok.is) c.save.ensures.back

pub returns-in-Ok-clause-numbers : goal.returns-in-Ok-clause-numbers
returns-in-Ok-clause-numbers c = λ done. (moving_of c.in-Ok.begun, c.save.ensures.numbers)

pub returns-in-Err-clause-status : goal.returns-in-Err-clause-status
returns-in-Err-clause-status c =
    let is = begun_is c.args.halves.now c.args.delays.now c.large_image_of.result c.new.result (c.simulated_status-status.ensures.sound c.if-status-ne-DONE.false) c.large_image_of.ensures c.new.ensures in
    c.start_status.ensures.status ∙ ap status_in (sym (is ∙ ap passed c.in-Err.is))
