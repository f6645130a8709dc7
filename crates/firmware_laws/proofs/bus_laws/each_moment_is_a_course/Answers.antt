use Rattle.firmware_update.proofs.OnBus.{moment}
use Rattle.firmware_laws.proofs.bus_laws.each_moment_is_a_course.Goals as goal

pub returns : goal.returns
returns c file events session at = moment file events session at
