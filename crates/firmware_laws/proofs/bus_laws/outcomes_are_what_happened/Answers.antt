use Rattle.firmware_laws.proofs.AtTheBus.{happened}
use Rattle.firmware_laws.proofs.bus_laws.outcomes_are_what_happened.Goals as goal

pub returns : goal.returns
returns c conduct sent steps outcome first last shown stands = happened conduct sent first last steps outcome shown stands
