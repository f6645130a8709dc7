use Rattle.firmware_update.proofs.Turns.{bus_short}
use Rattle.firmware_laws.proofs.bus_laws.transactions_are_few.Goals as goal

pub returns : goal.returns
returns c file events session at = bus_short file events session at
