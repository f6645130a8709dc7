use Rattle.port_manager.proofs.Asking.{never_stops}
use Rattle.port_manager.proofs.laws.a_port_never_stops.Goals as goal

pub returns : goal.returns
returns c = never_stops
