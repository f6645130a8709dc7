use Rattle.std.proofs.Common.{refl}
use Rattle.interface_lanes.specs.HostInterfaces.{host_interface_lanes}
use Rattle.interface_lanes.proofs.tables.host_interfaces.host_interface_lanes.Goals as goal

pub returns : goal.returns
unfolding host_interface_lanes
returns c = refl
