use Rattle.std.proofs.Common.{refl}
use Rattle.code_names.specs.HostInterfaces.{host_interface_names}
use Rattle.code_names.proofs.tables.host_interfaces.host_interface_names.Goals as goal

pub returns : goal.returns
unfolding host_interface_names
returns c = refl
