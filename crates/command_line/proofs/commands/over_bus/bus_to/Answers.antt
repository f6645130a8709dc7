use Rattle.std.proofs.Common.{◌≡◌, rules}
use Rattle.paged_memory.specs.Windows.{started}
use Rattle.command_line.proofs.BusReadings.{begins}
use Rattle.command_line.proofs.commands.over_bus.bus_to.Goals as goal

pub returns : goal.returns
returns c =
    let shows : c.unwrap-module.result ≡ started c.args.image.now = search rules in
    begins c.args.image.now c.unwrap-module.result c.new.result c.new-2.result shows c.new.ensures c.new-2.ensures
