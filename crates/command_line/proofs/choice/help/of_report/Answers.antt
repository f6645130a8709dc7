use Rattle.std.proofs.Common.{refl}
use Rattle.command_line.proofs.choice.help.of_report.Goals as goal

pub returns-in-Inventory : goal.returns-in-Inventory
returns-in-Inventory c = rw c.in-Inventory.is refl

pub returns-in-Apps : goal.returns-in-Apps
returns-in-Apps c = rw c.in-Apps.is refl
