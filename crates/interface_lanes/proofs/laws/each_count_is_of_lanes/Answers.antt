use Rattle.interface_lanes.proofs.RisingRows.{each_count_is_of_lanes}
use Rattle.interface_lanes.proofs.laws.each_count_is_of_lanes.Goals as goal

pub returns : goal.returns
returns c = each_count_is_of_lanes
