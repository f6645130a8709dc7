use Rattle.interface_lanes.proofs.RisingRows.{each_id_has_one_count}
use Rattle.interface_lanes.proofs.laws.each_id_has_one_count.Goals as goal

pub returns : goal.returns
returns c = each_id_has_one_count
