use Rattle.std.proofs.Common.{ap, ◌∙◌, arith}
use Rattle.field_tables.specs.LaneBytes.{byte_of-lanes_in}
use Rattle.field_tables.specs.LaneSets.{byte_of}
use Rattle.field_tables.proofs.lane_set.LaneSetFlags.from_bits_retain.Goals as goal

pub returns : goal.returns
returns c _ = ap byte_of c.from.ensures ∙ byte_of-lanes_in c.args.bits (omega arith)
