use Rattle.std.proofs.Common.{sym, ap, ◌∙◌}
use Rattle.field_tables.specs.LaneBytes.{byte_of-lanes_in}
use Rattle.field_tables.specs.LaneSets.{byte_of}
use Rattle.field_tables.proofs.lane_set.LaneSet.byte.Goals as goal

pub returns-clause-byte : goal.returns-clause-byte
returns-clause-byte c = sym (byte_of-lanes_in c.self.inside.bits c.self.invariant) ∙ ap byte_of c.self.view_is
