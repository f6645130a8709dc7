use Rattle.std.proofs.Common.{ap, ◌∙◌, arith}
use Rattle.std.specs.FinSet as set
use Rattle.field_tables.proofs.LaneLaws.{contains-lane, contains-none}
use Rattle.field_tables.specs.LaneSets.{Lanes}
use Rattle.field_tables.proofs.lane_set.LaneSet.contains.Goals as goal

pub returns-in-1-to-8 : goal.returns-in-1-to-8
returns-in-1-to-8 c = contains-lane c.byte-byte.result c.args.lane (omega arith) (omega arith) ∙ ap (λ (s : Lanes). set.contains s c.args.lane) c.byte-byte.ensures.lanes

pub returns-in_default : goal.returns-in_default
returns-in_default c = contains-none c.byte-byte.result c.args.lane (λ from to. omega arith) ∙ ap (λ (s : Lanes). set.contains s c.args.lane) c.byte-byte.ensures.lanes

pub returns-in_default-2 : goal.returns-in_default-2
returns-in_default-2 c = contains-none c.byte-byte.result c.args.lane (λ from to. omega arith) ∙ ap (λ (s : Lanes). set.contains s c.args.lane) c.byte-byte.ensures.lanes
