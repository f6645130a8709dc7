-- An apply that was refused: the module may have taken it all the same, and its lanes may have come up since. (OIF-CMIS-05.0, page 10h:
-- ApplyDPInit; this project's own)
use Rattle.std.specs.Prelude.{◌&&◌, Bool, false, Option, Some, None}
use Rattle.bus_model.specs.declared.operation.Op.{Op}
use Rattle.bus_model.specs.declared.operation.Reply.{Reply}
use Rattle.conversations.specs.Pauses.{is_refused}
use Rattle.control_sets.specs.RegisterOperations.{is_apply}

-- what was asked for is an apply, and the reply refuses it
abbrev pub is_refused_apply : Option Op → Reply → Bool
is_refused_apply None reply = false
is_refused_apply (Some op) reply = is_refused reply && is_apply op
