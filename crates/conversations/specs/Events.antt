-- What happened in a conversation: transactions, pauses, pages that weren't there, and what the caller said, the newest first.
-- (docs/bus.md, "Conversations"; this project's own)
use Rattle.std.specs.Prelude.{List, [], ◌∷◌}
use Rattle.bus_model.specs.declared.operation.Op.{Op}
use Rattle.bus_model.specs.declared.operation.Reply.{Reply}
use Rattle.bus_model.specs.declared.operation.Step.{Step}
use Rattle.conversations.specs.declared.event.Event.{Event}
use Rattle.conversations.specs.declared.event.Event.TheVariants.{Made, Waited, Lacked, Asked}

abbrev pub Events : Type 0
Events = List Event

-- the transaction was made, and this came of it
abbrev pub made : Op → Reply → Event
made op reply = Made (record { op = op; reply = reply })

-- the transactions among them
abbrev pub steps_of : Events → List Step
steps_of [] = []
steps_of (Made step ∷ before) = step ∷ steps_of before
steps_of (Waited time ∷ before) = steps_of before
steps_of (Lacked page ∷ before) = steps_of before
steps_of (Asked number ∷ before) = steps_of before
