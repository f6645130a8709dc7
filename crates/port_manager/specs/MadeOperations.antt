-- What holds of each operation that was made for a port. (this project's own)
use Rattle.std.specs.Prelude.{ℕ, [], ◌∷◌}
use Rattle.bus_model.specs.declared.operation.Op.{Op}
use Rattle.bus_model.specs.declared.operation.Reply.{Reply}
use Rattle.port_manager.specs.declared.deciding.Wanted.{Wanted}
use Rattle.port_manager.specs.declared.port.Outcome.{Outcome}
use Rattle.port_manager.specs.Stories.{Story, acknowledge, ask, demand, drop, hear, hold, make, plug, pull, reconsider}

-- of what came before it, the operation, its reply, what was wanted, the moment, and what it led to
abbrev pub EachMade : (Story → Op → Reply → Wanted → ℕ → Outcome → Type 0) → Story → Type 0
EachMade P [] = Unit {0}
EachMade P (plug now ∷ before) = EachMade P before
EachMade P (pull ∷ before) = EachMade P before
EachMade P (reconsider ∷ before) = EachMade P before
EachMade P (hold held ∷ before) = EachMade P before
EachMade P (demand request ∷ before) = EachMade P before
EachMade P (acknowledge past ∷ before) = EachMade P before
EachMade P (hear alive began ∷ before) = EachMade P before
EachMade P (ask op moment ∷ before) = EachMade P before
EachMade P (make op reply wanted now result ∷ before) = P before op reply wanted now result × EachMade P before
EachMade P (drop ∷ before) = EachMade P before
