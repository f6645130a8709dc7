-- That a port has brought up a module, and that nothing disturbed it. (docs/module.md; this project's own)
use Rattle.std.specs.Prelude.{◌⊎◌, [], ◌∷◌}
use Rattle.port_manager.specs.declared.port.Outcome.{Outcome}
use Rattle.port_manager.specs.declared.port.Outcome.TheVariants as outcome
use Rattle.port_manager.specs.declared.turn.Note.{Note}
use Rattle.port_manager.specs.declared.turn.Note.TheVariants as notes
use Rattle.port_manager.specs.Stories.{Story, plug, pull, reconsider, acknowledge, ask, make, drop, hold, demand, hear}

abbrev pub IsUpNote : Note → Type 0
IsUpNote notes.Quiet = ⊥
IsUpNote notes.Identified = ⊥
IsUpNote notes.Woken = ⊥
IsUpNote notes.Provisioned = ⊥
IsUpNote notes.CameUp = Unit {0}
IsUpNote notes.Held = ⊥

abbrev pub IsUpResult : Outcome → Type 0
IsUpResult outcome.Dropped = ⊥
IsUpResult (outcome.Went note) = IsUpNote note
IsUpResult (outcome.Paused moment) = ⊥
IsUpResult (outcome.Failed fault moment) = ⊥
IsUpResult (outcome.Left reason) = ⊥

-- the module has come up
abbrev pub HasComeUp : Story → Type 0
HasComeUp [] = ⊥
HasComeUp (plug now ∷ before) = HasComeUp before
HasComeUp (pull ∷ before) = HasComeUp before
HasComeUp (reconsider ∷ before) = HasComeUp before
HasComeUp (hold held ∷ before) = HasComeUp before
HasComeUp (demand request ∷ before) = HasComeUp before
HasComeUp (acknowledge past ∷ before) = HasComeUp before
HasComeUp (hear alive began ∷ before) = HasComeUp before
HasComeUp (ask op moment ∷ before) = HasComeUp before
HasComeUp (make op reply wanted now result ∷ before) = IsUpResult result ⊎ HasComeUp before
HasComeUp (drop ∷ before) = HasComeUp before

-- the module stays, nothing else is asked for, and this holds of each result
abbrev pub IsUndisturbed : (Outcome → Type 0) → Story → Type 0
IsUndisturbed P [] = Unit {0}
IsUndisturbed P (plug now ∷ before) = ⊥
IsUndisturbed P (pull ∷ before) = ⊥
IsUndisturbed P (reconsider ∷ before) = ⊥
IsUndisturbed P (hold held ∷ before) = ⊥
IsUndisturbed P (demand request ∷ before) = ⊥
IsUndisturbed P (acknowledge past ∷ before) = IsUndisturbed P before
IsUndisturbed P (hear alive began ∷ before) = IsUndisturbed P before
IsUndisturbed P (ask op moment ∷ before) = IsUndisturbed P before
IsUndisturbed P (make op reply wanted now result ∷ before) = P result × IsUndisturbed P before
IsUndisturbed P (drop ∷ before) = IsUndisturbed P before
