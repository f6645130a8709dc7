-- The first apply that is refused isn't stored again before the module was read anew. (this project's own)
use Rattle.std.specs.Prelude.{◌≡◌, true, false, [], ◌∷◌, Some}
use Rattle.port_manager.specs.declared.port.Outcome.{Outcome}
use Rattle.port_manager.specs.declared.port.Outcome.TheVariants as outcome
use Rattle.port_manager.specs.declared.turn.PortFault.TheVariants.{ApplyRefused}
use Rattle.port_manager.specs.RefusedApplies.{is_refused_apply}
use Rattle.port_manager.specs.Stories.{Story, acknowledge, apply_refused_in, ask, demand, drop, hear, hold, make, plug, pull, reconsider}

-- what was begun has failed for that, or is dropped since the module was to be read anew in any case
abbrev pub IsBegunAnew : Outcome → Type 0
IsBegunAnew outcome.Dropped = Unit {0}
IsBegunAnew (outcome.Went note) = ⊥
IsBegunAnew (outcome.Paused moment) = ⊥
IsBegunAnew (outcome.Failed fault moment) = fault ≡ ApplyRefused
IsBegunAnew (outcome.Left reason) = ⊥

-- each refused apply of the story led to that, unless one was refused before since the module was last provisioned, as wanted or left alone
abbrev pub ReadsAnew : Story → Type 0
ReadsAnew [] = Unit {0}
ReadsAnew (plug now ∷ before) = ReadsAnew before
ReadsAnew (pull ∷ before) = ReadsAnew before
ReadsAnew (reconsider ∷ before) = ReadsAnew before
ReadsAnew (hold held ∷ before) = ReadsAnew before
ReadsAnew (demand request ∷ before) = ReadsAnew before
ReadsAnew (acknowledge past ∷ before) = ReadsAnew before
ReadsAnew (hear alive began ∷ before) = ReadsAnew before
ReadsAnew (ask op moment ∷ before) = ReadsAnew before
ReadsAnew (make op reply wanted now result ∷ before) = (is_refused_apply (Some op) reply ≡ true → apply_refused_in before ≡ false → IsBegunAnew result) × ReadsAnew before
ReadsAnew (drop ∷ before) = ReadsAnew before
