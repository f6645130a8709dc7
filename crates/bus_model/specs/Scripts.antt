-- What a script has next, and what is left of it after a transaction. (docs/bus.md, "Scripted bus"; this project's own)
use Rattle.std.specs.Prelude.{◌-◌, drop, List, [], ◌∷◌, Option, Some, None, nat_lt, if◌then◌else◌}
use Rattle.bus_model.specs.declared.script.Directive.{Directive}
use Rattle.bus_model.specs.declared.script.Directive.TheVariants.{Pass, Nack, Cut, Tick, LowPower}

abbrev pub first : List Directive → Option Directive
first [] = None
first (directive ∷ script) = Some directive

-- what is left without the first
abbrev pub rest : List Directive → List Directive
rest script = drop 1 script

-- what is left when one transaction has been made
abbrev pub spent : List Directive → List Directive
spent [] = []
spent (Pass count ∷ script) = if nat_lt 1 count then Pass (count - 1) ∷ script else script
spent (Nack count ∷ script) = if nat_lt 1 count then Nack (count - 1) ∷ script else script
spent (Cut count ∷ script) = script
spent (Tick count ∷ script) = script
spent (LowPower on ∷ script) = script
