-- What chance does with a transaction that isn't disturbed. (this project's own)
use Rattle.std.specs.Prelude.{List, [], ◌∷◌, None, true}
use Rattle.simulated_updates.specs.declared.chance.Before.TheVariants.{Reset}
use Rattle.simulated_updates.specs.declared.chance.Chance.{Chance}
use Rattle.simulated_updates.specs.declared.chance.Fate.TheVariants.{Carried}

-- the reset of a Run comes as soon as it may, and its image boots; the transaction reaches the module, which carries out what it brings
-- at once
abbrev pub undisturbed : Chance
undisturbed = record { before = Reset true; kept = None; fate = Carried; busy = 0 }

-- with the next transaction it does what the list says first
abbrev pub first_chance : List Chance → Chance
first_chance [] = undisturbed
first_chance (chance ∷ more) = chance
