-- The simulated module over the events on a bus. (this project's own)
use Rattle.std.specs.Prelude.{◌≡◌, ℕ}
use Rattle.bus_model.specs.declared.operation.Step.{Step}
use Rattle.conversations.specs.Carried.{Happens}
use Rattle.conversations.specs.Events.{Events}
use Rattle.simulated_updates.specs.declared.chance.Chance.{Chance}
use Rattle.simulated_updates.specs.Modules.{Module, passed, stepped}

-- one step, whatever chance does
abbrev pub MayStep : Module → Step → Module → Type 0
MayStep old step new = (chance : Chance) × (stepped chance step.op old ≡ (step.reply, new))

abbrev pub HasPassed : Module → ℕ → Module → Type 0
HasPassed old time new = new ≡ passed time old

-- these events, the newest first, make this of it, whatever chance does
abbrev pub Becomes : Module → Events → Module → Type 0
Becomes old events new = Happens MayStep HasPassed old new events
