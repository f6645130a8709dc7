-- A bus with the simulated module, as its caller has chance act. (this project's own)
use Rattle.std.specs.Prelude.{◌≡◌, ℕ, List, drop, ⊤}
use Rattle.bus_model.specs.declared.operation.Step.{Step}
use Rattle.conversations.specs.Carried.{MakesEvents}
use Rattle.firmware_update.specs.declared.runner.UpdateRun.{UpdateRun}
use Rattle.firmware_update.specs.Runs.{IsRunOf}
use Rattle.simulated_updates.specs.declared.bus.SimulatedBus.{SimulatedBus}
use Rattle.simulated_updates.specs.Modules.{passed, stepped}
use Rattle.simulated_updates.specs.Seen.{module_of}
use Rattle.simulated_updates.specs.Undisturbed.{first_chance}

-- a transaction is a step of the module with the first chance of the list, and that is gone then
abbrev pub MakesStep : SimulatedBus → Step → SimulatedBus → Type 0
MakesStep old step new =
    (stepped (first_chance old.chances.items) step.op (module_of old.module) ≡ (step.reply, module_of new.module)) × (new.chances.items ≡ drop 1 old.chances.items)

abbrev pub LetsPass : SimulatedBus → ℕ → SimulatedBus → Type 0
LetsPass old time new = (module_of new.module ≡ passed time (module_of old.module)) × (new.chances ≡ old.chances)

abbrev pub NeverFails : SimulatedBus → ⊤ → SimulatedBus → Type 0
NeverFails old fault new = ⊥

-- an update to this file was run on the bus, and came to this
abbrev pub IsUpdated : List ℕ → SimulatedBus → SimulatedBus → UpdateRun ⊤ → Type 0
IsUpdated file old new run = MakesEvents MakesStep LetsPass old (λ last events. IsRunOf file events (last ≡ new) (λ fault. NeverFails last fault new) run)
