-- Within how many milliseconds a port brings up a simulated module that suits what is wanted. (docs/module.md; this project's own)
use Rattle.std.specs.Prelude.{◌≡◌, ◌⊎◌, ℕ, ◌+◌, ◌*◌, ◌<◌, ◌≤◌, max, false, [], ◌∷◌}
use Rattle.bus_model.specs.declared.operation.Op.{Op}
use Rattle.conversations.specs.declared.next.Next.TheVariants.{Do}
use Rattle.control_sets.specs.Durations.{pause_for}
use Rattle.port_manager.specs.declared.port.Outstanding.TheVariants as outstanding
use Rattle.port_manager.specs.declared.port.Port.{Port}
use Rattle.port_manager.specs.Ports.{next_at, plugged}
use Rattle.port_manager.specs.Runs.{Reaches}
use Rattle.port_manager.specs.Stories.{Story, plug, pull, reconsider, acknowledge, ask, make, drop, hold, demand, hear, waits_after}
use Rattle.sim_module.specs.declared.module.SimModule.{SimModule}
use Rattle.managed_module.specs.Bounds.{IsSteady, most_waits}
use Rattle.managed_module.specs.ComingUp.{HasComeUp, IsUndisturbed}
use Rattle.managed_module.specs.Managed.{HasHalves}
use Rattle.managed_module.specs.SuitedModules.{IsProvisionable}
use Rattle.managed_module.specs.Succeeds.{AllSuit, AreWhole, Works}

-- the moment from which the next operation may be asked for: the last of the first one, those at which a reply was taken, and those that
-- are to be waited for
abbrev pub due_in : ℕ → Story → ℕ
due_in first [] = first
due_in first (plug now ∷ before) = due_in first before
due_in first (pull ∷ before) = due_in first before
due_in first (reconsider ∷ before) = due_in first before
due_in first (hold held ∷ before) = due_in first before
due_in first (demand request ∷ before) = due_in first before
due_in first (acknowledge past ∷ before) = due_in first before
due_in first (hear alive began ∷ before) = due_in first before
due_in first (ask op moment ∷ before) = due_in first before
due_in first (make op reply wanted now result ∷ before) = max now (waits_after result (due_in first before))
due_in first (drop ∷ before) = due_in first before

-- no later than so many milliseconds after that, unless the module has come up
abbrev pub IsSoon : ℕ → ℕ → Story → ℕ → Type 0
IsSoon turnaround first before moment = HasComeUp before ⊎ (moment ≤ due_in first before + turnaround)

-- so each reply was taken
abbrev pub IsPrompt : ℕ → ℕ → Story → Type 0
IsPrompt turnaround first [] = Unit {0}
IsPrompt turnaround first (plug now ∷ before) = IsPrompt turnaround first before
IsPrompt turnaround first (pull ∷ before) = IsPrompt turnaround first before
IsPrompt turnaround first (reconsider ∷ before) = IsPrompt turnaround first before
IsPrompt turnaround first (hold held ∷ before) = IsPrompt turnaround first before
IsPrompt turnaround first (demand request ∷ before) = IsPrompt turnaround first before
IsPrompt turnaround first (acknowledge past ∷ before) = IsPrompt turnaround first before
IsPrompt turnaround first (hear alive began ∷ before) = IsPrompt turnaround first before
IsPrompt turnaround first (ask op moment ∷ before) = IsPrompt turnaround first before
IsPrompt turnaround first (make op reply wanted now result ∷ before) = IsSoon turnaround first before now × IsPrompt turnaround first before
IsPrompt turnaround first (drop ∷ before) = IsPrompt turnaround first before

-- the module has come up at each moment at which no reply is late, and by which so many operations might have been made, each with a pause
abbrev pub SuitedHasComeUpInTime : Type 0
SuitedHasComeUpInTime =
    (most turnaround now moment : ℕ) (port later : Port) (sim after : SimModule) (story : Story) → HasHalves sim → IsSteady most sim → AreWhole sim.image → IsProvisionable most sim → Works (plugged now port) sim story later after
    → IsUndisturbed (λ result. Unit {0}) story → AllSuit sim story → IsPrompt turnaround (plugged now port).due story → IsSoon turnaround (plugged now port).due story moment
    → (plugged now port).due + (66 + 3 * most_waits most) * (turnaround + pause_for sim.image) < moment → HasComeUp story

-- until it has, a port that isn't to hold still asks for an operation at each moment from which it may be asked for, while none is
-- outstanding
abbrev pub SuitedIsAskedFor : Type 0
SuitedIsAskedFor =
    (most now moment : ℕ) (past story : Story) (port later : Port) (sim after : SimModule) → Reaches past port → port.held ≡ false → HasHalves sim → IsSteady most sim → AreWhole sim.image → IsProvisionable most sim
    → Works (plugged now port) sim story later after → IsUndisturbed (λ result. Unit {0}) story → AllSuit sim story → later.outstanding ≡ outstanding.Nothing → due_in (plugged now port).due story ≤ moment
    → HasComeUp story ⊎ ((op : Op) × (next_at later moment ≡ Do op))
