-- That a port brings up a simulated module that suits what is wanted, whether or not provisioning or activation could fail. (docs/module.md;
-- this project's own)
use Rattle.std.specs.Prelude.{◌≡◌, ℕ, ◌+◌, ◌*◌, ◌<◌, List, [], ◌∷◌}
use Rattle.paged_memory.specs.Images.{Memory}
use Rattle.control_sets.specs.Durations.{patience_for}
use Rattle.port_manager.specs.declared.deciding.Wanted.{Wanted}
use Rattle.port_manager.specs.declared.port.Port.{Port}
use Rattle.port_manager.specs.Goals.{conventions_of}
use Rattle.port_manager.specs.Ports.{plugged}
use Rattle.port_manager.specs.Progress.{made_in}
use Rattle.port_manager.specs.Stories.{Story}
use Rattle.sim_module.specs.declared.delays.Delays.{Delays}
use Rattle.sim_module.specs.declared.module.SimModule.{SimModule}
use Rattle.sim_module.specs.OwnAdverts.{own_advert}
use Rattle.sim_module.specs.Starts.{active_at_start, start}
use Rattle.managed_module.specs.Bounds.{IsSteady, most_waits}
use Rattle.managed_module.specs.ComingUp.{HasComeUp, IsUndisturbed}
use Rattle.managed_module.specs.Managed.{HasHalves}
use Rattle.managed_module.specs.ManagedPlans.{LastsFor, most_made}
use Rattle.managed_module.specs.ModuleGoals.{IsPlanned}
use Rattle.managed_module.specs.Succeeds.{AllSuit, AreWhole, Suits, Works}

-- the module goes by what it advertises, the port waits for as many pauses in a row as there may be operations, and the control bytes that
-- are active are those of a plan
pub record IsProvisionable (most : ℕ) (sim : SimModule) : Type 0 where
  pub own : sim.advert ≡ own_advert sim.image
  pub lasts : LastsFor (most_made most) (patience_for sim.image)
  pub planned : (wanted : Wanted) → Suits sim wanted → IsPlanned (conventions_of wanted) sim

-- eight control bytes of lanes in no path
abbrev pub none_active : List ℕ
none_active = 0 ∷ 0 ∷ 0 ∷ 0 ∷ 0 ∷ 0 ∷ 0 ∷ 0 ∷ []

-- so is a new module in which no path is active, if the port waits for long enough
abbrev pub NewIsProvisionable : Type 0
NewIsProvisionable = (most : ℕ) (memory : Memory) (delays : Delays) → LastsFor (most_made most) (patience_for memory) → active_at_start memory ≡ none_active → IsProvisionable most (start memory delays)

-- the module has come up once so many operations were made since the plug, if nothing but replies and pauses comes in between
abbrev pub SuitedHasComeUp : Type 0
SuitedHasComeUp =
    (most : ℕ) (port later : Port) (sim after : SimModule) (now : ℕ) (story : Story) → HasHalves sim → IsSteady most sim → AreWhole sim.image → IsProvisionable most sim → Works (plugged now port) sim story later after
    → IsUndisturbed (λ result. Unit {0}) story → AllSuit sim story → 65 + 3 * most_waits most < made_in story → HasComeUp story
