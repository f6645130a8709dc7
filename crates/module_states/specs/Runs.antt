-- Runs of the module state machine, turn after turn (OIF-CMIS-05.0, section 6.3.2 Module State Machine).
use Rattle.std.specs.Prelude.{Bool, true, false, IsTrue}
use Rattle.std.specs.Bool.{IsFalse}
use Rattle.module_states.specs.Machines.{Machine}
use Rattle.module_states.specs.declared.machine.ModuleInputs.{ModuleInputs}
use Rattle.module_states.specs.declared.state.ModuleState.{ModuleState}
use Rattle.module_states.specs.declared.state.ModuleState.TheVariants.{PwrUp, PwrDn}
use Rattle.module_states.specs.Transitions.{next_of}

-- the states that last until their step is done
abbrev pub is_transient : ModuleState → Bool
is_transient PwrUp = true
is_transient PwrDn = true
is_transient _ = false

abbrev pub machine : Machine ModuleState ModuleInputs
machine = record { next = next_of; is_transient = is_transient; is_done = λ inputs. inputs.done }

-- inputs that ask for low power and let the module go there
abbrev pub PowersDown : ModuleInputs → Type 0
PowersDown inputs = IsTrue inputs.low_power × IsTrue inputs.deactivated

-- inputs that don't ask for it
abbrev pub PowersUp : ModuleInputs → Type 0
PowersUp inputs = IsFalse inputs.low_power
