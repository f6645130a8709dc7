-- The transitions of the module state machine (OIF-CMIS-05.0, section 6.3.2 Module State Machine) as a
-- table.
use Rattle.std.specs.Prelude.{Bool, not, ◌&&◌, ◌==◌, List, [], ◌∷◌, find}
use Rattle.std.specs.Option.{option_map_or}
use Rattle.module_states.specs.declared.machine.ModuleInputs.{ModuleInputs}
use Rattle.module_states.specs.declared.state.ModuleState.{ModuleState}
use Rattle.module_states.specs.declared.state.ModuleState.TheVariants.{LowPwr, PwrUp, Ready, PwrDn}
use Rattle.module_states.specs.Codes.{code_of}

-- a row of the table: a state, a condition on the inputs, and the state after
pub record Transition : Type 0 where
  pub state : ModuleState
  pub condition : ModuleInputs → Bool
  pub next : ModuleState

abbrev pub row : ModuleState → (ModuleInputs → Bool) → ModuleState → Transition
row state condition next = record { state = state; condition = condition; next = next }

abbrev pub transitions : List Transition
transitions =
    row Ready (λ i. i.low_power && i.deactivated) PwrDn
    ∷ row PwrDn (λ i. i.done) LowPwr
    ∷ row LowPwr (λ i. not i.low_power) PwrUp
    ∷ row PwrUp (λ i. i.done) Ready
    ∷ []

-- the row is of this state, and its condition holds
abbrev pub fits : ModuleState → ModuleInputs → Transition → Bool
fits state inputs transition = (code_of transition.state == code_of state) && transition.condition inputs

-- the state after a turn is that of the row that fits; if none does, the state stays
unfoldable pub next_of : ModuleState → ModuleInputs → ModuleState
next_of state inputs = option_map_or (λ transition. transition.next) (find (fits state inputs) transitions) state
