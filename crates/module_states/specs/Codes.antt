-- The codes of the module states (OIF-CMIS-05.0, Module State in the global status of lower memory).
use Rattle.std.specs.Prelude.{ℕ, ◌==◌, Option, List, [], ◌∷◌, find}
use Rattle.module_states.specs.declared.state.ModuleState.{ModuleState}
use Rattle.module_states.specs.declared.state.ModuleState.TheVariants.{LowPwr, PwrUp, Ready, PwrDn, Fault}

-- the code of each state
abbrev pub code_of : ModuleState → ℕ
code_of LowPwr = 1
code_of PwrUp = 2
code_of Ready = 3
code_of PwrDn = 4
code_of Fault = 5

-- all states
abbrev pub states : List ModuleState
states = LowPwr ∷ PwrUp ∷ Ready ∷ PwrDn ∷ Fault ∷ []

-- the state with this code; a code that no state has is reserved
abbrev pub state_at : ℕ → Option ModuleState
state_at code = find (λ state. code_of state == code) states
