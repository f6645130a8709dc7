-- The codes of the data path states (OIF-CMIS-05.0, Data Path States among the lane statuses of page 11h).
use Rattle.std.specs.Prelude.{ℕ, ◌==◌, Option, List, [], ◌∷◌, find}
use Rattle.datapath_states.specs.declared.state.PathState.{PathState}
use Rattle.datapath_states.specs.declared.state.PathState.TheVariants.{Deactivated, Init, Deinit, Activated, TxTurnOn, TxTurnOff, Initialized}

-- the code of each state
abbrev pub code_of : PathState → ℕ
code_of Deactivated = 1
code_of Init = 2
code_of Deinit = 3
code_of Activated = 4
code_of TxTurnOn = 5
code_of TxTurnOff = 6
code_of Initialized = 7

-- all states
abbrev pub states : List PathState
states = Deactivated ∷ Init ∷ Deinit ∷ Activated ∷ TxTurnOn ∷ TxTurnOff ∷ Initialized ∷ []

-- the state with this code; a code that no state has is reserved
abbrev pub state_at : ℕ → Option PathState
state_at code = find (λ state. code_of state == code) states
