-- The transitions of the data path state machine (OIF-CMIS-05.0, section 6.3.3 Data Path State Machine)
-- as a table.
use Rattle.std.specs.Prelude.{Bool, not, ◌&&◌, ◌==◌, List, [], ◌∷◌, find}
use Rattle.std.specs.Option.{option_map_or}
use Rattle.datapath_states.specs.declared.machine.PathInputs.{PathInputs}
use Rattle.datapath_states.specs.declared.state.PathState.{PathState}
use Rattle.datapath_states.specs.declared.state.PathState.TheVariants.{Deactivated, Init, Deinit, Activated, TxTurnOn, TxTurnOff, Initialized}
use Rattle.datapath_states.specs.StateCodes.{code_of}

-- a row of the table: a state, a condition on the inputs, and the state after
pub record Transition : Type 0 where
  pub state : PathState
  pub condition : PathInputs → Bool
  pub next : PathState

abbrev pub row : PathState → (PathInputs → Bool) → PathState → Transition
row state condition next = record { state = state; condition = condition; next = next }

abbrev pub transitions : List Transition
transitions =
    row Deactivated (λ i. not i.down) Init
    ∷ row Init (λ i. i.done) Initialized
    ∷ row Initialized (λ i. not i.down) TxTurnOn
    ∷ row Initialized (λ i. i.down) Deinit
    ∷ row TxTurnOn (λ i. i.done) Activated
    ∷ row Activated (λ i. i.down) TxTurnOff
    ∷ row TxTurnOff (λ i. i.done) Initialized
    ∷ row Deinit (λ i. i.done) Deactivated
    ∷ []

-- the row is of this state, and its condition holds
abbrev pub fits : PathState → PathInputs → Transition → Bool
fits state inputs transition = (code_of transition.state == code_of state) && transition.condition inputs

-- the state after a turn is that of the row that fits; if none does, the state stays
unfoldable pub next_of : PathState → PathInputs → PathState
next_of state inputs = option_map_or (λ transition. transition.next) (find (fits state inputs) transitions) state
