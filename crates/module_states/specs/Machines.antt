-- Machines that move in turns, whatever their states and inputs are. (docs/states.md; this project's own)
use Rattle.std.specs.Prelude.{◌≡◌, ℕ, ◌≤◌, Bool, IsTrue, List, [], ◌∷◌, length, fold, All}

-- the state after a turn, the states that last until their step is done, and the inputs that say that it is done
pub record Machine (S I : Type 0) : Type 0 where
  pub next : S → I → S
  pub is_transient : S → Bool
  pub is_done : I → Bool

-- the state after turns with these inputs
abbrev pub state_after : {S I : Type 0} → Machine S I → S → List I → S
state_after machine state turns = fold machine.next state turns

-- in each turn of a transient state its step is done
abbrev pub Completes : {S I : Type 0} → Machine S I → S → List I → Type 0
Completes machine state [] = Unit {0}
Completes machine state (inputs ∷ later) =
    (IsTrue (machine.is_transient state) → IsTrue (machine.is_done inputs)) × Completes machine (machine.next state inputs) later

-- n turns with such inputs, or more, lead from one state to the other if each step is done in its turn
abbrev pub ArrivesIn : {S I : Type 0} → Machine S I → ℕ → (I → Type 0) → S → S → Type 0
ArrivesIn {S} {I} machine n Such from to = (turns : List I) →
    All Such turns → Completes machine from turns → n ≤ length turns → state_after machine from turns ≡ to
