-- The answer of a call by its steps: the first in which a step ends it. If none does: that all steps that may be made were
-- made, or with fewer steps, that the bus's list is full. (docs/bus.md, "Outcomes"; this project's own)
use Rattle.std.specs.Prelude.{◌≡◌, ◌⊎◌, ◌<◌, ◌≤◌, ℕ, ◌∷◌, length, Result, Err, IfOk}
use Rattle.std.specs.List.{AllByRecursion}
use Rattle.bus_model.specs.declared.bus.BusFault.TheVariants.{TraceFull}
use Rattle.bus_model.specs.declared.operation.Step.{Step}
use Rattle.control_sets.specs.declared.fault.ProvisionFault.{ProvisionFault}
use Rattle.control_sets.specs.declared.fault.ProvisionFault.TheVariants.{GaveUp, Bus}
use Rattle.control_sets.specs.Pages.{History}

-- how many steps a call makes at most
abbrev pub most_steps : ℕ
most_steps = 4096

-- the number of steps made, or the fault
abbrev pub Answer : Type 0
Answer = Result ℕ ProvisionFault

-- none of the steps ends in any answer
abbrev pub NoneEnds : (Answer → Step → Type 0) → History → Type 0
NoneEnds Ends history = AllByRecursion (λ step. (answer : Answer) → ¬ (Ends answer step)) history

-- the last step ends in the answer, and no step before it in any
pub record EndsIn (Ends : Answer → Step → Type 0) (history : History) (answer : Answer) : Type 0 where
  pub last : Step
  pub before : History
  pub split : history ≡ last ∷ before
  pub ends : Ends answer last
  pub first : NoneEnds Ends before

-- all steps that a call may make were made, and none ends in an answer
pub record GivesUp (Ends : Answer → Step → Type 0) (history : History) (answer : Answer) : Type 0 where
  pub fault : answer ≡ Err GaveUp
  pub all : length history ≡ most_steps
  pub none : NoneEnds Ends history

-- the bus's list is full before that, and no step ends in an answer
pub record FillsList (Ends : Answer → Step → Type 0) (full : Type 0) (history : History) (answer : Answer) : Type 0 where
  pub fault : answer ≡ Err (Bus TraceFull)
  pub is_full : full
  pub fewer : length history < most_steps
  pub none : NoneEnds Ends history

pub record IsAnswer (Ends : Answer → Step → Type 0) (full : Type 0) (history : History) (answer : Answer) : Type 0 where
  pub at_most : length history ≤ most_steps
  pub counted : IfOk answer (λ steps. steps ≡ length history)
  pub answered : EndsIn Ends history answer ⊎ (GivesUp Ends history answer ⊎ FillsList Ends full history answer)
