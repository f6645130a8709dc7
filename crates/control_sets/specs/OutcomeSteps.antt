-- Words for the steps that a call makes on a module's bus: what one step did, and what stands before it. (docs/bus.md,
-- "Outcomes"; this project's own)
use Rattle.std.specs.Prelude.{◌≡◌, ◌⊎◌, ℕ, List, [], ◌∷◌}
use Rattle.bus_model.specs.declared.operation.Op.{Op}
use Rattle.bus_model.specs.declared.operation.Reply.TheVariants.{Bytes, Done, Refused}
use Rattle.bus_model.specs.declared.operation.Step.{Step}
use Rattle.control_sets.specs.Pages.{EachStep, History}

-- among the steps is one of which P holds
abbrev pub Stands : (Step → Type 0) → History → Type 0
Stands P [] = ⊥
Stands P (step ∷ before) = P step ⊎ Stands P before

-- P holds of the newest step
abbrev pub Newest : (Step → Type 0) → History → Type 0
Newest P [] = ⊥
Newest P (step ∷ before) = P step

-- the operation is one of these
abbrev pub IsAmong : List Op → Op → Type 0
IsAmong [] op = ⊥
IsAmong (other ∷ others) op = (op ≡ other) ⊎ IsAmong others op

-- the fetch read these bytes
abbrev pub Gives : Op → List ℕ → Step → Type 0
Gives op bytes step = (step.op ≡ op) × (step.reply ≡ Bytes (record { items = bytes }))

-- the fetch read bytes of which P holds
abbrev pub Reads : Op → (List ℕ → Type 0) → Step → Type 0
Reads op P step = (bytes : List ℕ) × Gives op bytes step × P bytes

-- the fetch was answered with bytes
abbrev pub IsAnswered : Op → Step → Type 0
IsAnswered op step = Reads op (λ bytes. Unit {0}) step

-- the store was taken
abbrev pub IsAccepted : Op → Step → Type 0
IsAccepted op step = (step.op ≡ op) × (step.reply ≡ Done)

abbrev pub IsRefused : Op → Step → Type 0
IsRefused op step = (step.op ≡ op) × (step.reply ≡ Refused)

-- each step that makes the operation stands after one of which P holds
abbrev pub StandsAfter : Op → (Step → Type 0) → History → Type 0
StandsAfter op P history = EachStep (λ step before. step.op ≡ op → Stands P before) history

-- no step that makes the operation stands after one of which P holds
abbrev pub StandsAfterNo : Op → (Step → Type 0) → History → Type 0
StandsAfterNo op P history = EachStep (λ step before. step.op ≡ op → ¬ (Stands P before)) history

-- it is answered with bytes once at most
abbrev pub ReadsOnce : Op → History → Type 0
ReadsOnce op history = EachStep (λ step before. IsAnswered op step → ¬ (Stands (IsAnswered op) before)) history
