-- Marks on states, by their places: those that decisions from the start reach. (docs/planning.md, "The planner"; this project's
-- own)
use Rattle.std.specs.Prelude.{◌≡◌, ◌↔◌, ℕ, ◌/◌, ◌%◌, ◌<◌, ◌≤◌, ◌==◌, ◌||◌, ◌⊎◌, Bool, true, false, List, Contains, slice_index}
use Rattle.std.specs.Int.{bit_at}
use Rattle.applications.specs.Advertised.{Advertised}
use Rattle.applications.specs.AppWeights.{PathWeights}
use Rattle.plan_certificate.specs.declared.path.Path.{Path}
use Rattle.plan_certificate.specs.declared.state.Decision.{Decision}
use Rattle.plan_certificate.specs.States.{state_at, state_place, decisions_from}
use Rattle.plan_certificate.specs.ReachedStates.{IsReached}

-- kept as bits: bit i of byte k is the mark at place 8 * k + i
abbrev pub is_marked : List ℕ → ℕ → Bool
is_marked marks place = bit_at (slice_index marks (place / 8)) (place % 8) == 1

abbrev pub IsMarked : List ℕ → ℕ → Type 0
IsMarked marks place = is_marked marks place ≡ true

abbrev pub NothingMarked : List ℕ → Type 0
NothingMarked marks = (place : ℕ) → is_marked marks place ≡ false

-- a place is marked besides those that were
abbrev pub MarksToo : List ℕ → ℕ → List ℕ → Type 0
MarksToo marks place more = (other : ℕ) → is_marked more other ≡ (other == place || is_marked marks other)

-- none from one place on and before another
abbrev pub NoneMarked : List ℕ → ℕ → ℕ → Type 0
NoneMarked marks from end = (place : ℕ) → from ≤ place → place < end → IsMarked marks place → ⊥

-- the first marked place from one on and before an end
pub record IsFirstMarked (marks : List ℕ) (from end place : ℕ) : Type 0 where
  pub after : from ≤ place
  pub before : place < end
  pub none : NoneMarked marks from place
  pub marked : IsMarked marks place

-- exactly the states that decisions from the start reach are marked
abbrev pub MarksReached : Advertised → PathWeights → List Path → List ℕ → Type 0
MarksReached advert weights kept marks = (place : ℕ) → IsMarked marks place ↔ IsReached advert weights kept (state_at place)

abbrev pub EndsAt : List Decision → ℕ → Type 0
EndsAt decisions place = (decision : Decision) × Contains decisions decision × (state_place decision.end ≡ place)

-- marked are the ends of these decisions, and what was marked before
abbrev pub MarksEnds : List Decision → List ℕ → List ℕ → Type 0
MarksEnds decisions marks more = (place : ℕ) → IsMarked more place ↔ (IsMarked marks place ⊎ EndsAt decisions place)

-- the start is marked, and none that isn't reached; and with each one before a place the ends of its decisions
pub record AreMarks (advert : Advertised) (weights : PathWeights) (kept : List Path) (upto : ℕ) (marks : List ℕ) : Type 0 where
  pub begun : IsMarked marks 0
  pub sound : (place : ℕ) → IsMarked marks place → IsReached advert weights kept (state_at place)
  pub closed : (place : ℕ) → place < upto → IsMarked marks place → (decision : Decision) → Contains (decisions_from advert weights kept (state_at place)) decision → IsMarked marks (state_place decision.end)
