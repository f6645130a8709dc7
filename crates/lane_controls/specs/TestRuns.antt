-- A link test on a bus, and what holds there. (docs/lanes.md; this project's own)
use Rattle.std.specs.Prelude.{ℕ, Some, Bool, true, false, Option}
use Rattle.bus_model.specs.declared.operation.Op.{Op}
use Rattle.conversations.specs.declared.pausing.Patience.{Patience}
use Rattle.conversations.specs.Events.{Events}
use Rattle.conversations.specs.Pauses.{WithPauses}
use Rattle.conversations.specs.Selecting.{WithSelections}
use Rattle.paged_memory.specs.declared.page_addressing.PageAddressing.TheVariants.{BankAndPage}
use Rattle.lane_controls.specs.declared.test_plan.TestPlan.{TestPlan}
use Rattle.lane_controls.specs.LinkTests.{test_after}
use Rattle.lane_controls.specs.TestOperations.{page_at}

-- but for selections of pages, each of which is confirmed before it is used; who doubts confirms it anew after a refusal
abbrev pub OnTestPages : Bool → TestPlan → (Events → Type 0) → Events → Type 0
OnTestPages doubts plan = WithSelections doubts false (λ own. Some BankAndPage) (λ own. page_at (test_after plan own).stage)

-- and but for pauses
abbrev pub OnRealBus : Patience → TestPlan → (Events → Type 0) → Option Op → Bool → ℕ → Events → Type 0
OnRealBus patience plan P = WithPauses patience (OnTestPages true plan P)
