-- A change of lanes on a bus. (docs/lanes.md; this project's own)
use Rattle.std.specs.Prelude.{ℕ, Some, Bool, true, false, Result}
use Rattle.conversations.specs.declared.pausing.Patience.{Patience}
use Rattle.conversations.specs.declared.pausing.Timed.{Timed}
use Rattle.conversations.specs.declared.within.Spent.{Spent}
use Rattle.conversations.specs.Carried.{IsCarriedOut}
use Rattle.conversations.specs.Events.{Events, steps_of}
use Rattle.conversations.specs.Pauses.{EndsPausing, GoesOnPausing}
use Rattle.conversations.specs.Selecting.{WithSelections}
use Rattle.paged_memory.specs.declared.page_addressing.PageAddressing.TheVariants.{BankAndPage}
use Rattle.lane_controls.specs.declared.lane_change.LaneChange.{LaneChange}
use Rattle.lane_controls.specs.declared.lane_change.LaneEnd.{LaneEnd}
use Rattle.lane_controls.specs.LaneChanges.{AreLaneSteps, HasEnded, lane_after, page_at}

-- but for selections of pages 10h and 11h, each of which is confirmed before it is used
abbrev pub OnControls : Bool → LaneChange → (Events → Type 0) → Events → Type 0
OnControls doubts change = WithSelections doubts false (λ own. Some BankAndPage) (λ own. page_at (lane_after change (steps_of own)).stage)

abbrev pub GoesOn : Bool → LaneChange → Events → Type 0
GoesOn doubts change = OnControls doubts change (λ own. AreLaneSteps change (steps_of own))

abbrev pub Ends : Bool → LaneChange → Events → LaneEnd → Type 0
Ends doubts change events end = OnControls doubts change (λ own. HasEnded change (steps_of own) end) events

-- the change ended, or gave up at the limit, or the bus failed
abbrev pub ChangesLanes : {F : Type 0} → LaneChange → ℕ → Type 0 → (F → Type 0) → Events → Result (Spent LaneEnd) F → Type 0
ChangesLanes change limit same fails events answer = IsCarriedOut limit (GoesOn false change) (Ends false change) same fails events answer

-- the same with pauses and doubt, or it was out of patience
abbrev pub ChangesLanesPatiently : {F : Type 0} → LaneChange → Patience → ℕ → Type 0 → (F → Type 0) → Events → Result (Spent (Timed LaneEnd)) F → Type 0
ChangesLanesPatiently change patience limit same fails events answer =
    IsCarriedOut limit (GoesOnPausing patience (GoesOn true change)) (EndsPausing patience (GoesOn true change) (Ends true change)) same fails events answer
