-- What comes of the reading of a module's memory without a bus, by the events that it was told. (docs/bus.md, "Reading an image";
-- this project's own)
use Rattle.std.specs.Prelude.{◌≡◌, Bool, length, None, true}
use Rattle.control_sets.specs.OutcomeAnswers.{most_steps}
use Rattle.conversations.specs.Events.{Events, steps_of}
use Rattle.conversations.specs.Pieces.{InHalvesSoFar}
use Rattle.conversations.specs.Selecting.{WithSelections}
use Rattle.paged_memory.specs.PageAddressing.{History}
use Rattle.module_reading.specs.declared.halves.Halves.{Halves}
use Rattle.module_reading.specs.declared.request.Request.{Request}
use Rattle.module_reading.specs.ImageReading.{addressed_after, in_hand, needed_after}
use Rattle.module_reading.specs.ReadImages.{IsGivenUp, IsImageOf, IsReading, IsUnfinished}

-- its own events, with selections added
abbrev pub WithOwn : Bool → Request → (Events → Type 0) → Events → Type 0
WithOwn doubts request P events = WithSelections doubts true (addressed_after request) (needed_after request) P events

-- if it asks for nothing more, its steps are the reading of the image that it has; if it gives up, of none
pub record HasOutcome (doubts : Bool) (history : History) (halves : Halves) : Type 0 where
  pub is_reading : IsReading doubts halves.request history
  pub complete : in_hand halves ≡ None → IsImageOf doubts halves.request history halves.image
  pub unfinished : (in_hand halves ≡ None → ⊥) → IsUnfinished doubts halves.request history
  pub given_up : length history ≡ most_steps → (in_hand halves ≡ None → ⊥) → IsGivenUp doubts halves.request history

-- what came of it with pauses and in pieces: the steps, with the pieces of each half joined, have the outcome
abbrev pub HasPatientOutcome : Bool → Events → Halves → Type 0
HasPatientOutcome doubts events halves =
    (own : Events) × (steps_of own ≡ steps_of events) × InHalvesSoFar (λ joined. HasOutcome doubts (steps_of joined) halves) own
