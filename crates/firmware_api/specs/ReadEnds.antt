-- What a reading that ended has read, by the steps that were made since it began. (docs/bus.md, "Reading an image"; this project's
-- own)
use Rattle.std.specs.Prelude.{◌≡◌, Bool, Option, Some, None}
use Rattle.conversations.specs.declared.pausing.Timed.{Timed}
use Rattle.conversations.specs.declared.pausing.Timed.TheVariants.{InTime, Overdue}
use Rattle.conversations.specs.Events.{Events, steps_of}
use Rattle.conversations.specs.Pieces.{InHalvesSoFar}
use Rattle.control_sets.specs.declared.fault.ProvisionFault.{ProvisionFault}
use Rattle.conversations.specs.declared.watching.Watched.TheVariants.{InOrder, Left}
use Rattle.module_reading.specs.declared.request.Request.{Request}
use Rattle.module_reading.specs.ReadImages.{IsImageOf, IsReading, IsUnfinished}
use Rattle.paged_memory.specs.Images.{Memory}
use Rattle.paged_memory.specs.PageAddressing.{History}
use Rattle.firmware_api.specs.KeptConversations.{Ending}

-- the steps give this image if it ended in time; out of patience or of operations, they give none
abbrev pub HasImage : Option (Timed (Option ProvisionFault)) → Bool → Request → History → Memory → Type 0
HasImage (Some (InTime end)) doubts request history image = IsImageOf doubts request history image
HasImage (Some Overdue) doubts request history image = IsUnfinished doubts request history
HasImage None doubts request history image = IsUnfinished doubts request history

-- so do the steps of these events, once the pieces of each half are joined into one fetch; a reading looks at no state of the module
abbrev pub HasReadModule : Bool → Request → Events → Memory → Ending → Type 0
HasReadModule doubts request events image (InOrder spent) =
    (own : Events) × (steps_of own ≡ steps_of events)
    × InHalvesSoFar (λ joined. IsReading doubts request (steps_of joined) × HasImage spent.end doubts request (steps_of joined) image) own
HasReadModule doubts request events image (Left code) = ⊥
