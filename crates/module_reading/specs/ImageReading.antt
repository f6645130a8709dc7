-- How far the reading of a module has come: what it asks for, and what a reply makes of it. Its events are its own, without the
-- selection of pages, the newest first. (docs/bus.md, "Reading an image"; this project's own)
use Rattle.std.specs.Prelude.{◌≡◌, ℕ, Bool, ◌+◌, ◌==◌, ◌&&◌, not, false, List, [], ◌∷◌, Option, Some, None, slice_get, if◌then◌else◌}
use Rattle.std.specs.FinMap as map
use Rattle.bus_model.specs.declared.operation.Reply.{Reply}
use Rattle.bus_model.specs.declared.operation.Reply.TheVariants.{Bytes, Done, Refused}
use Rattle.bus_model.specs.Operations.{Answers}
use Rattle.control_sets.specs.OutcomeAnswers.{most_steps}
use Rattle.conversations.specs.declared.event.Event.TheVariants.{Made, Waited, Lacked, Asked}
use Rattle.conversations.specs.declared.in_pieces.InPieces.{InPieces}
use Rattle.conversations.specs.declared.next.Next.{Next}
use Rattle.conversations.specs.declared.next.Next.TheVariants.{Do, End}
use Rattle.conversations.specs.declared.on_page.OnPage.{OnPage}
use Rattle.conversations.specs.declared.pausing.Pausing.{Pausing}
use Rattle.conversations.specs.declared.within.Within.{Within}
use Rattle.conversations.specs.Events.{Events}
use Rattle.paged_memory.specs.declared.key.Key.{Key}
use Rattle.paged_memory.specs.declared.page_addressing.PageAddressing.{PageAddressing}
use Rattle.paged_memory.specs.declared.page_addressing.KnownPage.TheVariants.{Unknown}
use Rattle.paged_memory.specs.Images.{Memory, most_pages}
use Rattle.module_reading.specs.declared.halves.Halves.{Halves}
use Rattle.module_reading.specs.declared.region.Region.{Region}
use Rattle.module_reading.specs.declared.request.Request.{Request}
use Rattle.module_reading.specs.Regions.{key_of, operation, page_of, addressing_of, regions_of}

-- nothing was read
abbrev pub begun : Request → Halves
begun request = record { request = request; image = map.empty; settled = 0 }

abbrev pub Reading : Type 0
Reading = Within (OnPage Halves)

-- the same with pauses, over a bus that carries few bytes at once
abbrev pub PatientReading : Type 0
PatientReading = Within (Pausing (InPieces (OnPage Halves)))

-- no step was made by those who doubt the page selection after a refusal, or don't
abbrev pub begun_by : Bool → Request → Reading
begun_by doubts request = record { conversation = record { conversation = begun request; selection = Unknown; taken = None; doubts = doubts }; steps = 0; limit = most_steps }

abbrev pub begun_reading : Request → Reading
begun_reading request = begun_by false request

-- the half in hand is the first that was neither read nor left out
abbrev pub in_hand : Halves → Option Region
in_hand halves = slice_get (regions_of halves.request halves.image) halves.settled

abbrev pub wants_by : Option Region → Next (Unit {0})
wants_by None = End tt
wants_by (Some region) = Do (operation region)

abbrev pub wants : Halves → Next (Unit {0})
wants halves = wants_by (in_hand halves)

abbrev pub page_by : Option Region → Option ℕ
page_by None = None
page_by (Some region) = page_of region

-- how pages are selected is known once the lower half was read
abbrev pub addressing_by : ℕ → Memory → Option PageAddressing
addressing_by settled image = if settled == 0 then None else Some (addressing_of image)

abbrev pub addressing : Halves → Option PageAddressing
addressing halves = addressing_by halves.settled halves.image

-- where the image has room
abbrev pub put_in : Memory → Key → List ℕ → Memory
put_in image key bytes = if map.len image == most_pages && not (map.contains_key image key) then image else map.insert image key bytes

abbrev pub keeping : Halves → Region → List ℕ → Halves
keeping halves region bytes = record { request = halves.request; image = put_in halves.image (key_of region) bytes; settled = halves.settled + 1 }

abbrev pub after_fetch : Option Region → Halves → Reply → Halves
after_fetch None halves reply = halves
after_fetch (Some region) halves (Bytes bytes) = keeping halves region bytes.items
after_fetch (Some region) halves Done = halves
after_fetch (Some region) halves Refused = halves

-- after the reply to the operation that was asked for
abbrev pub after_reply : Halves → Reply → Halves
after_reply halves reply = after_fetch (in_hand halves) halves reply

abbrev pub leaving_out : Option Region → Halves → Halves
leaving_out None halves = halves
leaving_out (Some region) halves = record { request = halves.request; image = halves.image; settled = halves.settled + 1 }

-- the half in hand isn't there
abbrev pub after_lack : Halves → Halves
after_lack halves = leaving_out (in_hand halves) halves

abbrev pub halves_after : Request → Events → Halves
halves_after request [] = begun request
halves_after request (Made step ∷ before) = after_reply (halves_after request before) step.reply
halves_after request (Waited time ∷ before) = halves_after request before
halves_after request (Lacked page ∷ before) = after_lack (halves_after request before)
halves_after request (Asked number ∷ before) = halves_after request before

abbrev pub needed_after : Request → Events → Option ℕ
needed_after request own = page_by (in_hand (halves_after request own))

abbrev pub addressed_after : Request → Events → Option PageAddressing
addressed_after request own = addressing (halves_after request own)

-- each operation is what was wanted, and each reply one that it can have
abbrev pub EachIsWanted : Request → Events → Type 0
EachIsWanted request [] = Unit {0}
EachIsWanted request (Made step ∷ before) = (wants (halves_after request before) ≡ Do step.op) × Answers step.op step.reply × EachIsWanted request before
EachIsWanted request (Waited time ∷ before) = EachIsWanted request before
EachIsWanted request (Lacked page ∷ before) = EachIsWanted request before
EachIsWanted request (Asked number ∷ before) = EachIsWanted request before

-- it was told these events
pub record IsTold (own : Events) (halves : Halves) : Type 0 where
  pub is : halves ≡ halves_after halves.request own
  pub each : EachIsWanted halves.request own

pub record EndsHalves (request : Request) (own : Events) : Type 0 where
  pub each : EachIsWanted request own
  pub none : in_hand (halves_after request own) ≡ None

pub record GoesOnHalves (request : Request) (own : Events) : Type 0 where
  pub each : EachIsWanted request own
  pub region : Region
  pub some : in_hand (halves_after request own) ≡ Some region
