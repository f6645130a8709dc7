-- What replies leave as it was of halves: what is requested, and, once it is known, how pages are selected.
use Rattle.std.proofs.Common.{◌≡◌, ◌<◌, ℕ, ◌+◌, ◌==◌, zero, suc, Bool, List, ◌∷◌, Option, Some, None, refl, sym, ap, ◌∙◌, if◌then◌else◌, arith}
use Rattle.std.specs.FinMap as map
use Rattle.std.proofs.lemmas.Bool.{eqb-true, false_from_ne_true}
use Rattle.bus_model.specs.declared.device.Dev.TheVariants.{A0}
use Rattle.bus_model.specs.declared.operation.Reply.{Reply}
use Rattle.bus_model.specs.declared.operation.Reply.TheVariants.{Bytes, Done, Refused}
use Rattle.conversations.specs.declared.event.Event.{Event}
use Rattle.conversations.specs.declared.event.Event.TheVariants.{Made, Waited, Lacked, Asked}
use Rattle.conversations.specs.Events.{Events}
use Rattle.paged_memory.specs.declared.page_addressing.PageAddressing.{PageAddressing}
use Rattle.paged_memory.specs.Images.{Memory}
use Rattle.paged_memory.specs.Keys.{lower_key}
use Rattle.module_reading.specs.declared.halves.Halves.{Halves}
use Rattle.module_reading.specs.declared.region.Region.{Region}
use Rattle.module_reading.specs.declared.request.Request.{Request}
use Rattle.module_reading.specs.declared.region.Region.TheVariants.{Lower}
use Rattle.module_reading.specs.Regions.{addressing_of, key_of}
use Rattle.module_reading.specs.ImageReading.{addressed_after, addressing, addressing_by, after_fetch, halves_after, in_hand, leaving_out, put_in}
use Rattle.module_reading.proofs.KeptHalves.{puts_other}
use Rattle.module_reading.proofs.RegionLaws.{first_is, other_keys, same_paging}

pub same_request : (found : Option Region) (halves : Halves) (reply : Reply) → (after_fetch found halves reply).request ≡ halves.request
same_request None halves reply = refl
same_request (Some region) halves (Bytes bytes) = refl
same_request (Some region) halves Done = refl
same_request (Some region) halves Refused = refl

pub lacks_same_request : (found : Option Region) (halves : Halves) → (leaving_out found halves).request ≡ halves.request
lacks_same_request None halves = refl
lacks_same_request (Some region) halves = refl

-- ---- how pages are selected stays known

-- since the lower half stays in the image, once it was read
pub keeps_lower : (halves : Halves) (hand : Region) (bytes : List ℕ) → 0 < halves.settled → in_hand halves ≡ Some hand →
    map.get (put_in halves.image (key_of hand) bytes) (lower_key A0) ≡ map.get halves.image (lower_key A0)
keeps_lower halves hand bytes later is =
    puts_other halves.image (key_of hand) bytes (lower_key A0) (other_keys halves.request halves.image 0 halves.settled (Lower A0) hand later (first_is halves.request halves.image) is)

pub known_later : (settled : ℕ) (image : Memory) → 0 < settled → addressing_by settled image ≡ Some (addressing_of image)
known_later settled image later =
    ap (λ (b : Bool). if b then None else Some (addressing_of image)) (false_from_ne_true (settled == 0) (λ first. (let none = eqb-true settled 0 first in absurd (omega (arith, none, later)))))

-- if it was known, that half was settled
was_later : (settled : ℕ) (image : Memory) (by : PageAddressing) → addressing_by settled image ≡ Some by → 0 < settled
was_later zero image by known = absurd cc
was_later (suc n) image by known = omega arith

abbrev Stays : Halves → Halves → Type 0
Stays halves later = (by : PageAddressing) → addressing halves ≡ Some by → addressing later ≡ Some by

-- one half more is settled
goes_further : (halves : Halves) (image : Memory) → (0 < halves.settled → addressing_of image ≡ addressing_of halves.image) → Stays halves (record { request = halves.request; image = image; settled = halves.settled + 1 })
goes_further halves image same by known =
    let later = was_later halves.settled halves.image by known in
    known_later (halves.settled + 1) image (omega arith) ∙ ap (λ (a : PageAddressing). Some a) (same later) ∙ sym (known_later halves.settled halves.image later) ∙ known

fetch_stays : (halves : Halves) (reply : Reply) (found : Option Region) → in_hand halves ≡ found → Stays halves (after_fetch found halves reply)
fetch_stays halves reply None is by known = known
fetch_stays halves (Bytes bytes) (Some hand) is by known =
    goes_further halves (put_in halves.image (key_of hand) bytes.items) (λ later. same_paging (put_in halves.image (key_of hand) bytes.items) halves.image (keeps_lower halves hand bytes.items later is)) by known
fetch_stays halves Done (Some hand) is by known = known
fetch_stays halves Refused (Some hand) is by known = known

lack_stays : (halves : Halves) (found : Option Region) → Stays halves (leaving_out found halves)
lack_stays halves None by known = known
lack_stays halves (Some region) by known = goes_further halves halves.image (λ later. refl) by known

pub steady : (request : Request) (event : Event) (own : Events) (by : PageAddressing) → addressed_after request own ≡ Some by → addressed_after request (event ∷ own) ≡ Some by
steady request (Made step) own by known = fetch_stays (halves_after request own) step.reply (in_hand (halves_after request own)) refl by known
steady request (Waited time) own by known = known
steady request (Asked number) own by known = known
steady request (Lacked page) own by known = lack_stays (halves_after request own) (in_hand (halves_after request own)) by known
