-- What a reading that ended has read.
use Rattle.std.proofs.Common.{◌≡◌, ◌≢◌, ℕ, Bool, true, false, List, Option, Some, None, refl, ap, subst, if◌then◌else◌, nat_lt}
use Rattle.bus_model.specs.declared.operation.Op.{Op}
use Rattle.conversations.specs.declared.next.Next.{Next}
use Rattle.conversations.specs.declared.next.Next.TheVariants.{Do, Wait, End}
use Rattle.conversations.specs.declared.pausing.Patience.{Patience}
use Rattle.conversations.specs.declared.pausing.Timed.{Timed}
use Rattle.conversations.specs.declared.pausing.Timed.TheVariants.{InTime, Overdue}
use Rattle.conversations.specs.declared.watching.Watched.TheVariants.{InOrder, Left}
use Rattle.conversations.specs.declared.within.Spent.{Spent}
use Rattle.conversations.specs.Budgets.{next_within}
use Rattle.conversations.specs.Events.{Events, steps_of}
use Rattle.conversations.specs.Pauses.{next_pausing}
use Rattle.conversations.specs.Pieces.{next_piece, piece_of}
use Rattle.conversations.specs.Selecting.{chosen, next_on}
use Rattle.paged_memory.specs.declared.page_addressing.KnownPage.{KnownPage}
use Rattle.paged_memory.specs.declared.page_addressing.PageAddressing.{PageAddressing}
use Rattle.paged_memory.specs.Images.{Memory}
use Rattle.paged_memory.specs.KnownPages.{wanted}
use Rattle.paged_memory.specs.PageAddressing.{History}
use Rattle.control_sets.specs.declared.fault.ProvisionFault.{ProvisionFault}
use Rattle.module_reading.specs.declared.halves.Halves.{Halves}
use Rattle.module_reading.specs.declared.region.Region.{Region}
use Rattle.module_reading.specs.declared.request.Request.{Request}
use Rattle.module_reading.specs.ImageReading as reading
use Rattle.module_reading.specs.ReadingRuns.{HasOutcome}
use Rattle.module_reading.specs.Regions.{everything, operation}
use Rattle.module_reading.proofs.PatientTold.{patient_outcome}
use Rattle.firmware_api.specs.declared.conversation.numbers.SavedConversation.{SavedConversation}
use Rattle.firmware_api.specs.declared.half.HalfBytes.{HalfBytes}
use Rattle.firmware_api.specs.declared.kept.Kept.{Kept}
use Rattle.firmware_api.specs.declared.kept.Kept.TheVariants.{OfTasks, OfPower, OfReading}
use Rattle.firmware_api.specs.Halves.{memory_of}
use Rattle.conversations.specs.Patiently.{wants_patiently}
use Rattle.port_manager.specs.Jobs.{paged_halves}
use Rattle.firmware_api.specs.KeptConversations.{Bringing, Ending, Fetching, Spending, Subject, Turning, WasTold, about, ending_by, next_of, pieces_want, read_ending}
use Rattle.firmware_api.specs.ReadEnds.{HasImage, HasReadModule}
use Rattle.firmware_api.specs.SavedConversations as saving
use Rattle.firmware_api.specs.SavedConversations.{IsSavedAt, conversation_in, halves_in}
use Rattle.firmware_api.proofs.AboutLaws.{wanted_is}
use Rattle.firmware_api.proofs.FitLaws.{fits}

-- it ends in time if no half is in hand, and otherwise not
abbrev EndsBy : Option Region → Option (Timed (Option ProvisionFault)) → Type 0
EndsBy found (Some (InTime end)) = found ≡ None
EndsBy found (Some Overdue) = found ≢ None
EndsBy found None = found ≢ None

abbrev end_in : Next Ending → Option (Timed (Option ProvisionFault))
end_in (Do op) = None
end_in (Wait time) = None
end_in (End (InOrder spent)) = spent.end
end_in (End (Left code)) = None

module _ (steps limit idle : ℕ) (patience : Patience) (piece : ℕ) (part : List ℕ) (by : PageAddressing) (selected : KnownPage) (page : Option ℕ) (spent : Spending) where
  ends_by : (due : Bool) (found : Option Region) → ending_by read_ending (next_within steps limit (next_pausing due idle patience (next_piece piece part (next_on by selected page (reading.wants_by found))))) ≡ End (InOrder spent) →
      EndsBy found spent.end
  ends_by due None ends = subst (EndsBy None) (ap end_in ends) refl
  ends_by due (Some region) ends = by_due due (nat_lt patience.limit idle) ends where
    op : Op
    op = piece_of piece part (wanted by selected page (operation region))

    some : Some region ≢ None
    some none = cc

    by_steps : (few : Bool) → ending_by read_ending (if few then Do op else End (record { steps = steps; end = None })) ≡ End (InOrder spent) → EndsBy (Some region) spent.end
    by_steps true ends = absurd cc
    by_steps false ends = subst (EndsBy (Some region)) (ap end_in ends) some

    by_due : (due late : Bool) → ending_by read_ending (next_within steps limit (if due then (if late then End Overdue else Wait patience.pause) else Do op)) ≡ End (InOrder spent) → EndsBy (Some region) spent.end
    by_due true true ends = subst (EndsBy (Some region)) (ap end_in ends) some
    by_due true false ends = absurd cc
    by_due false late ends = by_steps (nat_lt steps limit) ends

image_by : (end : Option (Timed (Option ProvisionFault))) (doubts : Bool) (history : History) (halves : Halves) → EndsBy (reading.in_hand halves) end → HasOutcome doubts history halves → HasImage end doubts halves.request history halves.image
image_by (Some (InTime end)) doubts history halves none outcome = outcome.complete none
image_by (Some Overdue) doubts history halves some outcome = outcome.unfinished some
image_by None doubts history halves some outcome = outcome.unfinished some

abbrev doubts_in : Subject → Bool
doubts_in (Bringing work doubts watches) = false
doubts_in (Turning power) = false
doubts_in (Fetching request piece doubts) = doubts

abbrev requested_in : Subject → Request
requested_in (Bringing work doubts watches) = everything
requested_in (Turning power) = everything
requested_in (Fetching request piece doubts) = request

module _ (saved : SavedConversation) (halves : List HalfBytes) (request : Request) (piece : ℕ) (doubts : Bool) (events : Events) (spent : Spending) where
  read_by : (kept : Kept) → conversation_in saved halves ≡ Some kept → about kept ≡ Fetching request piece doubts → WasTold events kept → next_of kept ≡ End (InOrder spent) → HasReadModule doubts request events (memory_of (halves_in saved halves)) (InOrder spent)
  read_by (OfTasks procedure) is same told ends = absurd cc
  read_by (OfPower change) is same told ends = absurd cc
  read_by (OfReading read) is same told ends =
      let (numbers, has, few) = fits saved halves (OfReading read) is in
      let pausing = read.conversation in
      let pieces = pausing.conversation in
      let on = pieces.conversation in
      let (own, same_steps, (joined, half, part, joins, outcome)) = patient_outcome events read _ told.0 told.1 told.2 numbers.room.0 in
      let found = ends_by read.steps read.limit pausing.idle pausing.patience pieces.piece pieces.part.items (chosen (reading.addressing on.conversation)) on.selection (paged_halves.page on.conversation) spent pausing.due (reading.in_hand on.conversation) ends in
      let ended : HasReadModule on.doubts on.conversation.request events on.conversation.image (InOrder spent) =
      (own, same_steps, (joined, half, part, joins, (outcome.is_reading, image_by spent.end on.doubts (steps_of joined) on.conversation found outcome))) in
      let same_doubts : on.doubts ≡ doubts = ap doubts_in same in
      let same_request : on.conversation.request ≡ request = ap requested_in same in
      subst (λ (d : Bool). HasReadModule d request events (memory_of (halves_in saved halves)) (InOrder spent)) same_doubts
      (subst (λ (r : Request). HasReadModule on.doubts r events (memory_of (halves_in saved halves)) (InOrder spent)) same_request (subst (λ (image : Memory). HasReadModule on.doubts on.conversation.request events image (InOrder spent)) has.0 ended))

-- a reading looks at no state
never_left : (wanted : Next (Spent (Timed (Unit {0})))) (code : ℕ) → ending_by read_ending wanted ≡ End (Left code) → ⊥
never_left (Do op) code ends = cc
never_left (Wait time) code ends = cc
never_left (End spent) code ends = cc

left_by : (kept : Kept) (request : Request) (piece : ℕ) (doubts : Bool) (code : ℕ) → about kept ≡ Fetching request piece doubts → next_of kept ≡ End (Left code) → ⊥
left_by (OfTasks procedure) request piece doubts code same ends = cc
left_by (OfPower change) request piece doubts code same ends = cc
left_by (OfReading read) request piece doubts code same ends = never_left (wants_patiently pieces_want read) code ends

pub has_read : (saved : SavedConversation) (halves : List HalfBytes) (request : Request) (piece : ℕ) (doubts : Bool) (events : Events) (ending : Ending) (patience : Patience) →
    IsSavedAt (Fetching request piece doubts) patience events saved halves → saving.wanted saved halves ≡ Some (End ending) → HasReadModule doubts request events (memory_of (halves_in saved halves)) ending
has_read saved halves request piece doubts events (InOrder spent) patience (kept, is, is_about, is_patience, told) ends =
    read_by saved halves request piece doubts events spent kept is is_about told (wanted_is saved halves kept (End (InOrder spent)) is ends)
has_read saved halves request piece doubts events (Left code) patience (kept, is, is_about, is_patience, told) ends =
    left_by kept request piece doubts code is_about (wanted_is saved halves kept (End (Left code)) is ends)
