-- Conversations as the numbers that C keeps: which numbers are one's, and of which; what C is told of it, and what becomes of it.
-- (docs/firmware.md, "The numbers of a conversation"; this project's own)
use Rattle.std.specs.Prelude.{◌≡◌, ◌⊎◌, ◌==◌, ◌&&◌, ◌||◌, ◌≤◌, ◌<◌, ◌+◌, ◌*◌, ◌/◌, nat_le, nat_lt, ℕ, Bool, not, IsTrue, is_some, List, ◌∷◌, length, take, replicate, Option, Some, None, if◌then◌else◌}
use Rattle.std.specs.FinMap as map
use Rattle.std.specs.List.{list_all}
use Rattle.std.specs.Option.{option_map}
use Rattle.bus_model.specs.declared.operation.Op.{Op}
use Rattle.bus_model.specs.declared.operation.Reply.{Reply}
use Rattle.bus_model.specs.Operations.{Answers}
use Rattle.conversations.specs.declared.next.Next.{Next}
use Rattle.conversations.specs.declared.next.Next.TheVariants as next
use Rattle.conversations.specs.declared.pausing.Patience.{Patience}
use Rattle.conversations.specs.declared.pausing.Timed.{Timed}
use Rattle.conversations.specs.declared.pausing.Timed.TheVariants.{InTime, Overdue}
use Rattle.conversations.specs.declared.watching.Look.{Look}
use Rattle.conversations.specs.declared.watching.Look.TheVariants.{Seen, Due, Left}
use Rattle.conversations.specs.declared.watching.Watched.TheVariants.{InOrder}
use Rattle.conversations.specs.declared.watching.Watched.TheVariants as watched
use Rattle.conversations.specs.Events.{Events}
use Rattle.conversations.specs.Patiently.{Patient}
use Rattle.conversations.specs.Pauses.{counted}
use Rattle.paged_memory.specs.declared.key.Key.{Key}
use Rattle.paged_memory.specs.declared.page_addressing.KnownPage.{KnownPage}
use Rattle.control_sets.specs.declared.fault.ProvisionFault.{ProvisionFault}
use Rattle.control_sets.specs.declared.fault.ProvisionFault.TheVariants.{GaveUp, ModuleState, Reserved}
use Rattle.control_sets.specs.declared.procedures.procedure.saved.SavedProcedure.{SavedProcedure}
use Rattle.control_sets.specs.declared.procedures.saved_fault.SavedFault.{SavedFault}
use Rattle.control_sets.specs.OutcomeAnswers.{most_steps}
use Rattle.control_sets.specs.PowerProgress.{PatientPower}
use Rattle.control_sets.specs.Progress.{PatientProcedure}
use Rattle.control_sets.specs.SavedNumbers.{due_numbered, fault_in, numbers, restored, saved_fault, selected_numbered}
use Rattle.control_sets.specs.SavedPower.{restored_power}
use Rattle.module_states.specs.declared.state.ModuleState.{ModuleState as State}
use Rattle.module_states.specs.declared.state.ModuleState.TheVariants as state
use Rattle.module_states.specs.Codes.{state_at}
use Rattle.module_reading.specs.declared.halves.Halves.{Halves}
use Rattle.firmware_api.specs.declared.conversation.numbers.SavedConversation.{SavedConversation}
use Rattle.firmware_api.specs.declared.conversation.SavedEnd.{SavedEnd}
use Rattle.firmware_api.specs.declared.half.HalfBytes.{HalfBytes}
use Rattle.firmware_api.specs.declared.kept.Kept.{Kept}
use Rattle.firmware_api.specs.declared.kept.Kept.TheVariants.{OfTasks, OfPower, OfReading}
use Rattle.firmware_api.specs.declared.operation.Operation.{Operation}
use Rattle.firmware_api.specs.declared.status.Refusal.{Refusal}
use Rattle.firmware_api.specs.declared.status.Refusal.TheVariants.{NoConversation, NoReply, NotEnded, TooFewBytes}
use Rattle.firmware_api.specs.declared.status.Refusal.TheVariants as refusals
use Rattle.firmware_api.specs.Halves.{has_place, key_of, memory_of}
use Rattle.firmware_api.specs.KeptConversations.{Ending, InHand, Subject, WasTold, about, after, halves_of, next_of, patience_of}
use Rattle.firmware_api.specs.Operations.{operation_of, waited, waiting}
use Rattle.firmware_api.specs.Statuses.{done, number_of, status_of}

-- ---- the numbers

-- what stands in each: DCC1, in ASCII
abbrev pub conversation_magic : ℕ
conversation_magic = 0x44434331

-- the number of its work: 1 and 2 are provisioning and activation, 3 and 4 changes of power
abbrev pub work_of_reading : ℕ
work_of_reading = 5

-- a number says yes by 1, and no by 0; a page is told only with what tells of it
abbrev pub is_sound : SavedConversation → Bool
is_sound saved =
    saved.magic == conversation_magic && (nat_le saved.doubts 1 && (nat_le saved.taken 1 && ((saved.taken == 1 || saved.taken_page == 0) && nat_le saved.watches 1)))

-- the code of the module's state that shows the fault, if one does
abbrev pub code_in : ProvisionFault → Option ℕ
code_in (ModuleState code) = if is_some (state_at code) then Some code else None
code_in (Reserved code) = if is_some (state_at code) then None else Some code
code_in fault = None

-- whether a look is due, or has shown another state: 1 if it is due, and the state's fault
abbrev pub look_by : ℕ → Option (Option ProvisionFault) → Option Look
look_by number None = None
look_by number (Some None) = if number == 0 then Some Seen else (if number == 1 then Some Due else None)
look_by number (Some (Some fault)) = if number == 0 then option_map Left (code_in fault) else None

abbrev pub look_in : SavedConversation → Option Look
look_in saved = look_by saved.look (fault_in saved.left)

-- the procedure, which looks at the module's state or doesn't
abbrev pub tasks_in : SavedConversation → PatientProcedure → Look → Kept
tasks_in saved procedure look = OfTasks (record { conversation = procedure; watches = saved.watches == 1; look = look })

abbrev pub patience_in : SavedProcedure → Patience
patience_in saved = record { pause = saved.pause; limit = saved.limit }

abbrev pub power_in : SavedConversation → Option Kept
power_in saved = option_map OfPower (restored_power saved.saved)

-- the halves that were read, the newest first
abbrev pub halves_in : SavedConversation → List HalfBytes → List HalfBytes
halves_in saved halves = take saved.halves halves

abbrev pub reading_with : SavedConversation → List HalfBytes → KnownPage → Bool → Kept
reading_with saved halves selection due = OfReading (record {
  conversation = record {
    conversation = record {
      conversation = record {
        conversation = record { request = record { halves = saved.saved.lanes }; image = memory_of (halves_in saved halves); settled = saved.saved.met };
        selection = selection;
        taken = if saved.taken == 1 then Some saved.taken_page else None;
        doubts = saved.doubts == 1;
      };
      piece = saved.piece;
      part = record { items = take saved.read saved.part };
    };
    patience = patience_in saved.saved;
    due = due;
    idle = saved.saved.idle;
  };
  steps = saved.saved.steps;
  limit = most_steps;
})

-- no more steps than may be made, no more halves settled than are read nor than steps were made, and no more counted than settled; a piece
-- has bytes, and a whole half is no part
abbrev pub is_reading : SavedConversation → List HalfBytes → Bool
is_reading saved halves =
    nat_le saved.saved.steps most_steps && (nat_le saved.saved.met 5 && (nat_le saved.saved.met saved.saved.steps && (nat_le saved.halves saved.saved.met
    && (nat_lt 0 saved.piece && (nat_lt saved.read 128 && list_all has_place (halves_in saved halves))))))

abbrev pub reading_by : SavedConversation → List HalfBytes → Option KnownPage → Option Bool → Option Kept
reading_by saved halves (Some selection) (Some due) = Some (reading_with saved halves selection due)
reading_by saved halves selection due = None

abbrev pub reading_in : SavedConversation → List HalfBytes → Option Kept
reading_in saved halves =
    if is_reading saved halves then reading_by saved halves (selected_numbered saved.saved.selection saved.saved.page) (due_numbered saved.saved.due) else None

-- no numbers are those of both
abbrev pub procedure_by : SavedConversation → Option PatientProcedure → Option PatientPower → Option Kept
procedure_by saved (Some procedure) change = option_map (tasks_in saved procedure) (look_in saved)
procedure_by saved None change = option_map OfPower change

-- the conversation that has these numbers, of which these halves were read; none for memory that is no conversation
unfoldable pub conversation_in : SavedConversation → List HalfBytes → Option Kept
conversation_in saved halves =
    if not (is_sound saved) then None
    else (if saved.saved.work == work_of_reading then reading_in saved halves
    else procedure_by saved (restored saved.saved (saved.doubts == 1)) (restored_power saved.saved))

-- ---- what C is told of it

-- what is to be done, if the numbers are a conversation's
abbrev pub wanted : SavedConversation → List HalfBytes → Option (Next Ending)
wanted saved halves = option_map next_of (conversation_in saved halves)

abbrev pub IsNextTold : ℕ → Operation → Option (Next Ending) → Type 0
IsNextTold status operation None = status ≡ status_of NoConversation
IsNextTold status operation (Some (next.Do op)) = (status ≡ done) × (operation ≡ operation_of op)
IsNextTold status operation (Some (next.Wait time)) = (status ≡ done) × (operation ≡ waiting time)
IsNextTold status operation (Some (next.End ending)) = status ≡ status_of refusals.Ended

-- which status tells of an outcome: a wait is over, or the reply is taken if and only if the operation can have it
abbrev pub IsReplyTold : ℕ → ℕ → Option Reply → Option (Next Ending) → Type 0
IsReplyTold status outcome reply None = status ≡ status_of NoConversation
IsReplyTold status outcome reply (Some (next.End ending)) = status ≡ status_of refusals.Ended
IsReplyTold status outcome reply (Some (next.Wait time)) = status ≡ (if outcome == waited then done else status_of NoReply)
IsReplyTold status outcome None (Some (next.Do op)) = status ≡ status_of NoReply
IsReplyTold status outcome (Some reply) (Some (next.Do op)) =
    (Answers op reply → status ≡ done) × (¬ (Answers op reply) → status ≡ status_of NoReply)

-- the reply, if the operation can have it
abbrev pub IsReplyFor : Option Reply → Op → Option Reply → Type 0
IsReplyFor found op None = found ≡ None
IsReplyFor found op (Some reply) = (Answers op reply → found ≡ Some reply) × (¬ (Answers op reply) → found ≡ None)

-- out of patience
abbrev pub overdue : SavedFault
overdue = numbers 8 0 0

abbrev pub ended_with : ℕ → SavedFault → SavedEnd
ended_with steps fault = record { steps = steps; fault = fault }

-- of a module in another state than ModuleReady: it is in ModuleFault, or was reset; or it shows a reserved code
abbrev pub left_in : ℕ → Option State → SavedFault
left_in code (Some state.Fault) = numbers 10 code 0
left_in code (Some state) = numbers 9 code 0
left_in code None = saved_fault (Some (Reserved code))

abbrev pub left_by : ℕ → SavedFault
left_by code = left_in code (state_at code)

abbrev pub ended_by : ℕ → Option (Timed (Option ProvisionFault)) → SavedEnd
ended_by steps None = ended_with 0 (saved_fault (Some GaveUp))
ended_by steps (Some Overdue) = ended_with 0 overdue
ended_by steps (Some (InTime None)) = ended_with steps (saved_fault None)
ended_by steps (Some (InTime (Some fault))) = ended_with 0 (saved_fault (Some fault))

abbrev pub end_of : Ending → SavedEnd
end_of (InOrder spent) = ended_by spent.steps spent.end
end_of (watched.Left code) = ended_with 0 (left_by code)

abbrev pub IsEndTold : ℕ → SavedEnd → Option (Next Ending) → Type 0
IsEndTold status ended None = status ≡ status_of NoConversation
IsEndTold status ended (Some (next.Do op)) = status ≡ status_of NotEnded
IsEndTold status ended (Some (next.Wait time)) = status ≡ status_of NotEnded
IsEndTold status ended (Some (next.End ending)) = (status ≡ done) × (ended ≡ end_of ending)

-- ---- what became of it

-- these are the numbers of a conversation about this, of such patience, that was told these events, the newest first
abbrev pub IsSavedAt : Subject → Patience → Events → SavedConversation → List HalfBytes → Type 0
IsSavedAt subject patience events saved halves =
    (kept : Kept) × (conversation_in saved halves ≡ Some kept) × (about kept ≡ subject) × (patience_of kept ≡ patience) × WasTold events kept

-- a new half came before those that were there, or none did
abbrev pub HasInFront : List HalfBytes → List HalfBytes → Type 0
HasInFront before after = (after ≡ before) ⊎ ((half : HalfBytes) × (after ≡ half ∷ before))

-- ---- a reading

-- a bus has to fetch 8 bytes at once
abbrev pub size_refusal : ℕ → Option Refusal
size_refusal most = if nat_lt most 8 then Some TooFewBytes else None

-- how many bytes a piece has: the largest multiple of 8 that the bus fetches at once, and 128 at most
abbrev pub piece_for : ℕ → ℕ
piece_for most = 8 * ((if nat_lt most 128 then most else 128) / 8)

-- these bytes, a whole half, came into the image
abbrev pub Puts : Halves → Key → List ℕ → Halves → Type 0
Puts halves key bytes later = (length bytes ≡ 128) × (later.image ≡ map.insert halves.image key bytes) × (later.settled ≡ halves.settled + 1)

-- the image is as it was; a half may have been left out
abbrev pub Leaves : Halves → Halves → Type 0
Leaves halves later = (later.image ≡ halves.image) × (halves.settled ≤ later.settled) × (later.settled ≤ halves.settled + 1)

-- the half came into the image, or the image is as it was
abbrev pub HasHalf : Option HalfBytes → Halves → Halves → Type 0
HasHalf None halves later = Leaves halves later
HasHalf (Some half) halves later = Puts halves (key_of half) half.bytes later × IsTrue (has_place half)

-- ---- the numbers of a conversation

abbrev pub number_of_look : Look → ℕ
number_of_look Seen = 0
number_of_look Due = 1
number_of_look (Left code) = 0

-- the fault that the code shows
abbrev pub fault_at : ℕ → Option State → ProvisionFault
fault_at code (Some state) = ModuleState code
fault_at code None = Reserved code

abbrev pub fault_of_look : Look → Option ProvisionFault
fault_of_look Seen = None
fault_of_look Due = None
fault_of_look (Left code) = Some (fault_at code (state_at code))

-- the numbers of a procedure, which doubts or doesn't, and looks at the module's state or doesn't
abbrev pub procedure_numbers : SavedProcedure → Bool → Bool → Look → SavedConversation
procedure_numbers saved doubts watches look = record {
  magic = conversation_magic;
  saved = saved;
  doubts = number_of doubts;
  taken = 0;
  taken_page = 0;
  watches = number_of watches;
  look = number_of_look look;
  left = saved_fault (fault_of_look look);
  halves = 0;
  piece = 0;
  read = 0;
  part = replicate 128 0;
}

-- the pause that was due is over
abbrev pub paused_procedure : SavedProcedure → SavedProcedure
paused_procedure saved = record saved { due = 0; idle = counted (saved.idle + saved.pause) }

-- if it looks, a look is due then, unless one has shown a fault
abbrev pub paused_look : Bool → ℕ → Option (Option ProvisionFault) → ℕ
paused_look watches number None = number
paused_look watches number (Some None) = if watches then 1 else number
paused_look watches number (Some (Some fault)) = number

abbrev pub paused_numbers : SavedConversation → SavedConversation
paused_numbers saved = record saved { saved = paused_procedure saved.saved; look = paused_look (saved.watches == 1) saved.look (fault_in saved.left) }

-- it may make as many steps as each, and has settled no more halves than are read, nor than steps were made
abbrev pub HasRoom : {C : Type 0} → Patient C → ℕ → ℕ → Type 0
HasRoom it met most = (it.limit ≡ most_steps) × (it.steps ≤ most_steps) × (met ≤ most) × (met ≤ it.steps)

-- so many halves were read; a piece has bytes, and a whole half is no part
pub record HasNumbers (read : Patient InHand) (number : ℕ) : Type 0 where
  pub room : HasRoom read (halves_of read).settled 5
  pub count : number ≤ (halves_of read).settled
  pub piece : 0 < read.conversation.conversation.piece
  pub part : length read.conversation.conversation.part.items < 128

-- the numbers of a reading, besides its halves and its part
pub record AreOfReading (numbers : SavedProcedure) (read : Patient InHand) : Type 0 where
  pub work : numbers.work ≡ work_of_reading
  pub request : numbers.lanes ≡ (halves_of read).request.halves
  pub met : numbers.met ≡ (halves_of read).settled
  pub steps : numbers.steps ≡ read.steps
  pub selected : selected_numbered numbers.selection numbers.page ≡ Some read.conversation.conversation.conversation.selection
  pub due : due_numbered numbers.due ≡ Some read.conversation.due
  pub idle : numbers.idle ≡ read.conversation.idle
  pub patience : patience_in numbers ≡ read.conversation.patience

-- these are the halves that it has read
abbrev pub HasRead : Patient InHand → List HalfBytes → Type 0
HasRead read halves = ((halves_of read).image ≡ memory_of halves) × IsTrue (list_all has_place halves)

-- so many halves are read now, the new one in front of those that were
abbrev pub IsInFront : Option HalfBytes → ℕ → List HalfBytes → ℕ → List HalfBytes → Type 0
IsInFront None count before number after = (number ≡ count) × (after ≡ before)
IsInFront (Some half) count before number after = (number ≡ count + 1) × (take number after ≡ half ∷ take count before)
