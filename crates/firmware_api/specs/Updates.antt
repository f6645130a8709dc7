-- Updates of a module's firmware as C keeps them: what is told of each call. (docs/firmware_update.md, "From C and Python"; this project's own)
use Rattle.std.specs.Prelude.{◌≡◌, ℕ, ◌==◌, Bool, List, slice_index, Option, Some, None, if◌then◌else◌}
use Rattle.bus_model.specs.declared.operation.Reply.{Reply}
use Rattle.bus_model.specs.Operations.{Answers}
use Rattle.command_block.specs.declared.advertised.Advertised.{Advertised}
use Rattle.command_block.specs.Advertised.{advertised}
use Rattle.conversations.specs.declared.next.Next.{Next}
use Rattle.conversations.specs.declared.next.Next.TheVariants.{Do, Wait, End}
use Rattle.saved_update.specs.declared.numbers.SavedUpdate.{SavedUpdate}
use Rattle.saved_update.specs.declared.progress.SavedEnding.{SavedEnding}
use Rattle.saved_update.specs.declared.work.Ending.{Ending}
use Rattle.saved_update.specs.declared.work.Work.{Work}
use Rattle.saved_update.specs.Endings.{ending_of}
use Rattle.saved_update.specs.SavedDeliveries.{number_of}
use Rattle.saved_update.specs.SavedUpdates.{work_in}
use Rattle.saved_update.specs.Works.{wants}
use Rattle.firmware_api.specs.declared.operation.Operation.{Operation}
use Rattle.firmware_api.specs.declared.status.Refusal.{Refusal}
use Rattle.firmware_api.specs.declared.status.Refusal.TheVariants.{Ended, NoConversation, NoReply, NotEnded}
use Rattle.firmware_api.specs.declared.update.CommandBlock.{CommandBlock}
use Rattle.firmware_api.specs.Operations.{operation_of, waited, waiting}
use Rattle.firmware_api.specs.Statuses.{done, status_of}

-- ---- what is advertised

abbrev pub block_of : Advertised → CommandBlock
block_of block = record {
  max_busy_time = block.max_busy_time;
  instances = block.instances;
  background_mode = number_of block.background_mode;
  auto_paging = number_of block.auto_paging;
  epl_pages = block.epl_pages;
  length_extension = block.length_extension;
}

abbrev pub command_block_of : List ℕ → CommandBlock
command_block_of bytes = block_of (advertised (slice_index bytes 0) (slice_index bytes 1) (slice_index bytes 2) (slice_index bytes 3))

-- ---- what is wanted

abbrev pub wanted_of : Option Work → Option (Next Ending)
wanted_of None = None
wanted_of (Some work) = Some (wants work)

abbrev pub wanted_in : List ℕ → SavedUpdate → Option (Next Ending)
wanted_in file saved = wanted_of (work_in file saved)

abbrev pub refusal_in : Option Work → Option Refusal
refusal_in None = Some NoConversation
refusal_in (Some work) = None

abbrev pub IsNextTold : {E : Type 0} → ℕ → Operation → Option (Next E) → Type 0
IsNextTold status operation None = status ≡ status_of NoConversation
IsNextTold status operation (Some (Do op)) = (status ≡ done) × (operation ≡ operation_of op)
IsNextTold status operation (Some (Wait time)) = (status ≡ done) × (operation ≡ waiting time)
IsNextTold status operation (Some (End ending)) = status ≡ status_of Ended

-- a wait is over, or the reply is taken if and only if the operation can have it
abbrev pub IsReplyTold : {E : Type 0} → ℕ → ℕ → Option Reply → Option (Next E) → Type 0
IsReplyTold status outcome reply None = status ≡ status_of NoConversation
IsReplyTold status outcome reply (Some (End ending)) = status ≡ status_of Ended
IsReplyTold status outcome reply (Some (Wait time)) = status ≡ (if outcome == waited then done else status_of NoReply)
IsReplyTold status outcome None (Some (Do op)) = status ≡ status_of NoReply
IsReplyTold status outcome (Some reply) (Some (Do op)) =
    (Answers op reply → status ≡ done) × (¬ (Answers op reply) → status ≡ status_of NoReply)

-- ---- how it ended

abbrev pub IsEndBy : ℕ → SavedEnding → Work → Next Ending → Type 0
IsEndBy status ended work (Do op) = status ≡ status_of NotEnded
IsEndBy status ended work (Wait time) = status ≡ status_of NotEnded
IsEndBy status ended work (End ending) = (status ≡ done) × (ended ≡ ending_of work ending)

abbrev pub IsEndTold : ℕ → SavedEnding → Option Work → Type 0
IsEndTold status ended None = status ≡ status_of NoConversation
IsEndTold status ended (Some work) = IsEndBy status ended work (wants work)
