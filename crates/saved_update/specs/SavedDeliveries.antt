-- A command on its way as plain numbers: which numbers are whose. (this project's own)
use Rattle.std.specs.Prelude.{◌≡◌, ◌==◌, ◌&&◌, ◌++◌, ℕ, nat_le, Bool, true, List, drop, length, take, replicate, Option, Some, None, if◌then◌else◌}
use Rattle.command_block.specs.declared.attempt.Attempt.{Attempt}
use Rattle.command_block.specs.declared.attempt.Phase.{Phase}
use Rattle.command_block.specs.declared.attempt.Phase.TheVariants.{Delayed, Idle, Filling, Triggering, Resting, Awaiting, Counting, Reading, Checking}
use Rattle.command_block.specs.declared.delivery.Delivery.{Delivery}
use Rattle.command_block.specs.declared.message.Message.{Message}
use Rattle.command_block.specs.declared.outcome.Outcome.{Outcome}
use Rattle.command_block.specs.declared.outcome.Outcome.TheVariants.{Succeeded, Failed, Unsent, Unknown}
use Rattle.command_block.specs.Deliveries.{most_steps, patience_for, terms_for, terms_of, timing_for}
use Rattle.paged_memory.specs.declared.page_addressing.KnownPage.{KnownPage}
use Rattle.paged_memory.specs.declared.page_addressing.KnownPage.TheVariants as pages
use Rattle.saved_update.specs.declared.numbers.SavedDelivery.{SavedDelivery}

abbrev pub number_of : Bool → ℕ
number_of bit = if bit then 1 else 0

abbrev pub page_in : ℕ → ℕ → KnownPage
page_in number page = if number == 2 then pages.Page page else (if number == 1 then pages.Open else pages.Unknown)

abbrev pub taken_in : ℕ → ℕ → Option ℕ
taken_in number page = if number == 1 then Some page else None

abbrev pub phase_in : ℕ → ℕ → ℕ → Phase
phase_in number at check =
    if number == 0 then Delayed
    else (if number == 1 then Idle
    else (if number == 2 then Filling at
    else (if number == 3 then Triggering
    else (if number == 4 then Resting
    else (if number == 5 then Awaiting
    else (if number == 6 then Counting
    else (if number == 7 then Reading at check
    else Checking at)))))))

abbrev pub outcome_by : ℕ → ℕ → ℕ → List ℕ → Option Outcome
outcome_by number status count reply =
    if number == 0 then None
    else (if number == 1 && nat_le count 128 then Some (Succeeded (record { items = take count reply }))
    else (if number == 2 then Some (Failed status)
    else (if number == 3 then Some Unsent
    else Some Unknown)))

abbrev pub outcome_in : SavedDelivery → Option Outcome
outcome_in saved = outcome_by saved.outcome saved.status saved.count saved.reply

abbrev pub attempt_in : Message → ℕ → ℕ → SavedDelivery → Attempt
attempt_in message duration delay saved = record {
  message = message;
  timing = timing_for duration delay;
  phase = phase_in saved.phase saved.at saved.check;
  outcome = outcome_in saved;
}

-- of this message, which the module may need so many milliseconds for, after such a delay
abbrev pub delivery_in : Message → ℕ → ℕ → SavedDelivery → Delivery
delivery_in message duration delay saved = record {
  patient = record {
    conversation = record {
      conversation = record {
        conversation = attempt_in message duration delay saved;
        selection = page_in saved.selection saved.page;
        taken = taken_in saved.taken saved.taken_page;
        doubts = true;
      };
      patience = patience_for duration;
      due = saved.due == 1;
      idle = saved.idle;
    };
    steps = saved.steps;
    limit = most_steps;
  };
}

-- with zeros after them
abbrev pub padded : List ℕ → List ℕ
padded bytes = bytes ++ drop (length bytes) (replicate 128 0)

-- with whatever message a delivery goes on, the numbers are its own
abbrev pub AreNumbers : SavedDelivery → Delivery → Type 0
AreNumbers saved delivery =
    (message : Message) (duration delay : ℕ) → terms_of delivery.patient ≡ terms_for message duration delay → delivery_in message duration delay saved ≡ delivery

-- of no command
abbrev pub no_delivery : SavedDelivery
no_delivery = record {
  idle = 0;
  steps = 0;
  phase = 0;
  at = 0;
  check = 0;
  due = 0;
  selection = 0;
  page = 0;
  taken = 0;
  taken_page = 0;
  outcome = 0;
  status = 0;
  count = 0;
  reply = replicate 128 0;
}

abbrev pub AreNumbersOf : SavedDelivery → Option Delivery → Type 0
AreNumbersOf saved None = saved ≡ no_delivery
AreNumbersOf saved (Some delivery) = AreNumbers saved delivery
