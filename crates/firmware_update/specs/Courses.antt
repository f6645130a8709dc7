-- An update over a bus: its commands are delivered one after another. (this project's own)
use Rattle.std.specs.Prelude.{◌≡◌, ◌≤◌, ℕ, ◌*◌, ◌-◌, ◌+◌, nat_lt, List, [], ◌∷◌, ◌++◌, length, Option, Some, None, Result, Err, ⊤, if◌then◌else◌}
use Rattle.command_block.specs.declared.delivery.Delivery.{Delivery}
use Rattle.command_block.specs.declared.outcome.Outcome.{Outcome}
use Rattle.command_block.specs.Deliveries.{IsDelivered, begun_delivery, delivery_wants, most_steps, terms_for, terms_of}
use Rattle.command_block.specs.Turns.{ToldDelivery}
use Rattle.conversations.specs.declared.next.Next.{Next}
use Rattle.conversations.specs.declared.next.Next.TheVariants.{Do, Wait, End}
use Rattle.conversations.specs.Events.{Events}
use Rattle.firmware_update.specs.declared.command.Command.{Command}
use Rattle.firmware_update.specs.declared.durations.Durations.{Durations}
use Rattle.firmware_update.specs.declared.session.Session.{Session}
use Rattle.firmware_update.specs.declared.update.Cause.{Cause}
use Rattle.firmware_update.specs.declared.update.Cause.TheVariants.{GaveUp}
use Rattle.firmware_update.specs.declared.update.Update.{Update}
use Rattle.firmware_update.specs.declared.update.UpdateNext.{UpdateNext}
use Rattle.firmware_update.specs.declared.update.UpdateNext.TheVariants.{Send, Done}
use Rattle.firmware_update.specs.declared.exchange.Exchange.{Exchange}
use Rattle.firmware_update.specs.Durations.{duration_for, durations_after, learned}
use Rattle.firmware_update.specs.Exchanges.{History}
use Rattle.firmware_update.specs.Payloads.{message_of}
use Rattle.firmware_update.specs.Progress.{IsAt, left, most_left, most_tries, next, taken}
use Rattle.firmware_update.specs.Safety.{IsSafe, MaySend}

-- ---- what happens on the bus

-- the command was delivered by these events, for as long as the module says that it may need, and this came of it
abbrev pub IsExchangeOn : List ℕ → Exchange → History → Events → Type 0
IsExchangeOn file x before own =
    (delay : ℕ) × IsDelivered (terms_for (message_of file x.command) (duration_for x.command (durations_after before)) delay) own x.outcome

-- by these events, the newest first, these commands were delivered, with what came of each
abbrev pub IsCourse : List ℕ → History → Events → Type 0
IsCourse file [] events = events ≡ []
IsCourse file (x ∷ before) events = (own : Events) × (earlier : Events) × (events ≡ own ++ earlier) × IsExchangeOn file x before own × IsCourse file before earlier

-- ---- what is done

abbrev pub delay_time : ℕ
delay_time = 1000

-- a command that is sent again comes after a delay
abbrev pub delay_for : Update → ℕ
delay_for update = if nat_lt update.tries most_tries then delay_time else 0

abbrev pub delivery_at : List ℕ → Update → Durations → UpdateNext → Option Delivery
delivery_at file update durations (Send command) = Some (begun_delivery (message_of file command) (duration_for command durations) (delay_for update))
delivery_at file update durations (Done end) = None

abbrev pub session_at : List ℕ → Update → Durations → Session
session_at file update durations = record { update = update; durations = durations; delivery = delivery_at file update durations (next update) }

abbrev pub learned_by : UpdateNext → Outcome → Durations → Durations
learned_by (Send command) outcome durations = learned command outcome durations
learned_by (Done end) outcome durations = durations

-- what is on the way is kept, until it is known what came of it
abbrev pub going_by : List ℕ → Update → Durations → Delivery → Next Outcome → Session
going_by file update durations delivery (Do op) = record { update = update; durations = durations; delivery = Some delivery }
going_by file update durations delivery (Wait time) = record { update = update; durations = durations; delivery = Some delivery }
going_by file update durations delivery (End outcome) = session_at file (taken update outcome) (learned_by (next update) outcome durations)

abbrev pub going_on : List ℕ → Update → Durations → Delivery → Session
going_on file update durations delivery = going_by file update durations delivery (delivery_wants delivery)

-- what is on the way has not ended, and where nothing is the update has
abbrev pub asked_for : Next Outcome → Next (Result ⊤ Cause)
asked_for (Do op) = Do op
asked_for (Wait time) = Wait time
asked_for (End outcome) = End (Err GaveUp)

abbrev pub stopped : UpdateNext → Next (Result ⊤ Cause)
stopped (Send command) = End (Err GaveUp)
stopped (Done end) = End end

abbrev pub wanted_by : Update → Option Delivery → Next (Result ⊤ Cause)
wanted_by update None = stopped (next update)
wanted_by update (Some delivery) = asked_for (delivery_wants delivery)

abbrev pub wanted : Session → Next (Result ⊤ Cause)
wanted session = wanted_by session.update session.delivery

-- ---- how far it has come

abbrev pub IsEnd : UpdateNext → Type 0
IsEnd (Send command) = ⊥
IsEnd (Done end) = Unit {0}

-- an operation or a wait is wanted
abbrev pub IsUnderWay : {E : Type 0} → Next E → Type 0
IsUnderWay (Do op) = Unit {0}
IsUnderWay (Wait time) = Unit {0}
IsUnderWay (End end) = ⊥

-- this is the delivery of a command, which was told these events and hasn't ended
pub record IsOnItsWay (file : List ℕ) (durations : Durations) (update : Update) (command : Command) (own : Events) (delivery : Delivery) : Type 0 where
  pub sends : next update ≡ Send command
  pub terms : terms_of delivery.patient ≡ terms_for (message_of file command) (duration_for command durations) (delay_for update)
  pub told : ToldDelivery own delivery
  pub under_way : IsUnderWay (delivery_wants delivery)

abbrev pub IsInHand : List ℕ → Durations → Update → Events → Option Delivery → Type 0
IsInHand file durations update own None = (own ≡ []) × IsEnd (next update)
IsInHand file durations update own (Some delivery) = (command : Command) × IsOnItsWay file durations update command own delivery

-- these events happened, the newest first: those of the command on its way, and before them a course that the update was told
pub record IsOnBus (file : List ℕ) (events : Events) (session : Session) : Type 0 where
  pub history : History
  pub own : Events
  pub earlier : Events
  pub all : events ≡ own ++ earlier
  pub course : IsCourse file history earlier
  pub come : IsAt (length file) history session.update
  pub durations : session.durations ≡ durations_after history
  pub hand : IsInHand file session.durations session.update own session.delivery
  pub few : length history + left session.update ≤ most_left (length file)

-- the command on its way, if there is one, may be sent
abbrev pub MayBeInHand : List ℕ → History → Option Delivery → Type 0
MayBeInHand file history None = Unit {0}
MayBeInHand file history (Some delivery) =
    (command : Command) × (delay : ℕ) × (terms_of delivery.patient ≡ terms_for (message_of file command) (duration_for command (durations_after history)) delay)
    × MaySend (length file) command history

-- each command so far might be sent, and so may the one on its way
abbrev pub IsSafeOnBus : List ℕ → Events → Session → Type 0
IsSafeOnBus file events session =
    (history : History) × (own : Events) × (earlier : Events) × (events ≡ own ++ earlier) × IsCourse file history earlier
    × IsSafe (length file) history × MayBeInHand file history session.delivery

-- the whole course of an update that was told these exchanges
abbrev pub IsWhole : List ℕ → Events → Update → UpdateNext → Type 0
IsWhole file events update end =
    (history : History) × IsCourse file history events × IsAt (length file) history update × (next update ≡ end) × (length history + left update ≤ most_left (length file))

-- ---- how many turns are left

abbrev pub steps_left : Option Delivery → ℕ
steps_left None = 0
steps_left (Some delivery) = most_steps - delivery.patient.steps

abbrev pub session_left : Session → ℕ
session_left session = left session.update * 4097 + steps_left session.delivery

abbrev pub wait_turn : {E : Type 0} → Next E → ℕ
wait_turn (Do op) = 0
wait_turn (Wait time) = 1
wait_turn (End end) = 0

abbrev pub turns_left : Session → ℕ
turns_left session = 2 * session_left session + wait_turn (wanted session)
