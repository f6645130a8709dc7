-- A delivery from its beginning on, turn by turn: each operation and each wait is what was wanted then. (this project's own)
use Rattle.std.specs.Prelude.{◌≡◌, ℕ, [], ◌∷◌}
use Rattle.conversations.specs.declared.event.Event.TheVariants.{Made, Waited, Lacked, Asked}
use Rattle.conversations.specs.declared.next.Next.TheVariants.{Do, Wait}
use Rattle.conversations.specs.Events.{Events}
use Rattle.conversations.specs.Wanted.{IsWait}
use Rattle.command_block.specs.declared.delivery.Delivery.{Delivery}
use Rattle.command_block.specs.Deliveries.{Terms, ToldPatient, delivery_after, delivery_wants, patient_of, terms_of}
use Rattle.command_block.specs.Phases.{begun}

-- before its first turn
abbrev pub begun_on : Terms → Delivery
begun_on terms = record { patient = patient_of (begun terms.1.1.1.0 terms.1.1.1.1) terms.1.0 }

-- a delivery is the same one once it has waited, and doesn't wait again at once
pub record IsRested (delivery : Delivery) (rested : Delivery) : Type 0 where
  pub terms : terms_of rested.patient ≡ terms_of delivery.patient
  pub told : (own : Events) (time : ℕ) → delivery_wants delivery ≡ Wait time → ToldPatient own delivery.patient → ToldPatient (Waited time ∷ own) rested.patient
  pub once : ¬ (IsWait (delivery_wants rested))

-- these events, the newest first, make this of a delivery on such terms; what a caller says leaves the terms
abbrev pub HasTurned : Terms → Events → Delivery → Type 0
HasTurned terms [] delivery = delivery ≡ begun_on terms
HasTurned terms (Made step ∷ before) delivery =
    (earlier : Delivery) × HasTurned terms before earlier × (delivery_wants earlier ≡ Do step.op) × (delivery ≡ delivery_after earlier step.reply)
HasTurned terms (Waited time ∷ before) delivery =
    (earlier : Delivery) × HasTurned terms before earlier × (delivery_wants earlier ≡ Wait time) × IsRested earlier delivery
HasTurned terms (Lacked page ∷ before) delivery = ⊥
HasTurned terms (Asked number ∷ before) delivery =
    (earlier : Delivery) × HasTurned terms before earlier × (terms_of delivery.patient ≡ terms_of earlier.patient)

-- it was told these events, turn by turn
abbrev pub ToldDelivery : Events → Delivery → Type 0
ToldDelivery events delivery = ToldPatient events delivery.patient × HasTurned (terms_of delivery.patient) events delivery
