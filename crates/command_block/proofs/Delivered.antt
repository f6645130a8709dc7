-- What the events of a delivery show.
use Rattle.std.proofs.Common.{◌≡◌, ◌≤◌, ◌<◌, ℕ, nat_lt, Bool, true, false, cond, [], Some, None, refl, sym, subst, arith, ap}
use Rattle.std.proofs.lemmas.Bool.{ltb-true}
use Rattle.bus_model.specs.declared.operation.Op.{Op}
use Rattle.conversations.specs.declared.next.Next.{Next}
use Rattle.conversations.specs.declared.next.Next.TheVariants.{Do, Wait, End}
use Rattle.conversations.specs.declared.within.Spent.{Spent}
use Rattle.conversations.specs.declared.pausing.Timed.{Timed}
use Rattle.conversations.specs.Budgets.{next_within}
use Rattle.conversations.specs.Events.{Events}
use Rattle.conversations.specs.Wanted.{IsWait, op_of}
use Rattle.command_block.specs.declared.outcome.Outcome.{Outcome}
use Rattle.command_block.specs.Deliveries.{GoesOnDelivery, IsDelivered, Patient, ToldPatient, attempt_in, begun_delivery, ending_as, patience_for, patient_of, patient_wants, terms_of, timing_for, paged_wants}
use Rattle.command_block.specs.Turns.{ToldDelivery}
use Rattle.command_block.specs.Phases.{begun, known}
use Rattle.command_block.specs.declared.attempt.Timing.{Timing}
use Rattle.command_block.specs.declared.message.Message.{Message}
use Rattle.conversations.specs.declared.pausing.Patience.{Patience}
use Rattle.paged_memory.specs.declared.page_addressing.PageAddressing.TheVariants.{BankAndPage}
use Rattle.paged_memory.specs.declared.page_addressing.KnownPage.TheVariants.{Unknown}
use Rattle.conversations.specs.Selecting.{Knows}
use Rattle.command_block.proofs.Known.{known_shown, rests}

begun_knows : Knows true (Some BankAndPage) Unknown None []
begun_knows = (λ e. refl, (record { awaited = refl; known = λ page. refl }, record { was = λ page e. absurd cc; is = λ may open_now page was. absurd was }))

-- nothing was told yet
begun_told : (message : Message) (timing : Timing) (patience : Patience) → ToldPatient [] (patient_of (begun message timing) patience)
begun_told message timing patience =
    (([], (refl, refl, refl), (begun_knows, ([], refl, record { is = refl; each = tt }))), refl, omega arith)

pub begun_turned : (message : Message) (duration delay : ℕ) → ToldDelivery [] (begun_delivery message duration delay)
begun_turned message duration delay = (begun_told message (timing_for duration delay) (patience_for duration), refl)

pub delivered : (patient : Patient) (events : Events) → ToldPatient events patient → IsDelivered (terms_of patient) events (known (attempt_in patient))
delivered patient events ((paged, adds, (knows, (own, selects, told))), counted, few) = record {
  own = own;
  paged = paged;
  next = op_of (paged_wants patient.conversation.conversation);
  due = patient.conversation.due;
  idle = patient.conversation.idle;
  pauses = adds;
  selects = selects;
  shown = known_shown (attempt_in patient) own told;
  rests = rests (attempt_in patient).message (attempt_in patient).timing own told.each;
  few = subst (λ (n : ℕ). n ≤ patient.limit) (sym counted) few;
}

fewer : {E : Type 0} (steps limit : ℕ) (wanted : Next E) (op : Op) → next_within steps limit wanted ≡ Do op → steps < limit
fewer {E} steps limit (Do op') op asks = by (nat_lt steps limit) (λ e. ltb-true steps limit e) asks where
  by : (few : Bool) → (few ≡ true → steps < limit) → cond {A = Next (Spent E)} few (Do op') (End (record { steps = steps; end = None })) ≡ Do op → steps < limit
  by true is asks = is refl
  by false is asks = absurd cc
fewer steps limit (Wait time) op asks = absurd cc
fewer steps limit (End end) op asks = absurd cc

pub goes_on : (patient : Patient) (events : Events) (op : Op) → patient_wants patient ≡ Do op → ToldPatient events patient → GoesOnDelivery (terms_of patient) events
goes_on patient events op asks told =
    ((known (attempt_in patient), delivered patient events told), subst (λ (n : ℕ). n < patient.limit) (sym told.1) (fewer patient.steps patient.limit _ op asks))

-- what a delivery wants is what is wanted within it, but for its end
pub do_within : (outcome : Outcome) (wanted : Next (Spent (Timed Outcome))) (op : Op) → ending_as outcome wanted ≡ Do op → wanted ≡ Do op
do_within outcome (Do op') op e = let is : op' ≡ op = cc in ap (λ (o : Op). Do o) is
do_within outcome (Wait time) op e = absurd cc
do_within outcome (End spent) op e = absurd cc

pub wait_within : (outcome : Outcome) (wanted : Next (Spent (Timed Outcome))) (time : ℕ) → ending_as outcome wanted ≡ Wait time → wanted ≡ Wait time
wait_within outcome (Do op) time e = absurd cc
wait_within outcome (Wait time') time e = let is : time' ≡ time = cc in ap (λ (n : ℕ). Wait n) is
wait_within outcome (End spent) time e = absurd cc

pub none_within : (outcome : Outcome) (wanted : Next (Spent (Timed Outcome))) → ¬ (IsWait wanted) → ¬ (IsWait (ending_as outcome wanted))
none_within outcome (Do op) none = none
none_within outcome (Wait time) none = none
none_within outcome (End spent) none = none

pub none_ending : (outcome : Outcome) (wanted : Next (Spent (Timed Outcome))) → ¬ (IsWait (ending_as outcome wanted)) → ¬ (IsWait wanted)
none_ending outcome (Do op) none = none
none_ending outcome (Wait time) none = none
none_ending outcome (End spent) none = none
