-- A command that is delivered to its end, or until the bus stops, is so many turns of an update.
use Rattle.std.proofs.Common.{◌≡◌, ◌++◌, ◌<◌, ℕ, nat_lt, Bool, true, false, cond, List, [], ◌∷◌, length, Option, Some, None, refl, sym, subst, ap, arith, ◌∙◌}
use Rattle.bus_model.specs.declared.operation.Op.{Op}
use Rattle.bus_model.specs.declared.operation.Step.{Step}
use Rattle.command_block.specs.declared.delivery.Delivery.{Delivery}
use Rattle.command_block.specs.declared.outcome.Outcome.{Outcome}
use Rattle.command_block.specs.Deliveries.{GoesOnDelivery, IsDelivered, Terms, begun_delivery, delivery_wants, most_steps, terms_for, terms_of}
use Rattle.command_block.specs.Turns.{HasTurned, ToldDelivery, begun_on}
use Rattle.command_block.proofs.Delivered.{begun_turned}
use Rattle.conversations.specs.declared.event.Event.TheVariants.{Made, Waited, Lacked, Asked}
use Rattle.conversations.specs.declared.next.Next.{Next}
use Rattle.conversations.specs.declared.next.Next.TheVariants.{Do, Wait, End}
use Rattle.conversations.specs.declared.within.Spent.{Spent}
use Rattle.conversations.specs.declared.within.Within.{Within}
use Rattle.conversations.specs.Budgets.{HasEnded, HasSpent, next_within}
use Rattle.conversations.specs.Carried.{Happens}
use Rattle.conversations.specs.Events.{Events}
use Rattle.firmware_update.specs.declared.command.Command.{Command}
use Rattle.firmware_update.specs.declared.session.Session.{Session}
use Rattle.firmware_update.specs.declared.update.UpdateNext.{UpdateNext}
use Rattle.firmware_update.specs.declared.update.UpdateNext.TheVariants.{Send, Done}
use Rattle.firmware_update.specs.Courses.{IsOnBus, IsUnderWay, asked_for, delay_for, delivery_at, going_by, going_on, learned_by, session_at}
use Rattle.firmware_update.specs.Durations.{duration_for}
use Rattle.firmware_update.specs.Exchanges.{History}
use Rattle.firmware_update.specs.Payloads.{HasRoom, message_of}
use Rattle.firmware_update.specs.Progress.{exchange_of, left, next, taken}
use Rattle.firmware_update.specs.Turned as update
use Rattle.firmware_update.specs.Turned.{begun_session}
use Rattle.firmware_update.proofs.Fewer.{fewer}
use Rattle.firmware_update.proofs.OnBus.{IsBetween, begun_goes, ends_between, goes_under, room_of}

-- what happens in turn happens
pub happens_on : {B : Type 0} (makes : B → Step → B → Type 0) (passes : B → ℕ → B → Type 0) (old mid new : B) (own earlier : Events)
    → Happens makes passes old mid earlier → Happens makes passes mid new own → Happens makes passes old new (own ++ earlier)
happens_on {B} makes passes old mid new [] earlier before same = subst (λ (b : B). Happens makes passes old b earlier) same before
happens_on makes passes old mid new (Made step ∷ own) earlier before (last, happens, is) = (last, happens_on makes passes old mid last own earlier before happens, is)
happens_on makes passes old mid new (Waited time ∷ own) earlier before (last, happens, is) = (last, happens_on makes passes old mid last own earlier before happens, is)
happens_on makes passes old mid new (Lacked page ∷ own) earlier before never = absurd never
happens_on makes passes old mid new (Asked number ∷ own) earlier before never = absurd never

pub happens_to : {B : Type 0} (makes : B → Step → B → Type 0) (passes : B → ℕ → B → Type 0) (old mid last new : B) (own earlier : Events)
    → Happens makes passes old mid earlier → Happens makes passes mid last own → last ≡ new → Happens makes passes old new (own ++ earlier)
happens_to {B} makes passes old mid last new own earlier before happens same =
    subst (λ (b : B). Happens makes passes old b (own ++ earlier)) same (happens_on makes passes old mid last own earlier before happens)

-- a delivery that makes no more than it may has ended
ends_so : (terms : Terms) (own : Events) (steps limit : ℕ) (n : Next Outcome) (spent : Spent Outcome) → next_within steps limit n ≡ End spent
    → HasEnded terms.0 (GoesOnDelivery terms) (IsDelivered terms) own spent.end → (outcome : Outcome) × (n ≡ End outcome)
ends_so terms own steps limit (Do op) spent asks ended = by (nat_lt steps limit) asks where
  by : (b : Bool) → cond {A = Next (Spent Outcome)} b (Do op) (End (record { steps = steps; end = None })) ≡ End spent → (outcome : Outcome) × (◌≡◌ {A = Next Outcome} (Do op) (End outcome))
  by true e = absurd cc
  by false e =
      let gave : Spent Outcome = record { steps = steps; end = None } in
      let is : spent ≡ gave = cc in
      let (all, goes) = subst (λ (s : Spent Outcome). HasEnded terms.0 (GoesOnDelivery terms) (IsDelivered terms) own s.end) is ended in
      absurd (omega (arith, all, goes.1))
ends_so terms own steps limit (Wait time) spent asks ended = absurd cc
ends_so terms own steps limit (End outcome) spent asks ended = (outcome, refl)

-- it makes an operation, and the bus doesn't
pub does_within : (steps limit : ℕ) (n : Next Outcome) (op : Op) → next_within steps limit n ≡ Do op → n ≡ Do op
does_within steps limit (Do other) op asks = by (nat_lt steps limit) asks where
  by : (b : Bool) → cond {A = Next (Spent Outcome)} b (Do other) (End (record { steps = steps; end = None })) ≡ Do op → ◌≡◌ {A = Next Outcome} (Do other) (Do op)
  by true e = let is : other ≡ op = cc in ap (λ (o : Op). Do o) is
  by false e = absurd cc
does_within steps limit (Wait time) op asks = absurd cc
does_within steps limit (End outcome) op asks = absurd cc

module _ (file : List ℕ) where
  -- between two commands an update was told these events, turn by turn, and its next command is still to be delivered
  pub record IsDue (events : Events) (session : Session) : Type 0 where
    pub history : History
    pub between : IsBetween file history events session.update session.durations
    pub turned : update.HasTurned file events session
    pub due : session.delivery ≡ delivery_at file session.update session.durations (next session.update)

  pub begins_due : IsDue [] (begun_session file)
  begins_due = record {
    history = [];
    between = record { course = refl; come = record { sized = refl; come = (tt, refl) }; learnt = refl; few = omega arith };
    turned = refl;
    due = refl;
  }

  module _ (session : Session) where
    abbrev sending : Delivery → Session
    sending delivery = record { update = session.update; durations = session.durations; delivery = Some delivery }

    abbrev going : Delivery → Session
    going delivery = going_on file session.update session.durations delivery

    kept_by : (delivery : Delivery) (n : Next Outcome) → IsUnderWay n → going_by file session.update session.durations delivery n ≡ sending delivery
    kept_by delivery (Do op) under = refl
    kept_by delivery (Wait time) under = refl
    kept_by delivery (End outcome) under = absurd under

    kept : (delivery : Delivery) (n : Next Outcome) → delivery_wants delivery ≡ n → IsUnderWay n → going delivery ≡ sending delivery
    kept delivery n is under = kept_by delivery (delivery_wants delivery) (subst (λ (n : Next Outcome). IsUnderWay n) (sym is) under)

    -- the turns of a delivery are turns of the update
    turns : {B : Type 0} (makes : B → Step → B → Type 0) (passes : B → ℕ → B → Type 0) (mid new : B) (terms : Terms) (own earlier : Events) (delivery : Delivery) → IsUnderWay (delivery_wants (begun_on terms))
        → Happens makes passes mid new own → HasTurned terms own delivery → update.HasTurned file earlier (sending (begun_on terms)) → update.HasTurned file (own ++ earlier) (going delivery)
    turns makes passes mid new terms [] earlier delivery under happens is at =
        subst (λ (s : Session). update.HasTurned file earlier s) (sym (ap going is ∙ kept (begun_on terms) (delivery_wants (begun_on terms)) refl under)) at
    turns makes passes mid new terms (Made step ∷ own) earlier delivery under (last, happens, makes_it) (before, turned, asks, is) at =
        let so = turns makes passes mid last terms own earlier before under happens turned at in
        (sending before, subst (λ (s : Session). update.HasTurned file (own ++ earlier) s) (kept before (Do step.op) asks tt) so, ap asked_for asks, ap going is)
    turns makes passes mid new terms (Waited time ∷ own) earlier delivery under (last, happens, passes_it) (before, turned, asks, rested) at =
        let so = turns makes passes mid last terms own earlier before under happens turned at in
        (sending before, subst (λ (s : Session). update.HasTurned file (own ++ earlier) s) (kept before (Wait time) asks tt) so, ap asked_for asks, (delivery, rested, refl))
    turns makes passes mid new terms (Lacked page ∷ own) earlier delivery under never turned at = absurd never
    turns makes passes mid new terms (Asked number ∷ own) earlier delivery under never turned at = absurd never

    sends_by : (n : UpdateNext) (delivery : Delivery) → delivery_at file session.update session.durations n ≡ Some delivery
        → (command : Command) × (n ≡ Send command) × (delivery ≡ begun_delivery (message_of file command) (duration_for command session.durations) (delay_for session.update))
    sends_by (Send command) delivery e =
        let is : begun_delivery (message_of file command) (duration_for command session.durations) (delay_for session.update) ≡ delivery = cc in
        (command, refl, sym is)
    sends_by (Done end) delivery e = absurd cc

    module _ (events : Events) (at : IsDue events session) (first : Delivery) (is : session.delivery ≡ Some first) where
      sends : (command : Command) × (next session.update ≡ Send command) × (first ≡ begun_delivery (message_of file command) (duration_for command session.durations) (delay_for session.update))
      sends = sends_by (next session.update) first (sym at.due ∙ is)

      pub told_nothing : ToldDelivery [] first
      told_nothing =
          let (command, asks, begun) = sends in
          subst (λ (d : Delivery). ToldDelivery [] d) (sym begun) (begun_turned (message_of file command) (duration_for command session.durations) (delay_for session.update))

      pub ends : (within : Within Delivery) (own : Events) (steps limit : ℕ) (delivery : Delivery) (spent : Spent Outcome) → within ≡ record { conversation = first; steps = 0; limit = most_steps }
          → next_within steps limit (delivery_wants delivery) ≡ End spent
          → HasSpent within.limit (GoesOnDelivery (terms_of within.conversation.patient)) (IsDelivered (terms_of within.conversation.patient)) own spent → (outcome : Outcome) × (delivery_wants delivery ≡ End outcome)
      ends within own steps limit delivery spent is_within asks has =
          let (command, sent, begun) = sends in
          let most = terms_for (message_of file command) (duration_for command session.durations) (delay_for session.update) in
          let same : within ≡ record { conversation = begun_delivery (message_of file command) (duration_for command session.durations) (delay_for session.update); steps = 0; limit = most_steps } =
          is_within ∙ ap (λ (d : Delivery). record { conversation = d; steps = 0; limit = most_steps }) begun in
          let spent_so = subst (λ (w : Within Delivery). HasSpent w.limit (GoesOnDelivery (terms_of w.conversation.patient)) (IsDelivered (terms_of w.conversation.patient)) own spent) same has in
          ends_so most own steps limit (delivery_wants delivery) spent asks spent_so.ended

      under : IsUnderWay (delivery_wants first)
      under =
          let (command, asks, begun) = sends in
          subst (λ (d : Delivery). IsUnderWay (delivery_wants d)) (sym begun) (begun_goes (message_of file command) (duration_for command session.durations) (delay_for session.update))

      module _ {B : Type 0} (makes : B → Step → B → Type 0) (passes : B → ℕ → B → Type 0) (mid new : B) (own : Events) (delivery : Delivery)
          (happens : Happens makes passes mid new own) (told : ToldDelivery own delivery) (same : terms_of delivery.patient ≡ terms_of first.patient) where
        turned : update.HasTurned file (own ++ events) (going delivery)
        turned =
            let (command, asks, begun) = sends in
            let start : first ≡ begun_on (terms_of delivery.patient) = begun ∙ sym (ap begun_on (same ∙ ap (λ (d : Delivery). terms_of d.patient) begun)) in
            let here : session ≡ sending first = ap (λ (o : Option Delivery). record { update = session.update; durations = session.durations; delivery = o }) is in
            turns makes passes mid new (terms_of delivery.patient) own events delivery (subst (λ (d : Delivery). IsUnderWay (delivery_wants d)) start under) happens told.1
            (subst (λ (d : Delivery). update.HasTurned file events (sending d)) start (subst (λ (s : Session). update.HasTurned file events s) here at.turned))

        -- where the bus stops
        pub stops : (op : Op) → delivery_wants delivery ≡ Do op → update.HasTurned file (own ++ events) (sending delivery) × IsOnBus file (own ++ events) (sending delivery)
        stops op asks =
            let (command, sent, begun) = sends in (
              subst (λ (s : Session). update.HasTurned file (own ++ events) s) (kept delivery (Do op) asks tt) turned,
              goes_under file session.update session.durations delivery at.history own events command (subst (λ (n : Next Outcome). IsUnderWay n) (sym asks) tt) at.between sent
                  (same ∙ ap (λ (d : Delivery). terms_of d.patient) begun) told,
            )

        -- where it ends
        module _ (outcome : Outcome) (asks : delivery_wants delivery ≡ End outcome) where
          abbrev later : Session
          later = session_at file (taken session.update outcome) (learned_by (next session.update) outcome session.durations)

          goes : going delivery ≡ later
          goes = ap (λ (n : Next Outcome). going_by file session.update session.durations delivery n) asks

          between : (history : History) × IsBetween file history (own ++ events) later.update later.durations
          between =
              let (command, sent, begun) = sends in (
                exchange_of command outcome ∷ at.history,
                ends_between file session.update session.durations delivery at.history own events command outcome asks at.between sent (same ∙ ap (λ (d : Delivery). terms_of d.patient) begun) told,
              )

          pub has_room : (command : Command) → next (taken session.update outcome) ≡ Send command → HasRoom command
          has_room command sent = let (history, is_between) = between in room_of (length file) history (taken session.update outcome) command is_between.come sent

          pub ends_due : IsDue (own ++ events) (going delivery)
          ends_due =
              let (history, is_between) = between in record {
                history = history;
                between = subst (λ (s : Session). IsBetween file history (own ++ events) s.update s.durations) (sym goes) is_between;
                turned = turned;
                due = subst (λ (s : Session). s.delivery ≡ delivery_at file s.update s.durations (next s.update)) (sym goes) refl;
              }

          pub leaves_fewer : left (going delivery).update < left session.update
          leaves_fewer =
              let (command, sent, begun) = sends in
              subst (λ (s : Session). left s.update < left session.update) (sym goes) (fewer command session.update outcome sent)
