-- An update over a bus delivers whole commands, one after another, and is told what came of each.
use Rattle.std.proofs.Common.{◌≡◌, ℕ, ◌≤◌, ◌+◌, ◌<◌, ◌++◌, ◌==◌, if◌then◌else◌, Bool, true, false, List, [], ◌∷◌, length, Option, Some, None, Result, refl, sym, subst, arith, ap, ◌∙◌}
use Rattle.std.specs.Prelude.{⊤}
use Rattle.bus_model.specs.declared.operation.Op.{Op}
use Rattle.command_block.specs.declared.delivery.Delivery.{Delivery}
use Rattle.command_block.specs.declared.outcome.Outcome.{Outcome}
use Rattle.command_block.specs.Deliveries.{IsDelivered, Terms, attempt_in, begun_delivery, delivery_wants, ending_as, patience_for, patient_of, patient_wants, terms_for, terms_of, timing_for}
use Rattle.command_block.specs.Turns.{ToldDelivery}
use Rattle.command_block.specs.declared.attempt.Phase.TheVariants.{Delayed, Idle}
use Rattle.command_block.specs.declared.message.Message.{Message}
use Rattle.command_block.specs.Phases.{known}
use Rattle.command_block.proofs.Delivered.{begun_turned, delivered}
use Rattle.conversations.specs.declared.event.Event.{Event}
use Rattle.conversations.specs.declared.next.Next.{Next}
use Rattle.conversations.specs.declared.next.Next.TheVariants.{Do, Wait, End}
use Rattle.conversations.specs.declared.pausing.Timed.{Timed}
use Rattle.conversations.specs.declared.within.Spent.{Spent}
use Rattle.conversations.specs.Events.{Events}
use Rattle.firmware_update.specs.declared.command.Command.{Command}
use Rattle.firmware_update.specs.declared.durations.Durations.{Durations}
use Rattle.firmware_update.specs.declared.exchange.Exchange.{Exchange}
use Rattle.firmware_update.specs.declared.session.Session.{Session}
use Rattle.firmware_update.specs.declared.update.Cause.{Cause}
use Rattle.firmware_update.specs.declared.update.Update.{Update}
use Rattle.firmware_update.specs.declared.update.UpdateNext.{UpdateNext}
use Rattle.firmware_update.specs.declared.update.UpdateNext.TheVariants.{Send, Done}
use Rattle.firmware_update.specs.Courses.{IsCourse, IsEnd, IsInHand, IsOnBus, IsSafeOnBus, IsUnderWay, IsWhole, MayBeInHand, asked_for, delay_for, delivery_at, going_by, going_on, learned_by, session_at, stopped, wanted, wanted_by}
use Rattle.firmware_update.specs.Durations.{duration_for, durations_after, learned}
use Rattle.firmware_update.specs.Exchanges.{History}
use Rattle.firmware_update.specs.Payloads.{HasRoom, message_of}
use Rattle.firmware_update.specs.Progress.{IsAt, exchange_of, left, most_left, next, taken}
use Rattle.firmware_update.specs.Safety.{IsSafe, MaySend}
use Rattle.firmware_update.proofs.Accepted.{may_room}
use Rattle.firmware_update.proofs.Safe.{come_may, come_safe}
use Rattle.firmware_update.proofs.Fewer.{fewer}
use Rattle.firmware_update.proofs.Told.{told}

-- ---- the update

-- the command that is sent next has room
pub room_of : (size : ℕ) (history : History) (update : Update) (command : Command) → IsAt size history update → next update ≡ Send command → HasRoom command
room_of size history update command at asks =
    let here = subst (λ (n : ℕ). IsAt n history update) (sym at.sized) at in
    may_room update.size command history (come_may update.size update.fault update.stage update.closing history command here.come asks)

may_of : (size : ℕ) (history : History) (update : Update) (command : Command) → IsAt size history update → next update ≡ Send command → MaySend size command history
may_of size history update command at asks =
    let here = subst (λ (n : ℕ). IsAt n history update) (sym at.sized) at in
    subst (λ (n : ℕ). MaySend n command history) at.sized (come_may update.size update.fault update.stage update.closing history command here.come asks)

pub safe_of : (size : ℕ) (history : History) (update : Update) → IsAt size history update → IsSafe size history
safe_of size history update at =
    let here = subst (λ (n : ℕ). IsAt n history update) (sym at.sized) at in
    subst (λ (n : ℕ). IsSafe n history) at.sized (come_safe update.size update.fault update.stage update.closing history here.come)

told_sized : (size : ℕ) (history : History) (command : Command) (update : Update) (outcome : Outcome) → IsAt size history update → next update ≡ Send command
    → IsAt size (exchange_of command outcome ∷ history) (taken update outcome)
told_sized size history command update outcome at asks =
    let here = subst (λ (n : ℕ). IsAt n history update) (sym at.sized) at in
    subst (λ (n : ℕ). IsAt n (exchange_of command outcome ∷ history) (taken update outcome)) at.sized (told history command update outcome here asks)

-- ---- the command on its way

-- what ends has ended as is known
ended_by : (outcome known_now : Outcome) (n : Next (Spent (Timed Outcome))) → ending_as known_now n ≡ End outcome → known_now ≡ outcome
ended_by outcome known_now (Do op) e = absurd cc
ended_by outcome known_now (Wait time) e = absurd cc
ended_by outcome known_now (End spent) e = cc

ended_as : (delivery : Delivery) (outcome : Outcome) → delivery_wants delivery ≡ End outcome → known (attempt_in delivery.patient) ≡ outcome
ended_as delivery outcome e = ended_by outcome _ (patient_wants delivery.patient) e

few_more : (before : History) (x : Exchange) (l m : ℕ) → length before + l ≤ m → (l' : ℕ) → l' < l → length (x ∷ before) + l' ≤ m
few_more before x l m few l' less = omega (arith, few, less)

-- a delivery that was just begun
pub begun_goes : (message : Message) (duration delay : ℕ) → IsUnderWay (delivery_wants (begun_delivery message duration delay))
begun_goes message duration delay = by (delay == 0) where
  by : (b : Bool) → IsUnderWay (delivery_wants (record { patient = patient_of (record { message = message; timing = timing_for duration delay; phase = if b then Idle else Delayed; outcome = None }) (patience_for duration) }))
  by true = tt
  by false = tt

-- between two commands: these events are the course of the exchanges that the update was told
pub record IsBetween (file : List ℕ) (history : History) (events : Events) (update : Update) (durations : Durations) : Type 0 where
  pub course : IsCourse file history events
  pub come : IsAt (length file) history update
  pub learnt : durations ≡ durations_after history
  pub few : length history + left update ≤ most_left (length file)

module _ (file : List ℕ) where
  -- a delivery that was just begun
  begun_on : (durations : Durations) (update : Update) (n : UpdateNext) → next update ≡ n → IsInHand file durations update [] (delivery_at file update durations n)
  begun_on durations update (Send command) e = (command, record { sends = e; terms = refl; told = begun_turned (message_of file command) (duration_for command durations) (delay_for update); under_way = begun_goes (message_of file command) (duration_for command durations) (delay_for update) })
  begun_on durations update (Done end) e = (refl, subst IsEnd (sym e) tt)

  pub begins : (durations : Durations) (update : Update) (history : History) (events : Events) → IsBetween file history events update durations → IsOnBus file events (session_at file update durations)
  begins durations update history events at = record {
    history = history;
    own = [];
    earlier = events;
    all = refl;
    course = at.course;
    come = at.come;
    durations = at.learnt;
    hand = begun_on durations update (next update) refl;
    few = at.few;
  }

  -- one that was told these events and goes on
  pub goes_under : (update : Update) (durations : Durations) (delivery : Delivery) (history : History) (own earlier : Events) (command : Command) → IsUnderWay (delivery_wants delivery)
      → IsBetween file history earlier update durations → next update ≡ Send command
      → terms_of delivery.patient ≡ terms_for (message_of file command) (duration_for command durations) (delay_for update) → ToldDelivery own delivery
      → IsOnBus file (own ++ earlier) (record { update = update; durations = durations; delivery = Some delivery })
  goes_under update durations delivery history own earlier command under at sends terms told = record {
    history = history;
    own = own;
    earlier = earlier;
    all = refl;
    course = at.course;
    come = at.come;
    durations = at.learnt;
    hand = (command, record { sends = sends; terms = terms; told = told; under_way = under });
    few = at.few;
  }

  -- one that was told these events and has ended
  pub ends_between : (update : Update) (durations : Durations) (delivery : Delivery) (history : History) (own earlier : Events) (command : Command) (outcome : Outcome) → delivery_wants delivery ≡ End outcome
      → IsBetween file history earlier update durations → next update ≡ Send command
      → terms_of delivery.patient ≡ terms_for (message_of file command) (duration_for command durations) (delay_for update) → ToldDelivery own delivery
      → IsBetween file (exchange_of command outcome ∷ history) (own ++ earlier) (taken update outcome) (learned_by (next update) outcome durations)
  ends_between update durations delivery history own earlier command outcome e at sends terms told =
      let shown = subst (λ (o : Outcome). IsDelivered (terms_of delivery.patient) own o) (ended_as delivery outcome e) (delivered delivery.patient own told.0) in
      let same = terms ∙ ap (λ (d : Durations). terms_for (message_of file command) (duration_for command d) (delay_for update)) at.learnt in record {
        course = (own, earlier, refl, (delay_for update, subst (λ (t : Terms). IsDelivered t own outcome) same shown), at.course);
        come = told_sized (length file) history command update outcome at.come sends;
        learnt = ap (λ (n : UpdateNext). learned_by n outcome durations) sends ∙ ap (λ (d : Durations). learned command outcome d) at.learnt;
        few = few_more history (exchange_of command outcome) (left update) (most_left (length file)) at.few (left (taken update outcome)) (fewer command update outcome sends);
      }

  -- it goes on or has ended
  goes_by : (update : Update) (durations : Durations) (delivery : Delivery) (history : History) (own earlier : Events) (command : Command) (n : Next Outcome) → delivery_wants delivery ≡ n
      → IsBetween file history earlier update durations → next update ≡ Send command
      → terms_of delivery.patient ≡ terms_for (message_of file command) (duration_for command durations) (delay_for update) → ToldDelivery own delivery
      → IsOnBus file (own ++ earlier) (going_by file update durations delivery n)
  goes_by update durations delivery history own earlier command (Do op) e at sends terms told =
      goes_under update durations delivery history own earlier command (subst (λ (n : Next Outcome). IsUnderWay n) (sym e) tt) at sends terms told
  goes_by update durations delivery history own earlier command (Wait time) e at sends terms told =
      goes_under update durations delivery history own earlier command (subst (λ (n : Next Outcome). IsUnderWay n) (sym e) tt) at sends terms told
  goes_by update durations delivery history own earlier command (End outcome) e at sends terms told =
      begins (learned_by (next update) outcome durations) (taken update outcome) (exchange_of command outcome ∷ history) (own ++ earlier)
      (ends_between update durations delivery history own earlier command outcome e at sends terms told)

  -- where what is on its way becomes this, by an event
  goes_in : (event : Event) (events : Events) (session : Session) (old new : Delivery) → session.delivery ≡ Some old → IsOnBus file events session
      → ((own : Events) → ToldDelivery own old → ToldDelivery (event ∷ own) new) → terms_of new.patient ≡ terms_of old.patient
      → IsOnBus file (event ∷ events) (going_on file session.update session.durations new)
  goes_in event events session old new is at more same =
      let (command, way) = subst (λ (o : Option Delivery). IsInHand file session.durations session.update at.own o) is at.hand in
      subst (λ (e : Events). IsOnBus file (event ∷ e) (going_on file session.update session.durations new)) (sym at.all)
      (goes_by session.update session.durations new at.history (event ∷ at.own) at.earlier command (delivery_wants new) refl (record { course = at.course; come = at.come; learnt = at.durations; few = at.few }) way.sends (same ∙ way.terms) (more at.own way.told))

  pub goes : (event : Event) (events : Events) (session later : Session) (old new : Delivery) → session.delivery ≡ Some old → later ≡ going_on file session.update session.durations new → IsOnBus file events session
      → ((own : Events) → ToldDelivery own old → ToldDelivery (event ∷ own) new) → terms_of new.patient ≡ terms_of old.patient
      → IsOnBus file (event ∷ events) later
  goes event events session later old new is exact at more same = subst (λ (s : Session). IsOnBus file (event ∷ events) s) (sym exact) (goes_in event events session old new is at more same)

  -- ---- what is wanted

  do_of : (n : Next Outcome) (op : Op) → asked_for n ≡ Do op → n ≡ Do op
  do_of (Do other) op e = let is : other ≡ op = cc in ap (λ (o : Op). Do o) is
  do_of (Wait time) op e = absurd cc
  do_of (End outcome) op e = absurd cc

  wait_of : (n : Next Outcome) (time : ℕ) → asked_for n ≡ Wait time → n ≡ Wait time
  wait_of (Do op) time e = absurd cc
  wait_of (Wait other) time e = let is : other ≡ time = cc in ap (λ (o : ℕ). Wait o) is
  wait_of (End outcome) time e = absurd cc

  pub delivery_does : (session : Session) (delivery : Delivery) (op : Op) → session.delivery ≡ Some delivery → wanted session ≡ Do op → delivery_wants delivery ≡ Do op
  delivery_does session delivery op is asks = do_of (delivery_wants delivery) op (ap (λ (o : Option Delivery). wanted_by session.update o) (sym is) ∙ asks)

  pub delivery_waits : (session : Session) (delivery : Delivery) (time : ℕ) → session.delivery ≡ Some delivery → wanted session ≡ Wait time → delivery_wants delivery ≡ Wait time
  delivery_waits session delivery time is asks = wait_of (delivery_wants delivery) time (ap (λ (o : Option Delivery). wanted_by session.update o) (sym is) ∙ asks)

  no_do : (n : UpdateNext) (op : Op) → stopped n ≡ Do op → ⊥
  no_do (Send command) op e = absurd cc
  no_do (Done end) op e = absurd cc

  no_wait : (n : UpdateNext) (time : ℕ) → stopped n ≡ Wait time → ⊥
  no_wait (Send command) time e = absurd cc
  no_wait (Done end) time e = absurd cc

  pub none_does : (session : Session) (op : Op) → session.delivery ≡ None → wanted session ≡ Do op → ⊥
  none_does session op is asks = no_do (next session.update) op (ap (λ (o : Option Delivery). wanted_by session.update o) (sym is) ∙ asks)

  pub none_waits : (session : Session) (time : ℕ) → session.delivery ≡ None → wanted session ≡ Wait time → ⊥
  none_waits session time is asks = no_wait (next session.update) time (ap (λ (o : Option Delivery). wanted_by session.update o) (sym is) ∙ asks)

  end_of : (end : Result ⊤ Cause) (n : UpdateNext) → stopped n ≡ End end → IsEnd n → n ≡ Done end
  end_of end (Send command) e is = absurd is
  end_of end (Done other) e is = let same : other ≡ end = cc in ap (λ (r : Result ⊤ Cause). Done r) same

  going_ends : (n : Next Outcome) (end : Result ⊤ Cause) → IsUnderWay n → asked_for n ≡ End end → ⊥
  going_ends (Do op) end under e = absurd cc
  going_ends (Wait time) end under e = absurd cc
  going_ends (End outcome) end under e = under

  ends_by : (events : Events) (end : Result ⊤ Cause) (session : Session) (o : Option Delivery) (at : IsOnBus file events session) → IsInHand file session.durations session.update at.own o → wanted_by session.update o ≡ End end
      → IsWhole file events session.update (Done end)
  ends_by events end session None at (none, is_end) asks =
      let all : events ≡ at.earlier = at.all ∙ ap (λ (l : Events). l ++ at.earlier) none in
      (at.history, subst (IsCourse file at.history) (sym all) at.course, at.come, end_of end (next session.update) asks is_end, at.few)
  ends_by events end session (Some delivery) at (command, way) asks = absurd (going_ends (delivery_wants delivery) end way.under_way asks)

  pub ends_bus : (events : Events) (end : Result ⊤ Cause) (session : Session) → IsOnBus file events session → wanted session ≡ End end → IsWhole file events session.update (Done end)
  ends_bus events end session at asks = ends_by events end session session.delivery at at.hand asks

  -- ---- what may be sent

  hand_may : (session : Session) (history : History) (own : Events) (o : Option Delivery) → session.durations ≡ durations_after history → IsAt (length file) history session.update
      → IsInHand file session.durations session.update own o → MayBeInHand file history o
  hand_may session history own None learnt at hand = tt
  hand_may session history own (Some delivery) learnt at (command, way) =
      let same = way.terms ∙ ap (λ (d : Durations). terms_for (message_of file command) (duration_for command d) (delay_for session.update)) learnt in
      (command, delay_for session.update, same, may_of (length file) history session.update command at way.sends)

  pub safe_bus : (events : Events) (session : Session) → IsOnBus file events session → IsSafeOnBus file events session
  safe_bus events session at =
      (at.history, at.own, at.earlier, at.all, at.course, safe_of (length file) at.history session.update at.come, hand_may session at.history at.own session.delivery at.durations at.come at.hand)

  moment_by : (events : Events) (session : Session) (o : Option Delivery) (at : IsOnBus file events session) → IsInHand file session.durations session.update at.own o
      → (history : History) × IsCourse file history events × IsSafe (length file) history
  moment_by events session None at (none, is_end) =
      let all : events ≡ at.earlier = at.all ∙ ap (λ (l : Events). l ++ at.earlier) none in
      (at.history, subst (IsCourse file at.history) (sym all) at.course, safe_of (length file) at.history session.update at.come)
  moment_by events session (Some delivery) at (command, way) =
      let same = way.terms ∙ ap (λ (d : Durations). terms_for (message_of file command) (duration_for command d) (delay_for session.update)) at.durations in
      let outcome = known (attempt_in delivery.patient) in
      let by = subst (λ (t : Terms). IsDelivered t at.own outcome) same (delivered delivery.patient at.own way.told.0) in (
        exchange_of command outcome ∷ at.history,
        (at.own, at.earlier, at.all, (delay_for session.update, by), at.course),
        (may_of (length file) at.history session.update command at.come way.sends, safe_of (length file) at.history session.update at.come),
      )

  -- at each moment what happened is a course of what may be sent, in the midst of a command too
  pub moment : (events : Events) (session : Session) → IsOnBus file events session → (history : History) × IsCourse file history events × IsSafe (length file) history
  moment events session at = moment_by events session session.delivery at at.hand
