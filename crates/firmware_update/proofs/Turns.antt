-- Each turn of an update over a bus leaves fewer, and the transactions are few.
use Rattle.std.proofs.Common.{◌≡◌, ℕ, ◌≤◌, ◌*◌, ◌-◌, ◌+◌, ◌<◌, ◌++◌, List, [], ◌∷◌, length, Option, Some, None, Result, refl, sym, subst, arith, ap, ◌∙◌}
use Rattle.std.specs.Prelude.{⊤}
use Rattle.std.proofs.lemmas.List.{length-append}
use Rattle.bus_model.specs.declared.operation.Op.{Op}
use Rattle.bus_model.specs.declared.operation.Reply.{Reply}
use Rattle.bus_model.specs.declared.operation.Step.{Step}
use Rattle.command_block.specs.declared.delivery.Delivery.{Delivery}
use Rattle.command_block.specs.declared.outcome.Outcome.{Outcome}
use Rattle.command_block.specs.Deliveries.{Terms, delivery_wants, terms_of}
use Rattle.command_block.specs.Turns.{ToldDelivery}
use Rattle.conversations.specs.declared.event.Event.TheVariants.{Made, Waited, Lacked, Asked}
use Rattle.conversations.specs.declared.next.Next.{Next}
use Rattle.conversations.specs.declared.next.Next.TheVariants.{Do, Wait, End}
use Rattle.conversations.specs.Events.{Events, made, steps_of}
use Rattle.conversations.specs.Wanted.{IsWait}
use Rattle.firmware_update.specs.declared.command.Command.{Command}
use Rattle.firmware_update.specs.declared.durations.Durations.{Durations}
use Rattle.firmware_update.specs.declared.exchange.Exchange.{Exchange}
use Rattle.firmware_update.specs.declared.session.Session.{Session}
use Rattle.firmware_update.specs.declared.update.Cause.{Cause}
use Rattle.firmware_update.specs.declared.update.Update.{Update}
use Rattle.firmware_update.specs.declared.update.UpdateNext.{UpdateNext}
use Rattle.firmware_update.specs.declared.update.UpdateNext.TheVariants.{Send, Done}
use Rattle.firmware_update.specs.Courses.{IsCourse, IsInHand, IsOnBus, IsOnItsWay, IsWhole, asked_for, delivery_at, going_by, going_on, learned_by, session_at, steps_left, turns_left, wait_turn, wanted}
use Rattle.firmware_update.specs.Exchanges.{History}
use Rattle.firmware_update.specs.Progress.{left, next, taken}
use Rattle.firmware_update.specs.Runs.{IsShort}
use Rattle.firmware_update.proofs.Fewer.{fewer}

few_waits : {E : Type 0} (n : Next E) → wait_turn n ≤ 1
few_waits (Do op) = omega arith
few_waits (Wait time) = omega arith
few_waits (End end) = omega arith

no_turn : {E : Type 0} (n : Next E) → ¬ (IsWait n) → wait_turn n ≡ 0
no_turn (Do op) none = refl
no_turn (Wait time) none = absurd (none tt)
no_turn (End end) none = refl

begun_left : (file : List ℕ) (update : Update) (durations : Durations) (n : UpdateNext) → steps_left (delivery_at file update durations n) ≤ 4096
begun_left file update durations (Send command) = omega arith
begun_left file update durations (Done end) = omega arith

-- after a command there are fewer turns
after_end : (l l' s s' w w' : ℕ) → l' < l → s' ≤ 4096 → w' ≤ 1 → 2 * (l' * 4097 + s') + w' < 2 * (l * 4097 + s) + w
after_end l l' s s' w w' less few wait = omega (arith, less, few, wait)

after_do : (l a b w' : ℕ) → b ≡ a + 1 → b ≤ 4096 → w' ≤ 1 → 2 * (l * 4097 + (4096 - b)) + w' < 2 * (l * 4097 + (4096 - a)) + 0
after_do l a b w' more few wait = omega (arith, more, few, wait)

after_wait : (l a b : ℕ) → b ≡ a → 2 * (l * 4097 + (4096 - b)) + 0 < 2 * (l * 4097 + (4096 - a)) + 1
after_wait l a b same = omega (arith, same)

module _ (file : List ℕ) where
  ended_fewer : (update : Update) (durations : Durations) (command : Command) (outcome : Outcome) (s w : ℕ) → next update ≡ Send command
      → turns_left (session_at file (taken update outcome) (learned_by (next update) outcome durations)) < 2 * (left update * 4097 + s) + w
  ended_fewer update durations command outcome s w sends =
      let later = session_at file (taken update outcome) (learned_by (next update) outcome durations) in
      after_end (left update) (left (taken update outcome)) s (steps_left later.delivery) w (wait_turn (wanted later)) (fewer command update outcome sends)
      (begun_left file (taken update outcome) (learned_by (next update) outcome durations) (next (taken update outcome))) (few_waits (wanted later))

  do_by : (update : Update) (durations : Durations) (command : Command) (new : Delivery) (a : ℕ) (n : Next Outcome) → next update ≡ Send command → new.patient.steps ≡ a + 1 → new.patient.steps ≤ 4096
      → turns_left (going_by file update durations new n) < 2 * (left update * 4097 + (4096 - a)) + 0
  do_by update durations command new a (Do op) sends more few =
      after_do (left update) a new.patient.steps (wait_turn (wanted (record { update = update; durations = durations; delivery = Some new }))) more few (few_waits (wanted (record { update = update; durations = durations; delivery = Some new })))
  do_by update durations command new a (Wait time) sends more few =
      after_do (left update) a new.patient.steps (wait_turn (wanted (record { update = update; durations = durations; delivery = Some new }))) more few (few_waits (wanted (record { update = update; durations = durations; delivery = Some new })))
  do_by update durations command new a (End outcome) sends more few = ended_fewer update durations command outcome (4096 - a) 0 sends

  wait_by : (update : Update) (durations : Durations) (command : Command) (new : Delivery) (a : ℕ) (n : Next Outcome) → delivery_wants new ≡ n → next update ≡ Send command → new.patient.steps ≡ a → ¬ (IsWait n)
      → turns_left (going_by file update durations new n) < 2 * (left update * 4097 + (4096 - a)) + 1
  wait_by update durations command new a (Do op) e sends same none =
      let later : Session = record { update = update; durations = durations; delivery = Some new } in
      let turn : wait_turn (wanted later) ≡ 0 = ap (λ (n : Next Outcome). wait_turn (asked_for n)) e in
      subst (λ (w : ℕ). 2 * (left update * 4097 + (4096 - new.patient.steps)) + w < 2 * (left update * 4097 + (4096 - a)) + 1) (sym turn) (after_wait (left update) a new.patient.steps same)
  wait_by update durations command new a (Wait time) e sends same none = absurd (none tt)
  wait_by update durations command new a (End outcome) e sends same none = ended_fewer update durations command outcome (4096 - a) 1 sends

  limit_of : (old new : Delivery) (durations : Durations) (update : Update) (command : Command) (own : Events) → IsOnItsWay file durations update command own old → terms_of new.patient ≡ terms_of old.patient → new.patient.limit ≡ 4096
  limit_of old new durations update command own way same = ap (λ (t : Terms). t.0) (same ∙ way.terms)

  pub fewer_made : (events : Events) (op : Op) (reply : Reply) (session later : Session) (old new : Delivery) → session.delivery ≡ Some old → later ≡ going_on file session.update session.durations new
      → IsOnBus file events session → wanted session ≡ Do op → ((own : Events) → ToldDelivery own old → ToldDelivery (made op reply ∷ own) new) → terms_of new.patient ≡ terms_of old.patient
      → turns_left later < turns_left session
  fewer_made events op reply session later old new is exact at asks more same =
      let (command, way) = subst (λ (o : Option Delivery). IsInHand file session.durations session.update at.own o) is at.hand in
      let (now, turned) = more at.own way.told in
      let limit = limit_of old new session.durations session.update command at.own way same in
      let steps : new.patient.steps ≡ old.patient.steps + 1 = omega (arith, now.1, way.told.0.1) in
      let few : new.patient.steps ≤ 4096 = subst (λ (n : ℕ). new.patient.steps ≤ n) limit now.2 in
      let less = do_by session.update session.durations command new old.patient.steps (delivery_wants new) way.sends steps few in
      let turn : wait_turn (wanted session) ≡ 0 = ap (λ (n : Next (Result ⊤ Cause)). wait_turn n) asks in
      let whole : 2 * (left session.update * 4097 + (4096 - old.patient.steps)) + 0 ≡ turns_left session =
      sym (λ i. 2 * (left session.update * 4097 + steps_left (is i)) + turn i) in
      subst (λ (s : Session). turns_left s < turns_left session) (sym exact)
      (subst (λ (n : ℕ). turns_left (going_on file session.update session.durations new) < n) whole less)

  pub fewer_waited : (events : Events) (time : ℕ) (session later : Session) (old new : Delivery) → session.delivery ≡ Some old → later ≡ going_on file session.update session.durations new
      → IsOnBus file events session → wanted session ≡ Wait time → ((own : Events) → ToldDelivery own old → ToldDelivery (Waited time ∷ own) new) → ¬ (IsWait (delivery_wants new))
      → turns_left later < turns_left session
  fewer_waited events time session later old new is exact at asks more none =
      let (command, way) = subst (λ (o : Option Delivery). IsInHand file session.durations session.update at.own o) is at.hand in
      let (now, turned) = more at.own way.told in
      let steps : new.patient.steps ≡ old.patient.steps = sym now.1 ∙ way.told.0.1 in
      let less = wait_by session.update session.durations command new old.patient.steps (delivery_wants new) refl way.sends steps none in
      let turn : wait_turn (wanted session) ≡ 1 = ap (λ (n : Next (Result ⊤ Cause)). wait_turn n) asks in
      let whole : 2 * (left session.update * 4097 + (4096 - old.patient.steps)) + 1 ≡ turns_left session =
      sym (λ i. 2 * (left session.update * 4097 + steps_left (is i)) + turn i) in
      subst (λ (s : Session). turns_left s < turns_left session) (sym exact)
      (subst (λ (n : ℕ). turns_left (going_on file session.update session.durations new) < n) whole less)

  -- ---- few transactions

  steps_append : (own earlier : Events) → steps_of (own ++ earlier) ≡ steps_of own ++ steps_of earlier
  steps_append [] earlier = refl
  steps_append (Made step ∷ own) earlier = ap (λ (l : List Step). step ∷ l) (steps_append own earlier)
  steps_append (Waited time ∷ own) earlier = steps_append own earlier
  steps_append (Lacked page ∷ own) earlier = steps_append own earlier
  steps_append (Asked number ∷ own) earlier = steps_append own earlier

  counts : (own earlier : Events) → length (steps_of (own ++ earlier)) ≡ length (steps_of own) + length (steps_of earlier)
  counts own earlier = ap (λ (l : List Step). length l) (steps_append own earlier) ∙ length-append (steps_of own) (steps_of earlier)

  sum_few : (x : Exchange) (before : History) (a b c : ℕ) → c ≡ a + b → a ≤ 4096 → b ≤ length before * 4096 → c ≤ length (x ∷ before) * 4096
  sum_few x before a b c is few rest = omega (arith, is, few, rest)

  pub course_short : (history : History) (events : Events) → IsCourse file history events → length (steps_of events) ≤ length history * 4096
  course_short [] events none = subst (λ (e : Events). length (steps_of e) ≤ 0 * 4096) (sym none) (omega arith)
  course_short (x ∷ before) events (own, earlier, all, (delay, by), course) =
      subst (λ (e : Events). length (steps_of e) ≤ length (x ∷ before) * 4096) (sym all)
      (sum_few x before (length (steps_of own)) (length (steps_of earlier)) (length (steps_of (own ++ earlier))) (counts own earlier) by.few (course_short before earlier course))

  whole_few : (n l m s : ℕ) → n + l ≤ (m + 8) * 34 + 32 → s ≤ n * 4096 → s ≤ (34 * m + 305) * 4096
  whole_few n l m s few steps = omega (arith, few, steps)

  pub whole_short : (events : Events) (update : Update) (end : UpdateNext) → IsWhole file events update end → IsShort (length file) events
  whole_short events update end (history, course, at, is, few) = whole_few (length history) (left update) (length file) (length (steps_of events)) few (course_short history events course)

  hand_short : (session : Session) (own : Events) (o : Option Delivery) → IsInHand file session.durations session.update own o → length (steps_of own) ≤ 4096
  hand_short session own None (none, is_end) = subst (λ (e : Events). length (steps_of e) ≤ 4096) (sym none) (omega arith)
  hand_short session own (Some delivery) (command, way) =
      let limit = limit_of delivery delivery session.durations session.update command own way refl in
      let few = subst (λ (n : ℕ). delivery.patient.steps ≤ n) limit way.told.0.2 in omega (arith, few, way.told.0.1)

  bus_few : (n l m s a b : ℕ) → n + l ≤ (m + 8) * 34 + 32 → s ≡ a + b → a ≤ 4096 → b ≤ n * 4096 → s ≤ (34 * m + 305) * 4096
  bus_few n l m s a b few is own steps = omega (arith, few, is, own, steps)

  pub bus_short : (events : Events) (session : Session) → IsOnBus file events session → IsShort (length file) events
  bus_short events session at =
      subst (λ (e : Events). IsShort (length file) e) (sym at.all)
      (bus_few (length at.history) (left session.update) (length file) (length (steps_of (at.own ++ at.earlier))) (length (steps_of at.own)) (length (steps_of at.earlier)) at.few (counts at.own at.earlier)
      (hand_short session at.own session.delivery at.hand) (course_short at.history at.earlier at.course))
