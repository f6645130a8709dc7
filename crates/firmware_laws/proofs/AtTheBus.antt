-- What an attempt shows is what the module did, if what that shows is its own.
use Rattle.std.proofs.Common.{◌≡◌, ◌<◌, ◌≤◌, ℕ, zero, suc, nat_lt, Bool, true, false, cond, List, [], ◌∷◌, length, Option, Some, None, refl, sym, subst, ap, inl, inr, ◌∙◌, arith}
use Rattle.arrayvec.specs.ArrayVec.{ArrayVec}
use Rattle.bus_model.specs.declared.operation.Op.{Op}
use Rattle.bus_model.specs.declared.operation.Op.TheVariants.{Fetch, Store}
use Rattle.bus_model.specs.declared.operation.Step.{Step}
use Rattle.command_block.specs.declared.message.Message.{Message}
use Rattle.command_block.specs.declared.outcome.Outcome.{Outcome}
use Rattle.command_block.specs.declared.outcome.Outcome.TheVariants.{Succeeded, Failed, Unsent, Unknown}
use Rattle.command_block.specs.Attempts.{Gives, History, IsAttempt, IsCarriedOut, IsFilled, IsHeaded, IsPreparing, IsRead, IsSent, NoTrigger, Replies, ShowsFailure, Stands}
use Rattle.command_block.specs.Operations.{head, piece, read_back, read_count, read_reply, read_status, trigger}
use Rattle.command_block.specs.Phases.{filling}
use Rattle.command_block.proofs.Told.{carried_sent}
use Rattle.conversations.specs.Events.{Events, steps_of}
use Rattle.firmware_update.specs.Courses.{IsCourse}
use Rattle.firmware_update.specs.Exchanges as exchanges
use Rattle.firmware_update.specs.Payloads.{message_of}
use Rattle.firmware_laws.specs.AtTheBus.{ComesOnBus, HasTaken, Leaves, ShowsStatus, StandsAfter, TookNone}
use Rattle.firmware_laws.specs.Heard.{heard, unheard, unread, without_reply}
use Rattle.firmware_laws.specs.Modules.{Answer, ComesTo, Conduct, Endures, Firmware, Passes}
use Rattle.firmware_laws.proofs.Endures.{comes_on}
use Rattle.firmware_laws.proofs.Heard.{as_it_is, as_unheard, as_unread, three}

-- where a fetch begins
abbrev fetched_at : Op → ℕ
fetched_at (Fetch dev offset count) = offset
fetched_at (Store dev offset bytes) = 0

not_both : (step : Step) (read stored : Op) → IsRead read → (IsRead stored → ⊥) → step.op ≡ read → step.op ≡ stored → ⊥
not_both step read stored is none one other = none (subst IsRead (sym one ∙ other) is)

succeeded_of : (answer : Answer) (outcome : Outcome) → answer.outcome ≡ Some outcome → ShowsStatus outcome 1 → (reply : ArrayVec ℕ) × (answer.outcome ≡ Some (Succeeded reply))
succeeded_of answer (Succeeded reply) e shows = (reply, e)
succeeded_of answer (Failed code) e (is, least) = absurd (omega (arith, is, least))
succeeded_of answer Unsent e shows = absurd shows
succeeded_of answer Unknown e shows = absurd shows

failed_of : (answer : Answer) (outcome : Outcome) (code : ℕ) → 64 ≤ code → answer.outcome ≡ Some outcome → ShowsStatus outcome code → answer.outcome ≡ Some (Failed code)
failed_of answer (Succeeded reply) code least e shows = absurd (omega (arith, least, shows))
failed_of answer (Failed other) code least e (is, more) = e ∙ ap (λ (n : ℕ). Some (Failed n)) (sym is)
failed_of answer Unsent code least e shows = absurd shows
failed_of answer Unknown code least e shows = absurd shows

module _ (sent : Message) where
  filling_stores : (at : ℕ) → IsRead (filling sent at) → ⊥
  filling_stores at = by (nat_lt at (length sent.body.items)) where
    by : (b : Bool) → IsRead (cond b (piece sent at) (head sent)) → ⊥
    by true read = read
    by false read = read

  -- ---- what was sent was taken

  sent_taken : (h : History) → IsSent sent h → TookNone sent h → ⊥
  sent_taken [] now none = now
  sent_taken (step ∷ before) (inl (read, now)) none = sent_taken before now none.1
  sent_taken (step ∷ before) (inr ((is, done), headed)) none = none.0 is done

  failed_taken : (code : ℕ) (h : History) → ShowsFailure sent code h → TookNone sent h → ⊥
  failed_taken code [] says none = says
  failed_taken code (step ∷ before) (gives, now) none = sent_taken before now none.1

  -- ---- no length of a reply was read before the id was stored

  count_apart : (step : Step) (bytes : List ℕ) → step.op ≡ read_status → Gives read_count bytes step → ⊥
  count_apart step bytes is gives = let e : 37 ≡ 134 = ap (λ (o : Op). fetched_at o) (sym is ∙ gives.0) in omega (arith, e)

  back_apart : (at : ℕ) (step : Step) (bytes : List ℕ) → step.op ≡ read_back sent at → Gives read_count bytes step → ⊥
  back_apart at step bytes is gives = let e : 136 ≡ 134 = ap (λ (o : Op). fetched_at o) (sym is ∙ gives.0) in omega (arith, e)

  preparing_none : (bytes : List ℕ) (h : History) → IsPreparing h → Stands (Gives read_count bytes) h → ⊥
  preparing_none bytes [] at stands = stands
  preparing_none bytes (step ∷ before) (is, at) (inl gives) = count_apart step bytes is gives
  preparing_none bytes (step ∷ before) (is, at) (inr stands) = preparing_none bytes before at stands

  filled_none : (bytes : List ℕ) (doubted : Bool) (at : ℕ) (h : History) → IsFilled sent doubted at h → Stands (Gives read_count bytes) h → ⊥
  filled_none bytes doubted at [] now stands = stands
  filled_none bytes true at (step ∷ before) (inl (tried, now)) (inl gives) = not_both step read_count (filling sent at) tt (filling_stores at) gives.0 tried.0
  filled_none bytes true at (step ∷ before) (inl (tried, now)) (inr stands) = filled_none bytes false at before now stands
  filled_none bytes true at (step ∷ before) (inr (unread, now)) (inl gives) = back_apart at step bytes unread.0 gives
  filled_none bytes true at (step ∷ before) (inr (unread, now)) (inr stands) = filled_none bytes true at before now stands
  filled_none bytes false at (step ∷ before) (inl (first, (status, few, read), now)) (inl gives) = count_apart step bytes read.0 gives
  filled_none bytes false at (step ∷ before) (inl (first, idle, now)) (inr stands) = preparing_none bytes before now stands
  filled_none bytes false at (step ∷ before) (inr (inl (first, tried, now))) (inl gives) = not_both step read_count (filling sent at) tt (filling_stores at) gives.0 tried.0
  filled_none bytes false at (step ∷ before) (inr (inl (first, tried, now))) (inr stands) = filled_none bytes false at before now stands
  filled_none bytes false at (step ∷ before) (inr (inr (inl (earlier, is, less, taken, now)))) (inl gives) = not_both step read_count (piece sent earlier) tt (λ read. read) gives.0 taken.0
  filled_none bytes false at (step ∷ before) (inr (inr (inl (earlier, is, less, taken, now)))) (inr stands) = filled_none bytes false earlier before now stands
  filled_none bytes false at (step ∷ before) (inr (inr (inr (inl (back, now))))) (inl gives) = back_apart at step bytes back.0 gives
  filled_none bytes false at (step ∷ before) (inr (inr (inr (inl (back, now))))) (inr stands) = filled_none bytes true at before now stands
  filled_none bytes false at (step ∷ before) (inr (inr (inr (inr (first, (earlier, other, differs, back, now)))))) (inl gives) = back_apart earlier step bytes back.0 gives
  filled_none bytes false at (step ∷ before) (inr (inr (inr (inr (first, (earlier, other, differs, back, now)))))) (inr stands) = filled_none bytes true earlier before now stands

  headed_none : (bytes : List ℕ) (h : History) → IsHeaded sent h → Stands (Gives read_count bytes) h → ⊥
  headed_none bytes [] now stands = stands
  headed_none bytes (step ∷ before) (taken, rest) (inl gives) = not_both step read_count (head sent) tt (λ read. read) gives.0 taken.0
  headed_none bytes (step ∷ before) (taken, (at, all, now)) (inr stands) = filled_none bytes false at before now stands

  -- ---- what is shown is of this message

  module _ (conduct : Conduct) (before : Firmware) (answer : Answer) where
    no_trigger : (h : History) → NoTrigger sent h → HasTaken conduct sent before h answer → ⊥
    no_trigger [] none taken = taken
    no_trigger (step ∷ earlier) none (inl (is, rest)) = none.0 is
    no_trigger (step ∷ earlier) none (inr (own, taken)) = no_trigger earlier none.1 taken

    choice_of : (h : History) → HasTaken conduct sent before h answer → (choice : ℕ) × (answer ≡ conduct sent choice before)
    choice_of [] taken = absurd taken
    choice_of (step ∷ earlier) (inl (is, given)) = given
    choice_of (step ∷ earlier) (inr (own, taken)) = choice_of earlier taken

    carried_own : (h : History) → IsCarriedOut sent h → HasTaken conduct sent before h answer → (reply : ArrayVec ℕ) × (answer.outcome ≡ Some (Succeeded reply))
    carried_own [] now taken = absurd now
    carried_own (step ∷ earlier) (inl (read, now)) (inl (is, given)) = absurd (subst IsRead is read)
    carried_own (step ∷ earlier) (inl (read, now)) (inr (own, taken)) = carried_own earlier now taken
    carried_own (step ∷ earlier) (inr (gives, now)) (inl (is, given)) = absurd (not_both step read_status (trigger sent) tt (λ read. read) gives.0 is)
    carried_own (step ∷ earlier) (inr (gives, now)) (inr (own, taken)) = let (outcome, e, shows) = own.status 1 gives (inl refl) in succeeded_of answer outcome e shows

    failed_own : (code : ℕ) (h : History) → 64 ≤ code → code < 128 → ShowsFailure sent code h → HasTaken conduct sent before h answer → answer.outcome ≡ Some (Failed code)
    failed_own code [] least most says taken = absurd taken
    failed_own code (step ∷ earlier) least most (gives, now) (inl (is, given)) = absurd (not_both step read_status (trigger sent) tt (λ read. read) gives.0 is)
    failed_own code (step ∷ earlier) least most (gives, now) (inr (own, taken)) = let (outcome, e, shows) = own.status code gives (inr (least, most)) in failed_of answer outcome code least e shows

    count_own : (count check : ℕ) → 0 < count → (h : History) → IsSent sent h → HasTaken conduct sent before h answer → Stands (Gives read_count (count ∷ check ∷ [])) h
        → (reply : ArrayVec ℕ) × (answer.outcome ≡ Some (Succeeded reply)) × (count ≡ length reply.items)
    count_own count check some [] now taken stands = absurd now
    count_own count check some (step ∷ earlier) (inl (read, now)) (inl (is, given)) stands = absurd (subst IsRead is read)
    count_own count check some (step ∷ earlier) (inl (read, now)) (inr (own, taken)) (inl gives) = own.length count check gives some
    count_own count check some (step ∷ earlier) (inl (read, now)) (inr (own, taken)) (inr stands) = count_own count check some earlier now taken stands
    count_own count check some (step ∷ earlier) (inr ((is, done), headed)) taken (inl gives) = absurd (not_both step read_count (trigger sent) tt (λ read. read) gives.0 is)
    count_own count check some (step ∷ earlier) (inr ((is, done), headed)) taken (inr stands) = absurd (headed_none (count ∷ check ∷ []) earlier headed stands)

    sent_before : (step : Step) (earlier : History) → IsCarriedOut sent (step ∷ earlier) → IsSent sent earlier
    sent_before step earlier (inl (read, now)) = carried_sent sent earlier now
    sent_before step earlier (inr (gives, now)) = now

    reply_own : (reply : List ℕ) (h : History) → IsCarriedOut sent h → HasTaken conduct sent before h answer → Replies reply h → answer.outcome ≡ Some (Succeeded (record { items = reply }))
    reply_own reply [] now taken replies = absurd replies
    reply_own reply (step ∷ earlier) now (inl (is, given)) (count, check, gives, some, most, right, stands) = absurd (not_both step (read_reply count) (trigger sent) tt (λ read. read) gives.0 is)
    reply_own reply (step ∷ earlier) now (inr (own, taken)) (count, check, gives, some, most, right, stands) =
        let (whole, e, long) = count_own count check some earlier (sent_before step earlier now) taken stands in
        let same : reply ≡ whole.items = own.reply whole reply e (subst (λ (n : ℕ). Gives (read_reply n) reply step) long gives) in
        e ∙ ap (λ (l : List ℕ). Some (Succeeded (record { items = l }))) (sym same)

-- ---- so the module as it is heard of did that

endures_if : (answer : Answer) (outcome : Outcome) (last : Firmware) → answer.outcome ≡ Some outcome → Leaves answer last → Endures answer.after last
endures_if answer outcome last e (inl (other, is, endures)) = endures
endures_if answer outcome last e (inr (none, loses)) = absurd (let clash : ◌≡◌ {A = Option Outcome} None (Some outcome) = sym none ∙ e in cc)

module _ (conduct : Conduct) (sent : Message) (before last : Firmware) (answer : Answer) (k : ℕ) (given : answer ≡ conduct sent k before) (leaves : Leaves answer last) where
  passes_as_it_is : (outcome : Outcome) → answer.outcome ≡ Some outcome → Passes (heard conduct sent (suc (suc (three k))) before) outcome last
  passes_as_it_is outcome e =
      subst (λ (a : Answer). Passes a outcome last) (given ∙ sym (as_it_is k (λ n. conduct sent n before))) (inl (e, endures_if answer outcome last e leaves))

  passes_unread : (own reply : ArrayVec ℕ) → answer.outcome ≡ Some (Succeeded own) → reply.items ≡ [] → Passes (heard conduct sent (suc (suc (suc (suc (three k))))) before) (Succeeded reply) last
  passes_unread own reply e none =
      let told : (unread answer).outcome ≡ Some (Succeeded reply) = ap without_reply e ∙ ap (λ (l : List ℕ). Some (Succeeded (record { items = l }))) (sym none) in
      subst (λ (a : Answer). Passes a (Succeeded reply) last) (ap unread given ∙ sym (as_unread k (λ n. conduct sent n before)))
      (inl (told, endures_if answer (Succeeded own) last e leaves))

  passes_unknown : Leaves answer last → (choice : ℕ) × Passes (heard conduct sent choice before) Unknown last
  passes_unknown (inl (outcome, is, endures)) = (
    suc (suc (suc (three k))),
    subst (λ (a : Answer). Passes a Unknown last) (ap unheard given ∙ sym (as_unheard k (λ n. conduct sent n before))) (inl (refl, endures)),
  )
  passes_unknown (inr (none, loses)) = (
    suc (suc (three k)),
    subst (λ (a : Answer). Passes a Unknown last) (given ∙ sym (as_it_is k (λ n. conduct sent n before))) (inr (none, refl, loses)),
  )

-- what an attempt shows is what came of the message, as it is heard of
abbrev pub Happened : Conduct → Message → Firmware → Outcome → Firmware → Type 0
Happened conduct sent first outcome last = (before : Firmware) × (choice : ℕ) × Endures first before × Passes (heard conduct sent choice before) outcome last

module _ (conduct : Conduct) (sent : Message) (first last : Firmware) (steps : History) where
  left_alone : (outcome : Outcome) → IsAttempt sent steps outcome → TookNone sent steps → Endures first last → Happened conduct sent first outcome last
  left_alone (Succeeded reply) (carried, rest) none endures = absurd (sent_taken sent steps (carried_sent sent steps carried) none)
  left_alone (Failed code) (says, least, most) none endures = absurd (failed_taken sent code steps says none)
  left_alone Unsent shown none endures = (first, zero, inl refl, inl (refl, endures))
  left_alone Unknown shown none endures = (first, suc zero, inl refl, inl (refl, endures))

  was_taken : (outcome : Outcome) → IsAttempt sent steps outcome → (before : Firmware) (answer : Answer) → Endures first before → HasTaken conduct sent before steps answer → Leaves answer last → Happened conduct sent first outcome last
  was_taken (Succeeded reply) (carried, inl (silent, none)) before answer endures taken leaves =
      let (k, given) = choice_of sent conduct before answer steps taken in
      let (own, e) = carried_own sent conduct before answer steps carried taken in
      (before, suc (suc (suc (suc (three k)))), endures, passes_unread conduct sent before last answer k given leaves own reply e none)
  was_taken (Succeeded reply) (carried, inr (must, replies)) before answer endures taken leaves =
      let (k, given) = choice_of sent conduct before answer steps taken in
      (before, suc (suc (three k)), endures, passes_as_it_is conduct sent before last answer k given leaves (Succeeded reply) (reply_own sent conduct before answer reply.items steps carried taken replies))
  was_taken (Failed code) (says, least, most) before answer endures taken leaves =
      let (k, given) = choice_of sent conduct before answer steps taken in
      (before, suc (suc (three k)), endures, passes_as_it_is conduct sent before last answer k given leaves (Failed code) (failed_own sent conduct before answer code steps least most says taken))
  was_taken Unsent shown before answer endures taken leaves = absurd (no_trigger sent conduct before answer steps shown taken)
  was_taken Unknown shown before answer endures taken leaves =
      let (k, given) = choice_of sent conduct before answer steps taken in
      let (choice, passes) = passes_unknown conduct sent before last answer k given leaves leaves in (before, choice, endures, passes)

  pub happened : (outcome : Outcome) → IsAttempt sent steps outcome → StandsAfter conduct sent first steps last → Happened conduct sent first outcome last
  happened outcome shown (inl (none, endures)) = left_alone outcome shown none endures
  happened outcome shown (inr (before, answer, endures, taken, leaves)) = was_taken outcome shown before answer endures taken leaves

pub comes_heard : (conduct : Conduct) (file : List ℕ) (first : Firmware) (history : exchanges.History) (events : Events) (last : Firmware) → ComesOnBus conduct file first history events last → ComesTo (heard conduct) file first history last
comes_heard conduct file first [] events last (none, endures) = endures
comes_heard conduct file first (x ∷ before) events last (own, earlier, all, by, mid, comes, stands) =
    let (stood, choice, endures, passes) = happened conduct (message_of file x.command) mid last (steps_of by.1.own) x.outcome by.1.shown stands in
    (stood, choice, comes_on (heard conduct) file first mid stood before (comes_heard conduct file first before earlier mid comes) endures, passes)

pub course_of : (conduct : Conduct) (file : List ℕ) (first : Firmware) (history : exchanges.History) (events : Events) (last : Firmware) → ComesOnBus conduct file first history events last → IsCourse file history events
course_of conduct file first [] events last (none, endures) = none
course_of conduct file first (x ∷ before) events last (own, earlier, all, by, mid, comes, stands) = (own, earlier, all, by, course_of conduct file first before earlier mid comes)
