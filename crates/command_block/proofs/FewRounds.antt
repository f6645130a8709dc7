-- Each refusal costs an attempt few operations on page 9Fh.
use Rattle.std.proofs.Common.{◌≡◌, ◌≤◌, ℕ, ◌+◌, ◌*◌, ◌==◌, ◌&&◌, nat_le, nat_lt, Bool, true, cond, List, [], ◌∷◌, length, take, Option, Some, None, arith, refl, sym, subst, ap, ◌∙◌}
use Rattle.std.specs.Prelude.{sum}
use Rattle.std.specs.Str.{bytes_eq}
use Rattle.std.proofs.lemmas.Bool.{cond_both, le-leb, ltb-true}
use Rattle.bus_model.specs.declared.operation.Op.{Op}
use Rattle.bus_model.specs.declared.operation.Reply.{Reply}
use Rattle.bus_model.specs.declared.operation.Reply.TheVariants as replies
use Rattle.bus_model.specs.declared.operation.Step.{Step}
use Rattle.bus_model.specs.Operations.{Answers}
use Rattle.conversations.specs.declared.event.Event.TheVariants.{Made, Waited, Lacked, Asked}
use Rattle.conversations.specs.declared.next.Next.TheVariants.{Do}
use Rattle.conversations.specs.Events.{Events, steps_of}
use Rattle.conversations.specs.Pauses.{is_refused}
use Rattle.command_block.specs.declared.attempt.Attempt.{Attempt}
use Rattle.command_block.specs.declared.attempt.Phase.{Phase}
use Rattle.command_block.specs.declared.attempt.Phase.TheVariants.{Delayed, Idle, Filling, Triggering, Resting, Awaiting, Counting, Reading, Checking}
use Rattle.command_block.specs.declared.attempt.Timing.{Timing}
use Rattle.command_block.specs.declared.judgement.Judgement.{Judgement}
use Rattle.command_block.specs.declared.judgement.Judgement.TheVariants.{On, Again, Ends}
use Rattle.command_block.specs.declared.message.Message.{Message}
use Rattle.command_block.specs.declared.outcome.Outcome.{Outcome}
use Rattle.command_block.specs.declared.outcome.Outcome.TheVariants.{Succeeded, Failed, Unsent}
use Rattle.command_block.specs.AttemptEvents.{EachIsWanted, attempt_after}
use Rattle.command_block.specs.Messages.{complement}
use Rattle.command_block.specs.Operations.{head, piece, read_back, read_status, trigger}
use Rattle.command_block.specs.Phases.{after_bytes, after_count, after_idle, after_status, filling, given_up, judged, known, known_by, next_at, phase_after, phase_rested, wants_by}
use Rattle.command_block.specs.Rounds.{count_on_page, count_refused, is_on_page, one_if}
use Rattle.command_block.proofs.Known.{keeps_message, keeps_timing}

-- so many operations were made on the page, and so many were refused
abbrev Bounded : Phase → ℕ → ℕ → Type 0
Bounded Delayed made refused = made ≡ 0
Bounded Idle made refused = made ≡ 0
Bounded (Filling at) made refused = (8 * made ≤ 144 * refused + at) × (at ≤ 127)
Bounded Triggering made refused = 8 * made ≤ 144 * refused + 135
Bounded Resting made refused = Unit {0}
Bounded Awaiting made refused = Unit {0}
Bounded Counting made refused = Unit {0}
Bounded (Reading count check) made refused = Unit {0}
Bounded (Checking at) made refused = (8 * made + 8 ≤ 144 * refused) × (at ≤ 127)

-- ---- once the id was stored

abbrev IsLate : Phase → Type 0
IsLate phase = (made refused : ℕ) → Bounded phase made refused

abbrev IsLateStill : Judgement → Type 0
IsLateStill (On later) = IsLate later
IsLateStill Again = Unit {0}
IsLateStill (Ends outcome) = Unit {0}

late_after : (phase : Phase) (j : Judgement) → IsLate phase → IsLateStill j → IsLate (phase_after phase j)
late_after phase (On later) late still = still
late_after phase Again late still = late
late_after phase (Ends outcome) late still = late

status_late : (wanted : Bool) (bytes : List ℕ) → IsLateStill (after_status wanted bytes)
status_late wanted [] = tt
status_late wanted (status ∷ []) =
    cond_both (status == 1) (cond wanted (On Counting) (Ends (Succeeded (record { items = [] })))) (cond (nat_le 64 status && nat_lt status 128) (Ends (Failed status)) Again) IsLateStill
    (λ e. cond_both wanted (On Counting) (Ends (Succeeded (record { items = [] }))) IsLateStill (λ w made refused. tt) (λ w. tt))
    (λ e. cond_both (nat_le 64 status && nat_lt status 128) (Ends (Failed status)) Again IsLateStill (λ w. tt) (λ w. tt))
status_late wanted (status ∷ more ∷ rest) = tt

count_late : (bytes : List ℕ) → IsLateStill (after_count bytes)
count_late [] = tt
count_late (count ∷ []) = tt
count_late (count ∷ check ∷ []) = cond_both (nat_lt 0 count && nat_le count 120) (On (Reading count check)) Again IsLateStill (λ e made refused. tt) (λ e. tt)
count_late (count ∷ check ∷ more ∷ rest) = tt

bytes_late : (check : ℕ) (bytes : List ℕ) → IsLateStill (after_bytes check bytes)
bytes_late check bytes =
    cond_both (nat_le (length bytes) 128 && complement (sum bytes) == check) (Ends (Succeeded (record { items = bytes }))) (On Resting) IsLateStill (λ e. tt) (λ e made refused. tt)

module _ (message : Message) where
  awaiting_late : (reply : Reply) → IsLateStill (judged message Awaiting reply)
  awaiting_late (replies.Bytes bytes) = status_late message.replies bytes.items
  awaiting_late replies.Done = tt
  awaiting_late replies.Refused = tt

  counting_late : (reply : Reply) → IsLateStill (judged message Counting reply)
  counting_late (replies.Bytes bytes) = count_late bytes.items
  counting_late replies.Done = tt
  counting_late replies.Refused = tt

  reading_late : (count check : ℕ) (reply : Reply) → IsLateStill (judged message (Reading count check) reply)
  reading_late count check (replies.Bytes bytes) = bytes_late check bytes.items
  reading_late count check replies.Done = tt
  reading_late count check replies.Refused = tt

  -- ---- before that

  filling_on_page : (at : ℕ) → is_on_page (filling message at) ≡ true
  filling_on_page at =
      cond_both (nat_lt at (length message.body.items)) (piece message at) (head message) (λ (op : Op). is_on_page op ≡ true) (λ e. le-leb 128 (136 + at) (omega arith)) (λ e. refl)

  filling_reads_none : (at : ℕ) (bytes : List ℕ) → Answers (filling message at) (replies.Bytes (record { items = bytes })) → ⊥
  filling_reads_none at bytes =
      cond_both (nat_lt at (length message.body.items)) (piece message at) (head message) (λ (op : Op). Answers op (replies.Bytes (record { items = bytes })) → ⊥) (λ e none. none) (λ e none. none)

  -- one more on the page
  counts : (op was : Op) (made : ℕ) → was ≡ op → is_on_page was ≡ true → one_if (is_on_page op) + made ≡ made + 1
  counts op was made is on = let one : one_if (is_on_page op) ≡ 1 = ap (λ (o : Op). one_if (is_on_page o)) (sym is) ∙ ap one_if on in omega (arith, one)

  idle_bounded : (bytes : List ℕ) (made refused : ℕ) → made ≡ 0 → Bounded (phase_after Idle (after_idle bytes)) made refused
  idle_bounded [] made refused none = none
  idle_bounded (status ∷ []) made refused none =
      cond_both (nat_lt status 128) (On (Filling 0)) Again (λ (j : Judgement). Bounded (phase_after Idle j) made refused) (λ e. (omega (arith, none), omega arith)) (λ e. none)
  idle_bounded (status ∷ more ∷ rest) made refused none = none

  module _ (timing : Timing) (short : length message.body.items ≤ 120) where
    abbrev Then : Phase → Op → Reply → ℕ → ℕ → Type 0
    Then phase op reply made refused = Bounded (phase_after phase (judged message phase reply)) (one_if (is_on_page op) + made) (one_if (is_refused reply) + refused)

    turn : (phase : Phase) (op : Op) (reply : Reply) (made refused : ℕ) → next_at message timing phase ≡ Do op → Answers op reply → Bounded phase made refused → Then phase op reply made refused
    turn Delayed op reply made refused asks answers now = absurd cc
    turn Resting op reply made refused asks answers now = absurd cc
    turn Idle op reply made refused asks answers now = by reply where
      none : one_if (is_on_page op) + made ≡ 0
      none = let is : read_status ≡ op = cc in let zero_one : one_if (is_on_page op) ≡ 0 = ap (λ (o : Op). one_if (is_on_page o)) (sym is) in omega (arith, zero_one, now)

      by : (reply : Reply) → Then Idle op reply made refused
      by (replies.Bytes bytes) = idle_bounded bytes.items (one_if (is_on_page op) + made) (0 + refused) none
      by replies.Done = none
      by replies.Refused = none
    turn (Filling at) op (replies.Bytes bytes) made refused asks answers now =
        let is : filling message at ≡ op = cc in absurd (filling_reads_none at bytes.items (subst (λ (o : Op). Answers o (replies.Bytes bytes)) (sym is) answers))
    turn (Filling at) op replies.Done made refused asks answers now =
        let is : filling message at ≡ op = cc in
        let more = counts op (filling message at) made is (filling_on_page at) in
        cond_both (nat_lt at (length message.body.items)) (On (Filling (at + 8))) (On Triggering) (λ (j : Judgement). Bounded (phase_after (Filling at) j) (one_if (is_on_page op) + made) (0 + refused))
        (λ e. let less = ltb-true at (length message.body.items) e in (omega (arith, more, now.0), omega (arith, less, short)))
        (λ e. omega (arith, more, now.0, now.1))
    turn (Filling at) op replies.Refused made refused asks answers now =
        let is : filling message at ≡ op = cc in
        let more = counts op (filling message at) made is (filling_on_page at) in
        cond_both (at == 0) Again (On (Checking at)) (λ (j : Judgement). Bounded (phase_after (Filling at) j) (one_if (is_on_page op) + made) (1 + refused))
        (λ e. (omega (arith, more, now.0), now.1))
        (λ e. (omega (arith, more, now.0, now.1), now.1))
    turn Triggering op (replies.Bytes bytes) made refused asks answers now =
        let is : trigger message ≡ op = cc in absurd (let none : Answers (trigger message) (replies.Bytes bytes) = subst (λ (o : Op). Answers o (replies.Bytes bytes)) (sym is) answers in none)
    turn Triggering op replies.Done made refused asks answers now = tt
    turn Triggering op replies.Refused made refused asks answers now =
        let is : trigger message ≡ op = cc in let more = counts op (trigger message) made is refl in omega (arith, more, now)
    turn Awaiting op reply made refused asks answers now = late_after Awaiting (judged message Awaiting reply) (λ m r. tt) (awaiting_late reply) (one_if (is_on_page op) + made) (one_if (is_refused reply) + refused)
    turn Counting op reply made refused asks answers now = late_after Counting (judged message Counting reply) (λ m r. tt) (counting_late reply) (one_if (is_on_page op) + made) (one_if (is_refused reply) + refused)
    turn (Reading count check) op reply made refused asks answers now = late_after (Reading count check) (judged message (Reading count check) reply) (λ m r. tt) (reading_late count check reply) (one_if (is_on_page op) + made) (one_if (is_refused reply) + refused)
    turn (Checking at) op (replies.Bytes bytes) made refused asks answers now =
        let is : read_back message at ≡ op = cc in
        let more = counts op (read_back message at) made is refl in
        cond_both (bytes_eq bytes.items (take at message.body.items)) (On (Filling at)) (On (Filling 0)) (λ (j : Judgement). Bounded (phase_after (Checking at) j) (one_if (is_on_page op) + made) (0 + refused))
        (λ e. (omega (arith, more, now.0), now.1)) (λ e. (omega (arith, more, now.0), omega arith))
    turn (Checking at) op replies.Done made refused asks answers now =
        let is : read_back message at ≡ op = cc in absurd (let none : Answers (read_back message at) replies.Done = subst (λ (o : Op). Answers o replies.Done) (sym is) answers in none)
    turn (Checking at) op replies.Refused made refused asks answers now =
        let is : read_back message at ≡ op = cc in let more = counts op (read_back message at) made is refl in (omega (arith, more, now.0), now.1)

    -- ---- all events

    made_by : (attempt : Attempt) (outcome : Option Outcome) (step : Step) (made refused : ℕ) → attempt.message ≡ message → attempt.timing ≡ timing → wants_by attempt outcome ≡ Do step.op → Answers step.op step.reply
        → Bounded attempt.phase made refused → Bounded (phase_after attempt.phase (judged attempt.message attempt.phase step.reply)) (one_if (is_on_page step.op) + made) (one_if (is_refused step.reply) + refused)
    made_by attempt (Some outcome) step made refused is_message is_timing asks answers now = absurd cc
    made_by attempt None step made refused is_message is_timing asks answers now =
        let wanted : next_at message timing attempt.phase ≡ Do step.op = sym (λ i. next_at (is_message i) (is_timing i) attempt.phase) ∙ asks in
        subst (λ (m : Message). Bounded (phase_after attempt.phase (judged m attempt.phase step.reply)) (one_if (is_on_page step.op) + made) (one_if (is_refused step.reply) + refused)) (sym is_message)
        (turn attempt.phase step.op step.reply made refused wanted answers now)

    rested_bounded : (phase : Phase) (made refused : ℕ) → Bounded phase made refused → Bounded (phase_rested phase) made refused
    rested_bounded Delayed made refused now = now
    rested_bounded Idle made refused now = now
    rested_bounded (Filling at) made refused now = now
    rested_bounded Triggering made refused now = now
    rested_bounded Resting made refused now = tt
    rested_bounded Awaiting made refused now = tt
    rested_bounded Counting made refused now = tt
    rested_bounded (Reading count check) made refused now = tt
    rested_bounded (Checking at) made refused now = now

    bounded : (own : Events) → EachIsWanted message timing own → Bounded (attempt_after message timing own).phase (count_on_page (steps_of own)) (count_refused (steps_of own))
    bounded [] each = cond_both (timing.delay == 0) Idle Delayed (λ (phase : Phase). Bounded phase 0 0) (λ e. refl) (λ e. refl)
    bounded (Made step ∷ before) (asks, answers, each) =
        let attempt = attempt_after message timing before in
        made_by attempt attempt.outcome step (count_on_page (steps_of before)) (count_refused (steps_of before)) (keeps_message message timing before) (keeps_timing message timing before) asks answers (bounded before each)
    bounded (Waited time ∷ before) (asks, each) = rested_bounded (attempt_after message timing before).phase (count_on_page (steps_of before)) (count_refused (steps_of before)) (bounded before each)
    bounded (Lacked page ∷ before) (needs, each) = bounded before each
    bounded (Asked number ∷ before) each = bounded before each

    few_at : (phase : Phase) (made refused : ℕ) → given_up phase ≡ Unsent → Bounded phase made refused → made ≤ 18 * refused + 16
    few_at Delayed made refused unsent now = omega (arith, now)
    few_at Idle made refused unsent now = omega (arith, now)
    few_at (Filling at) made refused unsent now = omega (arith, now.0, now.1)
    few_at Triggering made refused unsent now = omega (arith, now)
    few_at Resting made refused unsent now = absurd cc
    few_at Awaiting made refused unsent now = absurd cc
    few_at Counting made refused unsent now = absurd cc
    few_at (Reading count check) made refused unsent now = absurd cc
    few_at (Checking at) made refused unsent now = omega (arith, now.0)

    pub few_rounds : (own : Events) → EachIsWanted message timing own → (attempt_after message timing own).outcome ≡ None → known (attempt_after message timing own) ≡ Unsent
        → count_on_page (steps_of own) ≤ 18 * count_refused (steps_of own) + 16
    few_rounds own each goes_on unsent =
        let attempt = attempt_after message timing own in
        few_at attempt.phase (count_on_page (steps_of own)) (count_refused (steps_of own)) (ap (λ (o : Option Outcome). known_by attempt.phase o) (sym goes_on) ∙ unsent) (bounded own each)
