-- What is known of a message at each moment of an attempt.
use Rattle.std.proofs.Common.{◌≡◌, ◌≢◌, ℕ, nat_lt, Bool, true, false, cond, [], ◌∷◌, length, Option, Some, None, arith, sym, subst, ap, inl, inr, ◌∙◌, refl}
use Rattle.bus_model.specs.declared.operation.Op.{Op}
use Rattle.bus_model.specs.declared.operation.Op.TheVariants.{Fetch, Store}
use Rattle.bus_model.specs.declared.operation.Reply.TheVariants.{Done}
use Rattle.bus_model.specs.declared.operation.Step.{Step}
use Rattle.conversations.specs.declared.event.Event.TheVariants.{Made, Waited, Lacked, Asked}
use Rattle.conversations.specs.declared.next.Next.{Next}
use Rattle.conversations.specs.declared.next.Next.TheVariants.{Do, Wait, End}
use Rattle.conversations.specs.Events.{Events, steps_of}
use Rattle.conversations.specs.Wanted.{IfDo}
use Rattle.command_block.specs.declared.attempt.Attempt.{Attempt}
use Rattle.command_block.specs.declared.attempt.Phase.{Phase}
use Rattle.command_block.specs.declared.attempt.Phase.TheVariants.{Delayed, Idle, Filling, Triggering, Resting, Awaiting, Counting, Reading, Checking}
use Rattle.command_block.specs.declared.attempt.Timing.{Timing}
use Rattle.command_block.specs.declared.judgement.Judgement.{Judgement}
use Rattle.command_block.specs.declared.judgement.Judgement.TheVariants.{On, Again, Ends}
use Rattle.command_block.specs.declared.message.Message.{Message}
use Rattle.command_block.specs.declared.outcome.Outcome.{Outcome}
use Rattle.command_block.specs.AttemptEvents.{EachIsWanted, EndsAttempt, GoesOnAttempt, HasCome, IsInPhase, IsTold, IsTriggered, RestsAfterTrigger, attempt_after}
use Rattle.command_block.specs.Attempts.{History, IsAttempt, IsFilled, IsHeaded, IsPreparing, NoTrigger}
use Rattle.command_block.specs.Operations.{head, piece, read_back, read_status, trigger}
use Rattle.command_block.specs.Phases.{filling, given_up, judged, known, known_by, next_at, outcome_after, phase_after, rested, taken, wants, wants_by}
use Rattle.command_block.proofs.Told.{After, carried_sent, told}

-- where an operation begins
abbrev pub offset_of : Op → ℕ
offset_of (Fetch dev offset count) = 0
offset_of (Store dev offset bytes) = offset

module _ (message : Message) where
  none : (step : Step) (op : Op) → step.op ≡ op → offset_of op ≢ 128 → step.op ≢ trigger message
  none step op is off e = off (ap (λ (o : Op). offset_of o) (sym is ∙ e))

  pub filling_other : (at : ℕ) → offset_of (filling message at) ≢ 128
  filling_other at = by (nat_lt at (length message.body.items))
    where
      by : (b : Bool) → offset_of (cond b (piece message at) (head message)) ≢ 128
      by true e = omega (arith, e)
      by false e = omega (arith, e)

  preparing_none : (h : History) → IsPreparing h → NoTrigger message h
  preparing_none [] at = tt
  preparing_none (step ∷ before) (is, at) = (none step read_status is (λ e. omega (arith, e)), preparing_none before at)

  filled_none : (doubted : Bool) (at : ℕ) (h : History) → IsFilled message doubted at h → NoTrigger message h
  filled_none true at [] now = absurd now
  filled_none false at [] now = absurd now
  filled_none true at (step ∷ before) (inl (tried, now)) = (none step (filling message at) tried.0 (filling_other at), filled_none false at before now)
  filled_none true at (step ∷ before) (inr (unread, now)) = (none step (read_back message at) unread.0 (λ e. omega (arith, e)), filled_none true at before now)
  filled_none false at (step ∷ before) (inl (zero, (status, few, read), now)) = (none step read_status read.0 (λ e. omega (arith, e)), preparing_none before now)
  filled_none false at (step ∷ before) (inr (inl (zero, tried, now))) = (none step (filling message at) tried.0 (filling_other at), filled_none false at before now)
  filled_none false at (step ∷ before) (inr (inr (inl (earlier, is, less, taken, now)))) = (none step (piece message earlier) taken.0 (λ e. omega (arith, e)), filled_none false earlier before now)
  filled_none false at (step ∷ before) (inr (inr (inr (inl (gives, now))))) = (none step (read_back message at) gives.0 (λ e. omega (arith, e)), filled_none true at before now)
  filled_none false at (step ∷ before) (inr (inr (inr (inr (zero, (earlier, bytes, other, gives, now)))))) = (none step (read_back message earlier) gives.0 (λ e. omega (arith, e)), filled_none true earlier before now)

  -- nothing before the header tells the module to carry the message out, so it is told once at most
  pub headed_none : (h : History) → IsHeaded message h → NoTrigger message h
  headed_none [] now = absurd now
  headed_none (step ∷ before) (taken, (at, all, now)) = (none step (head message) taken.0 (λ e. omega (arith, e)), filled_none false at before now)

  gives_up : (phase : Phase) (h : History) → IsInPhase message phase h → IsAttempt message h (given_up phase)
  gives_up Delayed h at = preparing_none h at
  gives_up Idle h at = preparing_none h at
  gives_up (Filling from) h at = filled_none false from h at
  gives_up Triggering h at = headed_none h at
  gives_up Resting h at = inl at
  gives_up Awaiting h at = inl at
  gives_up Counting h at = inl (carried_sent message h at.0)
  gives_up (Reading count check) h at = inl (carried_sent message h at.0)
  gives_up (Checking from) h at = filled_none true from h at

  pub knows : (phase : Phase) (outcome : Option Outcome) (h : History) → HasCome message phase outcome h → IsAttempt message h (known_by phase outcome)
  knows phase None h at = gives_up phase h at
  knows phase (Some outcome) h at = at

  module _ (timing : Timing) where
    settle : (phase : Phase) (h : History) (step : Step) (j : Judgement) → After message h phase step j → HasCome message (phase_after phase j) (outcome_after None j) (step ∷ h)
    settle phase h step (On later) after = after
    settle phase h step Again after = after
    settle phase h step (Ends outcome) after = after

    made_by : (attempt : Attempt) (outcome : Option Outcome) (h : History) (step : Step) → attempt.message ≡ message → attempt.timing ≡ timing → wants_by attempt outcome ≡ Do step.op → HasCome message attempt.phase outcome h
        → HasCome message (phase_after attempt.phase (judged message attempt.phase step.reply)) (outcome_after outcome (judged message attempt.phase step.reply)) (step ∷ h)
    made_by attempt (Some outcome) h step is_message is_timing asks at = absurd cc
    made_by attempt None h step is_message is_timing asks at =
        let wanted : next_at message timing attempt.phase ≡ Do step.op = sym (λ i. next_at (is_message i) (is_timing i) attempt.phase) ∙ asks in
        settle attempt.phase h step (judged message attempt.phase step.reply) (told message h timing attempt.phase step wanted at)

    waited_by : (phase : Phase) (outcome : Option Outcome) (h : History) → HasCome message phase outcome h → HasCome message (rested (record { message = message; timing = timing; phase = phase; outcome = outcome })).phase outcome h
    waited_by phase (Some outcome) h at = at
    waited_by Delayed None h at = at
    waited_by Idle None h at = at
    waited_by (Filling from) None h at = at
    waited_by Triggering None h at = at
    waited_by Resting None h at = at
    waited_by Awaiting None h at = at
    waited_by Counting None h at = at
    waited_by (Reading count check) None h at = at
    waited_by (Checking from) None h at = at

    first_by : (b : Bool) → IsInPhase message (cond b Idle Delayed) []
    first_by true = tt
    first_by false = tt

    -- an attempt keeps its message and its timing
    pub keeps_message : (own : Events) → (attempt_after message timing own).message ≡ message
    keeps_message [] = refl
    keeps_message (Made step ∷ before) = keeps_message before
    keeps_message (Waited time ∷ before) = keeps_message before
    keeps_message (Lacked page ∷ before) = keeps_message before
    keeps_message (Asked number ∷ before) = keeps_message before

    pub keeps_timing : (own : Events) → (attempt_after message timing own).timing ≡ timing
    keeps_timing [] = refl
    keeps_timing (Made step ∷ before) = keeps_timing before
    keeps_timing (Waited time ∷ before) = keeps_timing before
    keeps_timing (Lacked page ∷ before) = keeps_timing before
    keeps_timing (Asked number ∷ before) = keeps_timing before

    -- its phase and its outcome are what its steps show
    pub comes : (own : Events) → EachIsWanted message timing own → HasCome message (attempt_after message timing own).phase (attempt_after message timing own).outcome (steps_of own)
    comes [] each = first_by _
    comes (Made step ∷ before) (asks, answers, each) =
        let attempt = attempt_after message timing before in
        subst (λ (m : Message). HasCome message (phase_after attempt.phase (judged m attempt.phase step.reply)) (outcome_after attempt.outcome (judged m attempt.phase step.reply)) (step ∷ steps_of before)) (sym (keeps_message before))
        (made_by attempt attempt.outcome (steps_of before) step (keeps_message before) (keeps_timing before) asks (comes before each))
    comes (Waited time ∷ before) (asks, each) =
        let attempt = attempt_after message timing before in
        waited_by attempt.phase attempt.outcome (steps_of before) (comes before each)
    comes (Lacked page ∷ before) (needs, each) =
        let attempt = attempt_after message timing before in
        knows attempt.phase attempt.outcome (steps_of before) (comes before each)
    comes (Asked number ∷ before) each = comes before each

    -- ---- the rest after the id was taken

    pub trigger_at : (phase : Phase) (step : Step) → next_at message timing phase ≡ Do step.op → step.op ≡ trigger message → phase ≡ Triggering
    trigger_at Delayed step asks is = absurd cc
    trigger_at Idle step asks is = absurd (let off : offset_of step.op ≡ 0 = cc in let e : 0 ≡ 128 = sym off ∙ ap (λ (o : Op). offset_of o) is in omega (arith, e))
    trigger_at (Filling at) step asks is = let op : step.op ≡ filling message at = cc in absurd (none step (filling message at) op (filling_other at) is)
    trigger_at Triggering step asks is = refl
    trigger_at Resting step asks is = absurd cc
    trigger_at Awaiting step asks is = absurd (let off : offset_of step.op ≡ 0 = cc in let e : 0 ≡ 128 = sym off ∙ ap (λ (o : Op). offset_of o) is in omega (arith, e))
    trigger_at Counting step asks is = let off : offset_of step.op ≡ 0 = cc in absurd (let e : 0 ≡ 128 = sym off ∙ ap (λ (o : Op). offset_of o) is in omega (arith, e))
    trigger_at (Reading count check) step asks is = let off : offset_of step.op ≡ 0 = cc in absurd (let e : 0 ≡ 128 = sym off ∙ ap (λ (o : Op). offset_of o) is in omega (arith, e))
    trigger_at (Checking at) step asks is = let off : offset_of step.op ≡ 0 = cc in absurd (let e : 0 ≡ 128 = sym off ∙ ap (λ (o : Op). offset_of o) is in omega (arith, e))

    abbrev Rests : Attempt → Type 0
    Rests attempt = wants attempt ≡ Wait timing.rest

    triggered_by : (attempt : Attempt) (outcome : Option Outcome) (step : Step) → attempt.outcome ≡ outcome → attempt.message ≡ message → attempt.timing ≡ timing → wants_by attempt outcome ≡ Do step.op → step.op ≡ trigger message → step.reply ≡ Done → Rests (taken attempt step.reply)
    triggered_by attempt (Some outcome) step came is_message is_timing asks is done = absurd cc
    triggered_by attempt None step came is_message is_timing asks is done =
        let wanted : next_at message timing attempt.phase ≡ Do step.op = sym (λ i. next_at (is_message i) (is_timing i) attempt.phase) ∙ asks in
        let phase = trigger_at attempt.phase step wanted is in
        let now : taken attempt step.reply ≡ record { message = attempt.message; timing = attempt.timing; phase = Resting; outcome = None } =
        λ i. record { message = attempt.message; timing = attempt.timing; phase = phase_after (phase i) (judged attempt.message (phase i) (done i)); outcome = outcome_after (came i) (judged attempt.message (phase i) (done i)) } in
        ap wants now ∙ ap (λ (t : Timing). Wait t.rest) is_timing

    -- right after the id was taken, the rest is wanted
    at_rest : (own : Events) → EachIsWanted message timing own → IsTriggered message own → Rests (attempt_after message timing own)
    at_rest [] each triggered = absurd triggered
    at_rest (Made step ∷ before) (asks, answers, each) (is, done) =
        let attempt = attempt_after message timing before in
        triggered_by attempt attempt.outcome step refl (keeps_message before) (keeps_timing before) asks is done
    at_rest (Waited time ∷ before) each triggered = absurd triggered
    at_rest (Lacked page ∷ before) each triggered = absurd triggered
    at_rest (Asked number ∷ before) each triggered = at_rest before each triggered

    pub rests : (own : Events) → EachIsWanted message timing own → RestsAfterTrigger message timing own
    rests [] each = tt
    rests (Made step ∷ before) (asks, answers, each) = (λ triggered. absurd (let e : ◌≡◌ {A = Next Outcome} (Wait timing.rest) (Do step.op) = sym (at_rest before each triggered) ∙ asks in cc), rests before each)
    rests (Waited time ∷ before) (asks, each) = (λ triggered. let e : ◌≡◌ {A = Next Outcome} (Wait timing.rest) (Wait time) = sym (at_rest before each triggered) ∙ asks in cc, rests before each)
    rests (Lacked page ∷ before) (needs, each) = rests before each
    rests (Asked number ∷ before) each = rests before each

-- ---- an attempt that was told its events

pub known_shown : (attempt : Attempt) (own : Events) → IsTold own attempt → IsAttempt attempt.message (steps_of own) (known attempt)
known_shown attempt own told =
    subst (λ (a : Attempt). IsAttempt attempt.message (steps_of own) (known a)) (sym told.is)
    (knows attempt.message _ _ (steps_of own) (comes attempt.message attempt.timing own told.each))

pub ends_so : (attempt : Attempt) (outcome : Outcome) (own : Events) → attempt.outcome ≡ Some outcome → IsTold own attempt → EndsAttempt attempt.message attempt.timing own outcome
ends_so attempt outcome own is told = record {
  shown = subst (λ (o : Option Outcome). IsAttempt attempt.message (steps_of own) (known_by attempt.phase o)) is (known_shown attempt own told);
  rests = rests attempt.message attempt.timing own told.each;
}

pub goes_on_so : (attempt : Attempt) (own : Events) → attempt.outcome ≡ None → IsTold own attempt → GoesOnAttempt attempt.message attempt.timing own
goes_on_so attempt own is told =
    let come = subst (λ (a : Attempt). HasCome attempt.message a.phase a.outcome (steps_of own)) (sym told.is) (comes attempt.message attempt.timing own told.each) in
    record {
      phase = attempt.phase;
      come = subst (λ (o : Option Outcome). HasCome attempt.message attempt.phase o (steps_of own)) is come;
      rests = rests attempt.message attempt.timing own told.each;
    }

pub if_do : {E : Type 0} {P : Type 0} (wanted : Next E) → P → IfDo wanted (λ op. P)
if_do (Do op) holds = holds
if_do (Wait time) holds = tt
if_do (End end) holds = tt
