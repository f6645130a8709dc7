-- What a reply says brings an attempt from the phase that it was in to the one that it is in then, or to its end.
use Rattle.std.proofs.Common.{◌≡◌, ℕ, ◌+◌, ◌<◌, ◌≤◌, ◌==◌, ◌&&◌, nat_le, nat_lt, Bool, true, false, cond, List, [], ◌∷◌, length, take, refl, sym, subst, ap, inl, inr, ◌∙◌}
use Rattle.std.specs.Prelude.{sum}
use Rattle.std.specs.Str.{bytes_eq}
use Rattle.std.proofs.lemmas.Bool.{and_parts, cond_both, eqb-true, leb-true, le-ltb, lt-ltb, ltb-true, ltb-false, true≢false}
use Rattle.std.proofs.lemmas.Slice.Eq.{bytes_eq-Decides}
use Rattle.bus_model.specs.declared.operation.Reply.{Reply}
use Rattle.bus_model.specs.declared.operation.Reply.TheVariants as replies
use Rattle.bus_model.specs.declared.operation.Step.{Step}
use Rattle.command_block.specs.declared.attempt.Phase.{Phase}
use Rattle.command_block.specs.declared.attempt.Phase.TheVariants.{Delayed, Idle, Filling, Triggering, Resting, Awaiting, Counting, Reading, Checking}
use Rattle.command_block.specs.declared.attempt.Timing.{Timing}
use Rattle.command_block.specs.declared.judgement.Judgement.{Judgement}
use Rattle.command_block.specs.declared.judgement.Judgement.TheVariants.{On, Again, Ends}
use Rattle.command_block.specs.declared.message.Message.{Message}
use Rattle.command_block.specs.declared.outcome.Outcome.TheVariants.{Succeeded, Failed}
use Rattle.conversations.specs.declared.next.Next.TheVariants.{Do}
use Rattle.command_block.specs.Messages.{complement}
use Rattle.command_block.specs.Operations.{head, piece, read_back, read_count, read_reply, read_status, trigger}
use Rattle.command_block.specs.Phases.{after_back, after_bytes, after_count, after_idle, after_piece, after_status, doubted, filling, judged, next_at}
use Rattle.command_block.specs.Attempts.{History, IsAttempt, IsCarriedOut, IsNoBytes, IsNotAccepted, IsRead, IsSent}
use Rattle.command_block.specs.AttemptEvents.{IsInPhase}

pub carried_sent : (message : Message) (h : History) → IsCarriedOut message h → IsSent message h
carried_sent message [] now = absurd now
carried_sent message (step ∷ before) (inl (read, now)) = inl (read, carried_sent message before now)
carried_sent message (step ∷ before) (inr (says, now)) = inl (subst IsRead (sym says.0) tt, now)

module _ (message : Message) (h : History) where
  -- what a judgement makes of the phase, after a step
  abbrev pub After : Phase → Step → Judgement → Type 0
  After phase step (On later) = IsInPhase message later (step ∷ h)
  After phase step Again = IsInPhase message phase (step ∷ h)
  After phase step (Ends outcome) = IsAttempt message (step ∷ h) outcome

  idle : (step : Step) → step.op ≡ read_status → IsInPhase message Idle h → (bytes : List ℕ) → step.reply ≡ replies.Bytes (record { items = bytes }) → After Idle step (after_idle bytes)
  idle step is at [] was = (is, at)
  idle step is at (s ∷ []) was =
      cond_both (nat_lt s 128) (On (Filling 0)) Again (After Idle step)
      (λ e. inl (refl, (s, ltb-true s 128 e, (is, was)), at))
      (λ e. (is, at))
  idle step is at (s ∷ t ∷ rest) was = (is, at)

  piece_op : (at : ℕ) → at < length message.body.items → filling message at ≡ piece message at
  piece_op at less = ap (λ (b : Bool). cond b (piece message at) (head message)) (lt-ltb at (length message.body.items) less)

  head_op : (at : ℕ) → length message.body.items ≤ at → filling message at ≡ head message
  head_op at less = ap (λ (b : Bool). cond b (piece message at) (head message)) (le-ltb at (length message.body.items) less)

  filled : (at : ℕ) (step : Step) → step.op ≡ filling message at → step.reply ≡ replies.Done → IsInPhase message (Filling at) h
      → After (Filling at) step (after_piece (length message.body.items) at)
  filled at step is done now =
      cond_both (nat_lt at (length message.body.items)) (On (Filling (at + 8))) (On Triggering) (After (Filling at) step)
      (λ e. let less = ltb-true at (length message.body.items) e in inr (inr (inl (at, refl, less, (is ∙ piece_op at less, done), now))))
      (λ e. let less = ltb-false at (length message.body.items) e in ((is ∙ head_op at less, done), (at, less, now)))

  -- what was stored before the first piece needs no reading back
  doubts : (at : ℕ) (step : Step) → IsNotAccepted (filling message at) step → IsInPhase message (Filling at) h → After (Filling at) step (doubted at)
  doubts at step tried now =
      cond_both (at == 0) Again (On (Checking at)) (After (Filling at) step)
      (λ e. inr (inl (eqb-true at 0 e, tried, now)))
      (λ e. inl (tried, now))

  back : (at : ℕ) (step : Step) → step.op ≡ read_back message at → IsInPhase message (Checking at) h → (bytes : List ℕ) → step.reply ≡ replies.Bytes (record { items = bytes })
      → After (Checking at) step (after_back message.body.items at bytes)
  back at step is now bytes was =
      cond_both (bytes_eq bytes (take at message.body.items)) (On (Filling at)) (On (Filling 0)) (After (Checking at) step)
      (λ e. inr (inr (inr (inl ((is, was ∙ ap (λ (l : List ℕ). replies.Bytes (record { items = l })) ((bytes_eq-Decides bytes (take at message.body.items)).0 e)), now)))))
      (λ e. inr (inr (inr (inr (refl, (at, bytes, (λ same. true≢false (sym ((bytes_eq-Decides bytes (take at message.body.items)).1 same) ∙ e)), (is, was), now))))))

  failed : (step : Step) → step.op ≡ read_status → IsInPhase message Awaiting h → (s : ℕ) → step.reply ≡ replies.Bytes (record { items = s ∷ [] })
      → After Awaiting step (cond (nat_le 64 s && nat_lt s 128) (Ends (Failed s)) Again)
  failed step is at s was =
      cond_both (nat_le 64 s && nat_lt s 128) (Ends (Failed s)) Again (After Awaiting step)
      (λ e. let parts = and_parts _ _ e in (((is, was), at), leb-true 64 s parts.0, ltb-true s 128 parts.1))
      (λ e. inl (subst IsRead (sym is) tt, at))

  status : (step : Step) → step.op ≡ read_status → IsInPhase message Awaiting h → (wanted : Bool) → message.replies ≡ wanted
      → (bytes : List ℕ) → step.reply ≡ replies.Bytes (record { items = bytes }) → After Awaiting step (after_status wanted bytes)
  status step is at wanted w [] was = inl (subst IsRead (sym is) tt, at)
  status step is at true w (s ∷ []) was =
      cond_both (s == 1) (On Counting) (cond (nat_le 64 s && nat_lt s 128) (Ends (Failed s)) Again) (After Awaiting step)
      (λ e. (inr ((is, was ∙ ap (λ (n : ℕ). replies.Bytes (record { items = n ∷ [] })) (eqb-true s 1 e)), at), w))
      (λ e. failed step is at s was)
  status step is at false w (s ∷ []) was =
      cond_both (s == 1) (Ends (Succeeded (record { items = [] }))) (cond (nat_le 64 s && nat_lt s 128) (Ends (Failed s)) Again) (After Awaiting step)
      (λ e. (inr ((is, was ∙ ap (λ (n : ℕ). replies.Bytes (record { items = n ∷ [] })) (eqb-true s 1 e)), at), inl (w, refl)))
      (λ e. failed step is at s was)
  status step is at wanted w (s ∷ t ∷ rest) was = inl (subst IsRead (sym is) tt, at)

  counting : (step : Step) → step.op ≡ read_count → IsInPhase message Counting h → (bytes : List ℕ) → step.reply ≡ replies.Bytes (record { items = bytes })
      → After Counting step (after_count bytes)
  counting step is at [] was = (inl (subst IsRead (sym is) tt, at.0), at.1)
  counting step is at (n ∷ []) was = (inl (subst IsRead (sym is) tt, at.0), at.1)
  counting step is at (n ∷ c ∷ []) was =
      cond_both (nat_lt 0 n && nat_le n 120) (On (Reading n c)) Again (After Counting step)
      (λ e. let parts = and_parts _ _ e in (inl (subst IsRead (sym is) tt, at.0), at.1, ltb-true 0 n parts.0, leb-true n 120 parts.1, inl (is, was)))
      (λ e. (inl (subst IsRead (sym is) tt, at.0), at.1))
  counting step is at (n ∷ c ∷ d ∷ rest) was = (inl (subst IsRead (sym is) tt, at.0), at.1)

  reading : (count check : ℕ) (step : Step) → step.op ≡ read_reply count → IsInPhase message (Reading count check) h → (bytes : List ℕ)
      → step.reply ≡ replies.Bytes (record { items = bytes }) → After (Reading count check) step (after_bytes check bytes)
  reading count check step is at bytes was =
      cond_both (nat_le (length bytes) 128 && complement (sum bytes) == check) (Ends (Succeeded (record { items = bytes }))) (On Resting) (After (Reading count check) step)
      (λ e. (inl (subst IsRead (sym is) tt, at.0), inr (at.1, (count, check, (is, was), at.2, at.3, eqb-true (complement (sum bytes)) check (and_parts _ _ e).1, at.4))))
      (λ e. inl (subst IsRead (sym is) tt, carried_sent message h at.0))

  -- what a reply to the operation of a phase says of that
  pub told : (timing : Timing) (phase : Phase) (step : Step) → next_at message timing phase ≡ Do step.op → IsInPhase message phase h → After phase step (judged message phase step.reply)
  told timing Delayed step asks at = absurd cc
  told timing Resting step asks at = absurd cc
  told timing Idle step asks at = by step.reply refl where
    by : (reply : Reply) → step.reply ≡ reply → After Idle step (judged message Idle reply)
    by (replies.Bytes bytes) was = let is : step.op ≡ read_status = cc in idle step is at bytes.items was
    by replies.Done was = let is : step.op ≡ read_status = cc in (is, at)
    by replies.Refused was = let is : step.op ≡ read_status = cc in (is, at)
  told timing (Filling from) step asks at = by step.reply refl where
    by : (reply : Reply) → step.reply ≡ reply → After (Filling from) step (judged message (Filling from) reply)
    by (replies.Bytes bytes) was = let is : step.op ≡ filling message from = cc in doubts from step (is, λ e. absurd cc) at
    by replies.Done was = let is : step.op ≡ filling message from = cc in filled from step is was at
    by replies.Refused was = let is : step.op ≡ filling message from = cc in doubts from step (is, λ e. absurd cc) at
  told timing Triggering step asks at = by step.reply refl where
    by : (reply : Reply) → step.reply ≡ reply → After Triggering step (judged message Triggering reply)
    by (replies.Bytes bytes) was = let is : step.op ≡ trigger message = cc in inr ((is, λ e. absurd cc), at)
    by replies.Done was = let is : step.op ≡ trigger message = cc in inr ((is, was), at)
    by replies.Refused was = let is : step.op ≡ trigger message = cc in inr ((is, λ e. absurd cc), at)
  told timing Awaiting step asks at = by step.reply refl where
    by : (reply : Reply) → step.reply ≡ reply → After Awaiting step (judged message Awaiting reply)
    by (replies.Bytes bytes) was = let is : step.op ≡ read_status = cc in status step is at _ refl bytes.items was
    by replies.Done was = let is : step.op ≡ read_status = cc in inl (subst IsRead (sym is) tt, at)
    by replies.Refused was = let is : step.op ≡ read_status = cc in inl (subst IsRead (sym is) tt, at)
  told timing Counting step asks at = by step.reply refl where
    by : (reply : Reply) → step.reply ≡ reply → After Counting step (judged message Counting reply)
    by (replies.Bytes bytes) was = let is : step.op ≡ read_count = cc in counting step is at bytes.items was
    by replies.Done was = let is : step.op ≡ read_count = cc in (inl (subst IsRead (sym is) tt, at.0), at.1)
    by replies.Refused was = let is : step.op ≡ read_count = cc in (inl (subst IsRead (sym is) tt, at.0), at.1)
  told timing (Reading count check) step asks at = by step.reply refl where
    by : (reply : Reply) → step.reply ≡ reply → After (Reading count check) step (judged message (Reading count check) reply)
    by (replies.Bytes bytes) was = let is : step.op ≡ read_reply count = cc in reading count check step is at bytes.items was
    by replies.Done was = let is : step.op ≡ read_reply count = cc in (inl (subst IsRead (sym is) tt, at.0), at.1, at.2, at.3, inr at.4)
    by replies.Refused was = let is : step.op ≡ read_reply count = cc in (inl (subst IsRead (sym is) tt, at.0), at.1, at.2, at.3, inr at.4)
  told timing (Checking from) step asks at = by step.reply refl where
    by : (reply : Reply) → step.reply ≡ reply → After (Checking from) step (judged message (Checking from) reply)
    by (replies.Bytes bytes) was = let is : step.op ≡ read_back message from = cc in back from step is at bytes.items was
    by replies.Done was = let is : step.op ≡ read_back message from = cc in inr ((is, subst IsNoBytes (sym was) tt), at)
    by replies.Refused was = let is : step.op ≡ read_back message from = cc in inr ((is, subst IsNoBytes (sym was) tt), at)
