-- At each stage the exchanges are safe, and so is the command that is sent next.
use Rattle.std.proofs.Common.{◌≡◌, ◌⊎◌, ℕ, ◌-◌, ◌<◌, ◌==◌, Bool, true, false, cond, [], ◌∷◌, Option, Some, None, arith, refl, sym, subst, inl, inr}
use Rattle.std.proofs.lemmas.Bool.{eqb-true, eqb-false}
use Rattle.firmware_update.specs.declared.bank.Bank.{Bank}
use Rattle.firmware_update.specs.declared.command.Command.{Command}
use Rattle.firmware_update.specs.declared.command.Command.TheVariants.{Features, Info, Start, Block, Complete, Abort, Run, Commit}
use Rattle.firmware_update.specs.declared.exchange.Exchange.{Exchange}
use Rattle.firmware_update.specs.declared.judgement.Judgement.TheVariants.{On, Again, Fails}
use Rattle.command_block.specs.declared.outcome.Outcome.{Outcome}
use Rattle.command_block.specs.declared.outcome.Outcome.TheVariants.{Succeeded, Failed}
use Rattle.command_block.specs.declared.outcome.Outcome.TheVariants as outcomes
use Rattle.firmware_update.specs.declared.update.Cause.TheVariants as causes
use Rattle.firmware_update.specs.declared.update.Closing.{Closing}
use Rattle.firmware_update.specs.declared.update.Closing.TheVariants.{Due, Closed, Left}
use Rattle.firmware_update.specs.declared.update.Cause.{Cause}
use Rattle.firmware_update.specs.declared.update.Stage.{Stage}
use Rattle.firmware_update.specs.declared.update.Stage.TheVariants.{Asking, Looking, Starting, Sending, Running, Watching, Committing, Verifying, Finished}
use Rattle.firmware_update.specs.declared.update.UpdateNext.TheVariants.{Send}
use Rattle.firmware_update.specs.Blocks.{block_length}
use Rattle.firmware_update.specs.Exchanges.{History, MayHave, Stands}
use Rattle.firmware_update.specs.Safety.{GoesOn, IsDownloading, IsQuery, IsSafe, IsStart, MaySend, OnlyQueries, Received, ReportsStanding, ReportsStartSize}
use Rattle.firmware_update.specs.Progress.{AbortsOn, HasClosed, HasComeTo, HasFailed, IsAsking, IsAtStage, IsCommitting, IsFinished, IsLooking, IsRunning, IsSending, IsStarting, IsVerifying, IsWatching, command_at, is_open, judged, next_by, next_closing, next_command}
use Rattle.firmware_update.proofs.Told.{fits}

query : (x : Exchange) (command : Command) → x.command ≡ command → IsQuery command → IsQuery x.command
query x command is q = subst IsQuery (sym is) q

the : (x : Exchange) (wanted : Command) → Some wanted ≡ Some x.command → x.command ≡ wanted
the x wanted e = cc

never : (b : Bool) (one two : Stage) (cause : Cause) → (cond b (On one) (On two) ≡ Fails cause) ⊎ ((cause ≡ causes.GaveUp) × (cond b (On one) (On two) ≡ Again)) → ⊥
never true one two cause (inl e) = absurd cc
never true one two cause (inr (g, e)) = absurd cc
never false one two cause (inl e) = absurd cc
never false one two cause (inr (g, e)) = absurd cc

module _ (size : ℕ) where
  sent : (x : Exchange) (command : Command) (before : History) → x.command ≡ command → MaySend size command before → MaySend size x.command before
  sent x command before is may = subst (λ (c : Command). MaySend size c before) (sym is) may

  -- ---- before the Start

  asking_queries : (h : History) → IsAsking h → OnlyQueries h
  asking_queries [] at = tt
  asking_queries (x ∷ before) (missed, at) = (query x Features missed.0 tt, asking_queries before at)

  asking_safe : (h : History) → IsAsking h → IsSafe size h
  asking_safe [] at = tt
  asking_safe (x ∷ before) (missed, at) = (sent x Features before missed.0 (asking_queries before at), asking_safe before at)

  looking_queries : (header : ℕ) (h : History) → IsLooking size header h → OnlyQueries h
  looking_queries header [] at = absurd at
  looking_queries header (x ∷ before) (inl (missed, at)) = (query x Info missed.0 tt, looking_queries header before at)
  looking_queries header (x ∷ before) (inr (tells, at)) = (query x Features tells.1 tt, asking_queries before at)

  looking_safe : (header : ℕ) (h : History) → IsLooking size header h → IsSafe size h
  looking_safe header [] at = absurd at
  looking_safe header (x ∷ before) (inl (missed, at)) = (sent x Info before missed.0 tt, looking_safe header before at)
  looking_safe header (x ∷ before) (inr (tells, at)) = (sent x Features before tells.1 (asking_queries before at), asking_safe before at)

  looking_tells : (header : ℕ) (h : History) → IsLooking size header h → Stands (ReportsStartSize size header) h
  looking_tells header [] at = absurd at
  looking_tells header (x ∷ before) (inl (missed, at)) = inr (looking_tells header before at)
  looking_tells header (x ∷ before) (inr (tells, at)) = inl tells

  looking_fits : (header : ℕ) (h : History) → IsLooking size header h → header < size
  looking_fits header [] at = absurd at
  looking_fits header (x ∷ before) (inl (missed, at)) = looking_fits header before at
  looking_fits header (x ∷ before) (inr ((reply, is, gave, tells), at)) = fits size header reply.items tells

  pub starting_may : (header : ℕ) (old : Bank) (h : History) → IsStarting size header old h → MaySend size (Start header) h
  starting_may header old [] at = absurd at
  starting_may header old (x ∷ before) (tells, at) =
      ((query x Info tells.1 tt, looking_queries header before at), inr (looking_tells header before at), (old, tells))

  pub starting_safe : (header : ℕ) (old : Bank) (h : History) → IsStarting size header old h → IsSafe size h
  starting_safe header old [] at = absurd at
  starting_safe header old (x ∷ before) (tells, at) = (sent x Info before tells.1 tt, looking_safe header before at)

  starting_fits : (header : ℕ) (old : Bank) (h : History) → IsStarting size header old h → header < size
  starting_fits header old [] at = absurd at
  starting_fits header old (x ∷ before) (tells, at) = looking_fits header before at

  starting_stood : (header : ℕ) (old : Bank) (h : History) → IsStarting size header old h → Stands (ReportsStanding old) h
  starting_stood header old [] at = absurd at
  starting_stood header old (x ∷ before) (tells, at) = inl tells

  -- ---- the blocks

  pub sending_received : (header : ℕ) (old : Bank) (address : ℕ) (h : History) → IsSending size header old address h → Received size header address h
  sending_received header old address [] at = absurd at
  sending_received header old address (x ∷ before) (inl (missed, less, at)) = inl (missed, sending_received header old address before at)
  sending_received header old address (x ∷ before) (inr (inl (none, began, at))) = inr (inl (none, began))
  sending_received header old address (x ∷ before) (inr (inr (earlier, is, less, taken, at))) = inr (inr (earlier, is, taken, sending_received header old earlier before at))

  pub sending_safe : (header : ℕ) (old : Bank) (address : ℕ) (h : History) → IsSending size header old address h → IsSafe size h
  sending_safe header old address [] at = absurd at
  sending_safe header old address (x ∷ before) (inl (missed, less, at)) =
      (sent x (Block header address) before missed.0 (sending_received header old address before at, less), sending_safe header old address before at)
  sending_safe header old address (x ∷ before) (inr (inl (none, began, at))) =
      (sent x (Start header) before began.1 (starting_may header old before at), starting_safe header old before at)
  sending_safe header old address (x ∷ before) (inr (inr (earlier, is, less, taken, at))) =
      (sent x (Block header earlier) before taken.1 (sending_received header old earlier before at, less), sending_safe header old earlier before at)

  pub sending_fits : (header : ℕ) (old : Bank) (address : ℕ) (h : History) → IsSending size header old address h → header < size
  sending_fits header old address [] at = absurd at
  sending_fits header old address (x ∷ before) (inl (missed, less, at)) = sending_fits header old address before at
  sending_fits header old address (x ∷ before) (inr (inl (none, began, at))) = starting_fits header old before at
  sending_fits header old address (x ∷ before) (inr (inr (earlier, is, less, taken, at))) = sending_fits header old earlier before at

  pub sending_stood : (header : ℕ) (old : Bank) (address : ℕ) (h : History) → IsSending size header old address h → Stands (ReportsStanding old) h
  sending_stood header old address [] at = absurd at
  sending_stood header old address (x ∷ before) (inl (missed, less, at)) = inr (sending_stood header old address before at)
  sending_stood header old address (x ∷ before) (inr (inl (none, began, at))) = inr (starting_stood header old before at)
  sending_stood header old address (x ∷ before) (inr (inr (earlier, is, less, taken, at))) = inr (sending_stood header old earlier before at)

  -- ---- all were sent

  complete_may : (header : ℕ) (old : Bank) (h : History) → IsSending size header old (size - header) h → MaySend size Complete h
  complete_may header old h at = (header, sending_fits header old (size - header) h at, sending_received header old (size - header) h at)

  running_may : (old : Bank) (h : History) → IsRunning size old h → MaySend size Run h
  running_may old [] at = absurd at
  running_may old (x ∷ before) (done, (header, at)) = done

  pub running_safe : (old : Bank) (h : History) → IsRunning size old h → IsSafe size h
  running_safe old [] at = absurd at
  running_safe old (x ∷ before) (done, (header, at)) = (sent x Complete before done.1 (complete_may header old before at), sending_safe header old (size - header) before at)

  running_stood : (old : Bank) (h : History) → IsRunning size old h → Stands (ReportsStanding old) h
  running_stood old [] at = absurd at
  running_stood old (x ∷ before) (done, (header, at)) = inr (sending_stood header old (size - header) before at)

  pub watching_safe : (old : Bank) (h : History) → IsWatching size old h → IsSafe size h
  watching_safe old [] at = absurd at
  watching_safe old (x ∷ before) (inl (is, at)) = (sent x Info before is tt, watching_safe old before at)
  watching_safe old (x ∷ before) (inr (ran, at)) = (sent x Run before ran.0 (running_may old before at), running_safe old before at)

  watching_ran : (old : Bank) (h : History) → IsWatching size old h → Stands (MayHave Run) h
  watching_ran old [] at = absurd at
  watching_ran old (x ∷ before) (inl (is, at)) = inr (watching_ran old before at)
  watching_ran old (x ∷ before) (inr (ran, at)) = inl ran

  watching_stood : (old : Bank) (h : History) → IsWatching size old h → Stands (ReportsStanding old) h
  watching_stood old [] at = absurd at
  watching_stood old (x ∷ before) (inl (is, at)) = inr (watching_stood old before at)
  watching_stood old (x ∷ before) (inr (ran, at)) = inr (running_stood old before at)

  committing_may : (old : Bank) (h : History) → IsCommitting size old h → MaySend size Commit h
  committing_may old [] at = absurd at
  committing_may old (x ∷ before) (tells, at) = (old, tells, inr (watching_ran old before at), inr (watching_stood old before at))

  pub committing_safe : (old : Bank) (h : History) → IsCommitting size old h → IsSafe size h
  committing_safe old [] at = absurd at
  committing_safe old (x ∷ before) (tells, at) = (sent x Info before tells.1 tt, watching_safe old before at)

  pub verifying_safe : (old : Bank) (h : History) → IsVerifying size old h → IsSafe size h
  verifying_safe old [] at = absurd at
  verifying_safe old (x ∷ before) (inl (is, at)) = (sent x Info before is tt, verifying_safe old before at)
  verifying_safe old (x ∷ before) (inr (done, at)) = (sent x Commit before done.0 (committing_may old before at), committing_safe old before at)

  pub finished_safe : (h : History) → IsFinished size h → IsSafe size h
  finished_safe [] at = absurd at
  finished_safe (x ∷ before) (old, tells, at) = (sent x Info before tells.1 tt, verifying_safe old before at)

  -- ---- all stages

  at_safe : (stage : Stage) (h : History) → IsAtStage size stage h → IsSafe size h
  at_safe Asking h at = asking_safe h at
  at_safe (Looking header) h at = looking_safe header h at.0
  at_safe (Starting header old) h at = starting_safe header old h at.0
  at_safe (Sending header old address) h at = sending_safe header old address h at.0
  at_safe (Running old) h at = running_safe old h at
  at_safe (Watching old) h at = watching_safe old h at
  at_safe (Committing old) h at = committing_safe old h at
  at_safe (Verifying old) h at = verifying_safe old h at
  at_safe Finished h at = finished_safe h at

  to : (command wanted : Command) (h : History) → Some wanted ≡ Some command → MaySend size wanted h → MaySend size command h
  to command wanted h is may = let e : wanted ≡ command = cc in subst (λ (c : Command). MaySend size c h) e may

  sending_may : (header : ℕ) (old : Bank) (address : ℕ) (h : History) (b : Bool) → (block_length size header address == 0) ≡ b
      → IsAtStage size (Sending header old address) h → MaySend size (cond b Complete (Block header address)) h
  sending_may header old address h true s at =
      let none = eqb-true _ _ s in
      let few = at.1 in
      let end : address ≡ size - header = omega (arith, none, few) in
      complete_may header old h (subst (λ (a : ℕ). IsSending size header old a h) end at.0)
  sending_may header old address h false s at =
      let some = eqb-false _ _ s in
      let few = at.1 in
      (sending_received header old address h at.0, omega (arith, some, few))

  pub at_may : (stage : Stage) (h : History) (command : Command) → IsAtStage size stage h → command_at size stage ≡ Some command → MaySend size command h
  at_may Asking h command at is = to command Features h is (asking_queries h at)
  at_may (Looking header) h command at is = to command Info h is tt
  at_may (Starting header old) h command at is = to command (Start header) h is (starting_may header old h at.0)
  at_may (Sending header old address) h command at is = to command _ h is (sending_may header old address h _ refl at)
  at_may (Running old) h command at is = to command Run h is (running_may old h at)
  at_may (Watching old) h command at is = to command Info h is tt
  at_may (Committing old) h command at is = to command Commit h is (committing_may old h at)
  at_may (Verifying old) h command at is = to command Info h is tt
  at_may Finished h command at is = absurd cc

  -- ---- after a fault

  going : (x : Exchange) (command : Command) (outcome : Outcome) → x.command ≡ command → x.outcome ≡ outcome → GoesOn command outcome → GoesOn x.command x.outcome
  going x command outcome is was goes = subst (λ (c : Command). GoesOn c x.outcome) (sym is) (subst (GoesOn command) (sym was) goes)

  sending_downloading : (header : ℕ) (old : Bank) (address : ℕ) (h : History) → IsSending size header old address h → IsDownloading h
  sending_downloading header old address [] at = absurd at
  sending_downloading header old address (x ∷ before) (inl (missed, less, at)) =
      inr (going x (Block header address) x.outcome missed.0 refl tt, sending_downloading header old address before at)
  sending_downloading header old address (x ∷ before) (inr (inl (none, began, at))) = inl (subst IsStart (sym began.1) tt)
  sending_downloading header old address (x ∷ before) (inr (inr (earlier, is, less, taken, at))) =
      inr (going x (Block header earlier) x.outcome taken.1 refl tt, sending_downloading header old earlier before at)

  block_goes : (header : ℕ) (old : Bank) (address : ℕ) (cause : Cause) (x : Exchange) (b : Bool) (outcome : Outcome) → x.outcome ≡ outcome
      → x.command ≡ cond b Complete (Block header address)
      → (judged size (Sending header old address) outcome ≡ Fails cause) ⊎ ((cause ≡ causes.GaveUp) × (judged size (Sending header old address) outcome ≡ Again))
      → GoesOn x.command x.outcome
  block_goes header old address cause x false outcome was is why = going x (Block header address) outcome is was tt
  block_goes header old address cause x true (Succeeded reply) was is why = absurd (never _ _ _ cause why)
  block_goes header old address cause x true (Failed code) was is why = going x Complete (Failed code) is was tt
  block_goes header old address cause x true outcomes.Unsent was is why = going x Complete outcomes.Unsent is was tt
  block_goes header old address cause x true outcomes.Unknown was is why = going x Complete outcomes.Unknown is was tt

  failed_downloading : (stage : Stage) (cause : Cause) (x : Exchange) (before : History) → HasFailed size stage cause (x ∷ before) → is_open stage cause ≡ true → IsDownloading (x ∷ before)
  failed_downloading (Starting header old) causes.Unknown x before (is, why, at) opened = inl (subst IsStart (sym (the x (Start header) is)) tt)
  failed_downloading (Starting header old) (causes.LeftOpen code) x before (is, why, at) opened = inl (subst IsStart (sym (the x (Start header) is)) tt)
  failed_downloading (Starting header old) (causes.Refused code) x before has opened = absurd cc
  failed_downloading (Starting header old) causes.Unsent x before has opened = absurd cc
  failed_downloading (Starting header old) causes.Unsupported x before has opened = absurd cc
  failed_downloading (Starting header old) causes.NotStanding x before has opened = absurd cc
  failed_downloading (Starting header old) causes.GaveUp x before has opened = absurd cc
  failed_downloading (Sending header old address) cause x before (is, why, at) opened =
      inr (block_goes header old address cause x _ x.outcome refl (the x _ is) why, sending_downloading header old address before at.0)
  failed_downloading Asking cause x before has opened = absurd cc
  failed_downloading (Looking header) cause x before has opened = absurd cc
  failed_downloading (Running old) cause x before has opened = absurd cc
  failed_downloading (Watching old) cause x before has opened = absurd cc
  failed_downloading (Committing old) cause x before has opened = absurd cc
  failed_downloading (Verifying old) cause x before has opened = absurd cc
  failed_downloading Finished cause x before has opened = absurd cc

  aborts_downloading : (stage : Stage) (cause : Cause) (h : History) → AbortsOn size stage cause h → is_open stage cause ≡ true → IsDownloading h
  aborts_downloading stage cause [] at opened = absurd at
  aborts_downloading stage cause (x ∷ before) (inl has) opened = failed_downloading stage cause x before has opened
  aborts_downloading stage cause (x ∷ before) (inr (missed, still, at)) opened =
      inr (going x Abort x.outcome missed.0 refl tt, aborts_downloading stage cause before at opened)

  aborts_safe : (stage : Stage) (cause : Cause) (h : History) → AbortsOn size stage cause h → IsSafe size h
  aborts_safe stage cause [] at = absurd at
  aborts_safe stage cause (x ∷ before) (inl (is, why, at)) = (at_may stage before x.command at is, at_safe stage before at)
  aborts_safe stage cause (x ∷ before) (inr (missed, opened, at)) =
      (sent x Abort before missed.0 (aborts_downloading stage cause before at opened), aborts_safe stage cause before at)

  closed_safe : (stage : Stage) (cause : Cause) (closing : Closing) (h : History) → HasClosed size stage cause closing h → IsSafe size h
  closed_safe stage cause Due h at = aborts_safe stage cause h at
  closed_safe stage cause Closed [] at = absurd at
  closed_safe stage cause Closed (x ∷ before) (done, opened, at) =
      (sent x Abort before done.1 (aborts_downloading stage cause before at opened), aborts_safe stage cause before at)
  closed_safe stage cause Left [] at = absurd at
  closed_safe stage cause Left (x ∷ before) (is, opened, at) =
      (sent x Abort before is (aborts_downloading stage cause before at opened), aborts_safe stage cause before at)

  pub come_safe : (fault : Option Cause) (stage : Stage) (closing : Closing) (h : History) → HasComeTo size stage fault closing h → IsSafe size h
  come_safe None stage closing h at = at_safe stage h at.0
  come_safe (Some cause) stage closing h at = closed_safe stage cause closing h at

  asked : (o : Option Command) (command : Command) → next_command o ≡ Send command → o ≡ Some command
  asked None command e = absurd cc
  asked (Some wanted) command e = cc

  closing_may : (stage : Stage) (cause : Cause) (closing : Closing) (h : History) (command : Command) (b : Bool) → is_open stage cause ≡ b → HasClosed size stage cause closing h
      → next_closing b closing cause ≡ Send command → MaySend size command h
  closing_may stage cause Due h command true opened at asks =
      let e : Abort ≡ command = cc in subst (λ (c : Command). MaySend size c h) e (aborts_downloading stage cause h at opened)
  closing_may stage cause Closed h command true opened at asks = absurd cc
  closing_may stage cause Left h command true opened at asks = absurd cc
  closing_may stage cause closing h command false opened at asks = absurd cc

  pub come_may : (fault : Option Cause) (stage : Stage) (closing : Closing) (h : History) (command : Command) → HasComeTo size stage fault closing h
      → next_by fault stage closing (command_at size stage) ≡ Send command → MaySend size command h
  come_may None stage closing h command at asks = at_may stage h command at.0 (asked _ command asks)
  come_may (Some cause) stage closing h command at asks = closing_may stage cause closing h command (is_open stage cause) refl at asks
