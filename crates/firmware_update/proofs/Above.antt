-- What the stage and the fault of an update show of the module.
use Rattle.std.proofs.Common.{◌≡◌, ◌⊎◌, ℕ, ◌-◌, ◌≤◌, ◌==◌, ◌||◌, nat_lt, Bool, true, false, cond, [], ◌∷◌, Option, Some, None, arith, refl, sym, subst, inl, inr}
use Rattle.std.proofs.lemmas.Bool.{eqb-true, le-ltb}
use Rattle.arrayvec.specs.ArrayVec.{ArrayVec}
use Rattle.firmware_update.specs.declared.bank.Bank.{Bank}
use Rattle.firmware_update.specs.declared.command.Command.{Command}
use Rattle.firmware_update.specs.declared.command.Command.TheVariants.{Features, Info, Start, Block, Complete, Abort, Run}
use Rattle.firmware_update.specs.declared.judgement.Judgement.TheVariants.{On, Again, Fails}
use Rattle.firmware_update.specs.declared.exchange.Exchange.{Exchange}
use Rattle.command_block.specs.declared.outcome.Outcome.{Outcome}
use Rattle.command_block.specs.declared.outcome.Outcome.TheVariants.{Succeeded, Failed}
use Rattle.command_block.specs.declared.outcome.Outcome.TheVariants as outcomes
use Rattle.firmware_update.specs.declared.update.Cause.{Cause}
use Rattle.firmware_update.specs.declared.update.Cause.TheVariants as causes
use Rattle.firmware_update.specs.declared.update.Closing.{Closing}
use Rattle.firmware_update.specs.declared.update.Closing.TheVariants.{Due, Closed, Left}
use Rattle.firmware_update.specs.declared.update.Stage.{Stage}
use Rattle.firmware_update.specs.declared.update.Stage.TheVariants.{Asking, Looking, Starting, Sending, Running, Watching, Committing, Verifying, Finished}
use Rattle.firmware_update.specs.Blocks.{block_length}
use Rattle.firmware_update.specs.Exchanges.{History, MayHold, Stands, Succeeds}
use Rattle.firmware_update.specs.Safety.{ReportsNew}
use Rattle.firmware_update.specs.KnownStates.{NoneAbove, Shows, known_begun, known_by, known_open, level}
use Rattle.firmware_update.specs.Progress.{AbortsOn, HasClosed, HasComeTo, HasFailed, IsAsking, IsAtStage, IsCommitting, IsFinished, IsLooking, IsRunning, IsSending, IsStarting, IsVerifying, IsWatching, is_open, judged, refused_start, sending}

below : (x : Exchange) (command : Command) (most : ℕ) → x.command ≡ command → level command ≤ most → MayHold x.outcome → level x.command ≤ most
below x command most is low may = subst (λ (c : Command). level c ≤ most) (sym is) low

more : (least most : ℕ) (h : History) → least ≤ most → NoneAbove least h → NoneAbove most h
more least most [] low none = tt
more least most (x ∷ before) low none = ((λ may. let l = none.0 may in omega (arith, l, low)), more least most before low none.1)

module _ (size : ℕ) where
  asking : (h : History) → IsAsking h → NoneAbove 0 h
  asking [] at = tt
  asking (x ∷ before) (missed, at) = (below x Features 0 missed.0 (omega arith), asking before at)

  looking : (header : ℕ) (h : History) → IsLooking size header h → NoneAbove 0 h
  looking header [] at = absurd at
  looking header (x ∷ before) (inl (missed, at)) = (below x Info 0 missed.0 (omega arith), looking header before at)
  looking header (x ∷ before) (inr (tells, at)) = (below x Features 0 tells.1 (omega arith), asking before at)

  starting : (header : ℕ) (old : Bank) (h : History) → IsStarting size header old h → NoneAbove 0 h
  starting header old [] at = absurd at
  starting header old (x ∷ before) (tells, at) = (below x Info 0 tells.1 (omega arith), looking header before at)

  sent : (header : ℕ) (old : Bank) (address : ℕ) (h : History) → IsSending size header old address h → NoneAbove 1 h
  sent header old address [] at = absurd at
  sent header old address (x ∷ before) (inl (missed, less, at)) = (below x (Block header address) 1 missed.0 (omega arith), sent header old address before at)
  sent header old address (x ∷ before) (inr (inl (none, began, at))) = (below x (Start header) 1 began.1 (omega arith), more 0 1 before (omega arith) (starting header old before at))
  sent header old address (x ∷ before) (inr (inr (earlier, is, less, taken, at))) = (below x (Block header earlier) 1 taken.1 (omega arith), sent header old earlier before at)

  running : (old : Bank) (h : History) → IsRunning size old h → NoneAbove 2 h × Stands (Succeeds Complete) h
  running old [] at = absurd at
  running old (x ∷ before) (done, (header, at)) =
      ((below x Complete 2 done.1 (omega arith), more 1 2 before (omega arith) (sent header old (size - header) before at)), inl done)

  watching : (old : Bank) (h : History) → IsWatching size old h → NoneAbove 3 h × Stands (Succeeds Complete) h
  watching old [] at = absurd at
  watching old (x ∷ before) (inl (is, at)) = let w = watching old before at in ((below x Info 3 is (omega arith), w.0), inr w.1)
  watching old (x ∷ before) (inr (ran, at)) =
      let r = running old before at in ((below x Run 3 ran.0 (omega arith), more 2 3 before (omega arith) r.0), inr r.1)

  committing : (old : Bank) (h : History) → IsCommitting size old h → NoneAbove 3 h × Stands (ReportsNew old) h
  committing old [] at = absurd at
  committing old (x ∷ before) (tells, at) = ((below x Info 3 tells.1 (omega arith), (watching old before at).0), inl tells)

  verifying : (old : Bank) (h : History) → IsVerifying size old h → Stands (ReportsNew old) h
  verifying old [] at = absurd at
  verifying old (x ∷ before) (inl (is, at)) = inr (verifying old before at)
  verifying old (x ∷ before) (inr (done, at)) = inr (committing old before at).1

  finished : (h : History) → IsFinished size h → Shows (known_open Finished None) h
  finished [] at = absurd at
  finished (x ∷ before) (old, tells, at) = (old, tells)

  -- while it goes on
  at_shows : (stage : Stage) (h : History) → IsAtStage size stage h → Shows (known_open stage None) h
  at_shows Asking h at = asking h at
  at_shows (Looking header) h at = looking header h at.0
  at_shows (Starting header old) h at = starting header old h at.0
  at_shows (Sending header old address) h at = sent header old address h at.0
  at_shows (Running old) h at = running old h at
  at_shows (Watching old) h at = watching old h at
  at_shows (Committing old) h at = let c = committing old h at in (c.0, (old, c.1))
  at_shows (Verifying old) h at = (old, verifying old h at)
  at_shows Finished h at = finished h at

  the : (x : Exchange) (wanted : Command) → Some wanted ≡ Some x.command → x.command ≡ wanted
  the x wanted e = cc

  -- one that is refused was not carried out, whatever that is judged to be
  refused_shows : (b : Bool) (code : ℕ) (h : History) → NoneAbove 0 h → Shows (known_begun (Some (cond b (causes.LeftOpen code) (causes.Refused code)))) h
  refused_shows true code h none = more 0 1 h (omega arith) none
  refused_shows false code h none = none

  -- a Start that may have been carried out ends it in Unknown
  start_failed : (header : ℕ) (old : Bank) (cause : Cause) (x : Exchange) (before : History) → x.command ≡ Start header → IsAtStage size (Starting header old) before
      → (outcome : Outcome) → x.outcome ≡ outcome
      → (judged size (Starting header old) outcome ≡ Fails cause) ⊎ ((cause ≡ causes.GaveUp) × (judged size (Starting header old) outcome ≡ Again))
      → Shows (known_open (Starting header old) (Some cause)) (x ∷ before)
  start_failed header old cause x before is at (Succeeded reply) was (inl e) = absurd cc
  start_failed header old cause x before is at (Succeeded reply) was (inr (g, e)) = absurd cc
  start_failed header old cause x before is at (Failed code) was (inl e) =
      let c : refused_start code ≡ cause = cc in
      subst (λ (k : Cause). Shows (known_open (Starting header old) (Some k)) (x ∷ before)) c
      (refused_shows (code == 67 || code == 71) code (x ∷ before) ((λ may. absurd (subst MayHold was may)), starting header old before at.0))
  start_failed header old cause x before is at (Failed code) was (inr (g, e)) = absurd cc
  start_failed header old cause x before is at outcomes.Unsent was (inl e) =
      let c : causes.Unsent ≡ cause = cc in
      subst (λ (k : Cause). Shows (known_open (Starting header old) (Some k)) (x ∷ before)) c
      ((λ may. absurd (subst MayHold was may)), starting header old before at.0)
  start_failed header old cause x before is at outcomes.Unsent was (inr (g, e)) = absurd cc
  start_failed header old cause x before is at outcomes.Unknown was (inl e) =
      let c : causes.Unknown ≡ cause = cc in
      subst (λ (k : Cause). Shows (known_open (Starting header old) (Some k)) (x ∷ before)) c
      (below x (Start header) 1 is (omega arith), more 0 1 before (omega arith) (starting header old before at.0))
  start_failed header old cause x before is at outcomes.Unknown was (inr (g, e)) = absurd cc

  -- at the blocks all is Begun, and a Complete that may have been carried out ends it in Unknown
  begun : (header : ℕ) (old : Bank) (address : ℕ) (cause : Cause) (h : History) → NoneAbove 1 h → Shows (known_open (Sending header old address) (Some cause)) h
  begun header old address (causes.Refused code) h none = none
  begun header old address causes.Unsent h none = none
  begun header old address causes.Unknown h none = more 1 2 h (omega arith) none
  begun header old address causes.Unsupported h none = none
  begun header old address causes.NotStanding h none = none
  begun header old address causes.GaveUp h none = none
  begun header old address (causes.LeftOpen code) h none = none

  complete_failed : (header : ℕ) (old : Bank) (address : ℕ) (cause : Cause) (x : Exchange) (before : History) (b : Bool)
      → cond b Complete (Block header address) ≡ x.command → NoneAbove 1 before → (outcome : Outcome) → x.outcome ≡ outcome → (some : Bool) → (b ≡ true → some ≡ false)
      → ((outcome ≡ outcomes.Unknown → b ≡ true → cause ≡ causes.Unknown)) → ((reply : ArrayVec ℕ) → outcome ≡ Succeeded reply → ⊥)
      → Shows (known_open (Sending header old address) (Some cause)) (x ∷ before)
  complete_failed header old address cause x before false is none outcome was some low why not =
      begun header old address cause (x ∷ before) (below x (Block header address) 1 (sym is) (omega arith), none)
  complete_failed header old address cause x before true is none (Succeeded reply) was some low why not = absurd (not reply refl)
  complete_failed header old address cause x before true is none (Failed code) was some low why not =
      begun header old address cause (x ∷ before) ((λ may. absurd (subst MayHold was may)), none)
  complete_failed header old address cause x before true is none outcomes.Unsent was some low why not =
      begun header old address cause (x ∷ before) ((λ may. absurd (subst MayHold was may)), none)
  complete_failed header old address cause x before true is none outcomes.Unknown was some low why not =
      subst (λ (k : Cause). Shows (known_open (Sending header old address) (Some k)) (x ∷ before)) (sym (why refl refl))
      (below x Complete 2 (sym is) (omega arith), more 1 2 before (omega arith) none)

  on_fails : (b : Bool) (s t : Stage) (cause : Cause) → cond b (On s) (On t) ≡ Fails cause → ⊥
  on_fails true s t cause e = absurd cc
  on_fails false s t cause e = absurd cc

  on_again : (b : Bool) (s t : Stage) → cond b (On s) (On t) ≡ Again → ⊥
  on_again true s t e = absurd cc
  on_again false s t e = absurd cc

  unknown_is : (some : Bool) (cause : Cause) → some ≡ false
      → (cond some Again (Fails causes.Unknown) ≡ Fails cause) ⊎ ((cause ≡ causes.GaveUp) × (cond some Again (Fails causes.Unknown) ≡ Again)) → cause ≡ causes.Unknown
  unknown_is true cause low why = absurd cc
  unknown_is false cause low (inl e) = cc
  unknown_is false cause low (inr (g, e)) = absurd cc

  none_left : (n : ℕ) → (n == 0) ≡ true → nat_lt 0 n ≡ false
  none_left n e = let z : n ≡ 0 = eqb-true n 0 e in le-ltb 0 n (omega (arith, z))

  sending_failed : (header : ℕ) (old : Bank) (address : ℕ) (cause : Cause) (x : Exchange) (before : History) → sending size header address ≡ x.command → NoneAbove 1 before
      → (outcome : Outcome) → x.outcome ≡ outcome
      → (judged size (Sending header old address) outcome ≡ Fails cause) ⊎ ((cause ≡ causes.GaveUp) × (judged size (Sending header old address) outcome ≡ Again))
      → Shows (known_open (Sending header old address) (Some cause)) (x ∷ before)
  sending_failed header old address cause x before is none (Succeeded reply) was (inl e) = absurd (on_fails _ _ _ _ e)
  sending_failed header old address cause x before is none (Succeeded reply) was (inr (g, e)) = absurd (on_again _ _ _ e)
  sending_failed header old address cause x before is none (Failed code) was why =
      complete_failed header old address cause x before (block_length size header address == 0) is none (Failed code) was (nat_lt 0 (block_length size header address)) (none_left (block_length size header address))
      (λ e. absurd cc) (λ reply e. absurd cc)
  sending_failed header old address cause x before is none outcomes.Unsent was why =
      complete_failed header old address cause x before (block_length size header address == 0) is none outcomes.Unsent was (nat_lt 0 (block_length size header address)) (none_left (block_length size header address))
      (λ e. absurd cc) (λ reply e. absurd cc)
  sending_failed header old address cause x before is none outcomes.Unknown was why =
      complete_failed header old address cause x before (block_length size header address == 0) is none outcomes.Unknown was (nat_lt 0 (block_length size header address)) (none_left (block_length size header address))
      (λ e b. unknown_is (nat_lt 0 (block_length size header address)) cause (none_left (block_length size header address) b) why) (λ reply e. absurd cc)

  run_failed : (old : Bank) (cause : Cause) (outcome : Outcome)
      → (judged size (Running old) outcome ≡ Fails cause) ⊎ ((cause ≡ causes.GaveUp) × (judged size (Running old) outcome ≡ Again)) → MayHold outcome → ⊥
  run_failed old cause (Succeeded reply) (inl e) may = absurd cc
  run_failed old cause (Succeeded reply) (inr (g, e)) may = absurd cc
  run_failed old cause (Failed code) why may = may
  run_failed old cause outcomes.Unsent why may = may
  run_failed old cause outcomes.Unknown (inl e) may = absurd cc
  run_failed old cause outcomes.Unknown (inr (g, e)) may = absurd cc

  commit_failed : (old : Bank) (cause : Cause) (outcome : Outcome)
      → (judged size (Committing old) outcome ≡ Fails cause) ⊎ ((cause ≡ causes.GaveUp) × (judged size (Committing old) outcome ≡ Again)) → MayHold outcome → ⊥
  commit_failed old cause (Succeeded reply) (inl e) may = absurd cc
  commit_failed old cause (Succeeded reply) (inr (g, e)) may = absurd cc
  commit_failed old cause (Failed code) why may = may
  commit_failed old cause outcomes.Unsent why may = may
  commit_failed old cause outcomes.Unknown (inl e) may = absurd cc
  commit_failed old cause outcomes.Unknown (inr (g, e)) may = absurd cc

  failed_shows : (cause : Cause) (stage : Stage) (h : History) → HasFailed size stage cause h → Shows (known_open stage (Some cause)) h
  failed_shows cause stage [] at = absurd at
  failed_shows cause Asking (x ∷ before) (is, why, at) = (below x Features 0 (the x Features is) (omega arith), asking before at)
  failed_shows cause (Looking header) (x ∷ before) (is, why, at) = (below x Info 0 (the x Info is) (omega arith), looking header before at.0)
  failed_shows cause (Starting header old) (x ∷ before) (is, why, at) = start_failed header old cause x before (the x (Start header) is) at x.outcome refl why
  failed_shows cause (Sending header old address) (x ∷ before) (is, why, at) =
      sending_failed header old address cause x before (sym (the x _ is)) (sent header old address before at.0) x.outcome refl why
  failed_shows cause (Running old) (x ∷ before) (is, why, at) =
      let r = running old before at in (((λ may. absurd (run_failed old cause x.outcome why may)), r.0), inr r.1)
  failed_shows cause (Watching old) (x ∷ before) (is, why, at) =
      let w = watching old before at in ((below x Info 3 (the x Info is) (omega arith), w.0), inr w.1)
  failed_shows cause (Committing old) (x ∷ before) (is, why, at) =
      let c = committing old before at in (((λ may. absurd (commit_failed old cause x.outcome why may)), c.0), (old, inr c.1))
  failed_shows cause (Verifying old) (x ∷ before) (is, why, at) = (old, inr (verifying old before at))
  failed_shows cause Finished (x ∷ before) (is, why, at) = absurd cc

  -- an Abort doesn't go farther
  abort_shows : (stage : Stage) (cause : Cause) (x : Exchange) (before : History) → x.command ≡ Abort → is_open stage cause ≡ true
      → Shows (known_open stage (Some cause)) before → Shows (known_open stage (Some cause)) (x ∷ before)
  abort_shows (Starting header old) causes.Unknown x before is opened none = (below x Abort 1 is (omega arith), none)
  abort_shows (Starting header old) (causes.LeftOpen code) x before is opened none = (below x Abort 1 is (omega arith), none)
  abort_shows (Starting header old) (causes.Refused code) x before is opened none = absurd cc
  abort_shows (Starting header old) causes.Unsent x before is opened none = absurd cc
  abort_shows (Starting header old) causes.Unsupported x before is opened none = absurd cc
  abort_shows (Starting header old) causes.NotStanding x before is opened none = absurd cc
  abort_shows (Starting header old) causes.GaveUp x before is opened none = absurd cc
  abort_shows (Sending header old address) (causes.Refused code) x before is opened none = (below x Abort 1 is (omega arith), none)
  abort_shows (Sending header old address) causes.Unsent x before is opened none = (below x Abort 1 is (omega arith), none)
  abort_shows (Sending header old address) causes.Unknown x before is opened none = (below x Abort 2 is (omega arith), none)
  abort_shows (Sending header old address) causes.Unsupported x before is opened none = (below x Abort 1 is (omega arith), none)
  abort_shows (Sending header old address) causes.NotStanding x before is opened none = (below x Abort 1 is (omega arith), none)
  abort_shows (Sending header old address) causes.GaveUp x before is opened none = (below x Abort 1 is (omega arith), none)
  abort_shows (Sending header old address) (causes.LeftOpen code) x before is opened none = (below x Abort 1 is (omega arith), none)
  abort_shows Asking cause x before is opened none = absurd cc
  abort_shows (Looking header) cause x before is opened none = absurd cc
  abort_shows (Running old) cause x before is opened none = absurd cc
  abort_shows (Watching old) cause x before is opened none = absurd cc
  abort_shows (Committing old) cause x before is opened none = absurd cc
  abort_shows (Verifying old) cause x before is opened none = absurd cc
  abort_shows Finished cause x before is opened none = absurd cc

  open_below : (stage : Stage) (cause : Cause) (h : History) → is_open stage cause ≡ true → Shows (known_open stage (Some cause)) h → NoneAbove 2 h
  open_below (Starting header old) causes.Unknown h opened none = more 1 2 h (omega arith) none
  open_below (Starting header old) (causes.LeftOpen code) h opened none = more 1 2 h (omega arith) none
  open_below (Starting header old) (causes.Refused code) h opened none = absurd cc
  open_below (Starting header old) causes.Unsent h opened none = absurd cc
  open_below (Starting header old) causes.Unsupported h opened none = absurd cc
  open_below (Starting header old) causes.NotStanding h opened none = absurd cc
  open_below (Starting header old) causes.GaveUp h opened none = absurd cc
  open_below (Sending header old address) (causes.Refused code) h opened none = more 1 2 h (omega arith) none
  open_below (Sending header old address) causes.Unsent h opened none = more 1 2 h (omega arith) none
  open_below (Sending header old address) causes.Unknown h opened none = none
  open_below (Sending header old address) causes.Unsupported h opened none = more 1 2 h (omega arith) none
  open_below (Sending header old address) causes.NotStanding h opened none = more 1 2 h (omega arith) none
  open_below (Sending header old address) causes.GaveUp h opened none = more 1 2 h (omega arith) none
  open_below (Sending header old address) (causes.LeftOpen code) h opened none = more 1 2 h (omega arith) none
  open_below Asking cause h opened none = absurd cc
  open_below (Looking header) cause h opened none = absurd cc
  open_below (Running old) cause h opened none = absurd cc
  open_below (Watching old) cause h opened none = absurd cc
  open_below (Committing old) cause h opened none = absurd cc
  open_below (Verifying old) cause h opened none = absurd cc
  open_below Finished cause h opened none = absurd cc

  aborts_shows : (stage : Stage) (cause : Cause) (h : History) → AbortsOn size stage cause h → Shows (known_open stage (Some cause)) h
  aborts_shows stage cause [] at = absurd at
  aborts_shows stage cause (x ∷ before) (inl has) = failed_shows cause stage (x ∷ before) has
  aborts_shows stage cause (x ∷ before) (inr (missed, opened, at)) = abort_shows stage cause x before missed.0 opened (aborts_shows stage cause before at)

  closed_shows : (stage : Stage) (cause : Cause) (closing : Closing) (h : History) → HasClosed size stage cause closing h → Shows (known_by closing (known_open stage (Some cause))) h
  closed_shows stage cause Due h at = aborts_shows stage cause h at
  closed_shows stage cause Closed [] at = absurd at
  closed_shows stage cause Closed (x ∷ before) (done, opened, at) =
      ((below x Abort 2 done.1 (omega arith), open_below stage cause before opened (aborts_shows stage cause before at)), done)
  closed_shows stage cause Left [] at = absurd at
  closed_shows stage cause Left (x ∷ before) (is, opened, at) = abort_shows stage cause x before is opened (aborts_shows stage cause before at)

  pub come_shows : (fault : Option Cause) (stage : Stage) (closing : Closing) (h : History) → HasComeTo size stage fault closing h → Shows (known_by closing (known_open stage fault)) h
  come_shows None stage closing h at = subst (λ (c : Closing). Shows (known_by c (known_open stage None)) h) (sym at.1) (at_shows stage h at.0)
  come_shows (Some cause) stage closing h at = closed_shows stage cause closing h at
