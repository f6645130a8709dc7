-- What came of a command brings an update from the stage that it was at to the one that it is at then.
use Rattle.std.proofs.Common.{◌≡◌, ℕ, ◌+◌, ◌-◌, ◌<◌, ◌==◌, nat_le, nat_lt, ◌&&◌, Bool, true, false, cond, List, ◌∷◌, length, Option, Some, None, get_or, arith, refl, sym, subst, inl, inr}
use Rattle.std.proofs.lemmas.Bool.{and_parts, eqb-true, eqb-false, ltb-true}
use Rattle.arrayvec.specs.ArrayVec.{ArrayVec}
use Rattle.firmware_update.specs.declared.bank.Bank.{Bank}
use Rattle.firmware_update.specs.declared.command.Command.{Command}
use Rattle.firmware_update.specs.declared.command.Command.TheVariants.{Features, Info, Start, Block, Complete, Abort, Run, Commit}
use Rattle.firmware_update.specs.declared.judgement.Judgement.{Judgement}
use Rattle.firmware_update.specs.declared.judgement.Judgement.TheVariants.{On, Again, Fails}
use Rattle.command_block.specs.declared.outcome.Outcome.{Outcome}
use Rattle.command_block.specs.declared.outcome.Outcome.TheVariants.{Succeeded, Failed}
use Rattle.command_block.specs.declared.outcome.Outcome.TheVariants as outcomes
use Rattle.firmware_update.specs.declared.update.Cause.{Cause}
use Rattle.firmware_update.specs.declared.update.Cause.TheVariants.{GaveUp}
use Rattle.firmware_update.specs.declared.update.Update.{Update}
use Rattle.firmware_update.specs.declared.update.UpdateNext.TheVariants.{Send}
use Rattle.firmware_update.specs.declared.update.Closing.{Closing}
use Rattle.firmware_update.specs.declared.update.Closing.TheVariants.{Due, Closed, Left}
use Rattle.firmware_update.specs.declared.update.Stage.{Stage}
use Rattle.firmware_update.specs.declared.update.Stage.TheVariants.{Asking, Looking, Starting, Sending, Running, Watching, Committing, Verifying, Finished}
use Rattle.firmware_update.specs.Blocks.{block_length}
use Rattle.firmware_update.specs.Replies.{new_is_committed, new_runs, standing_bank, start_size, takes_blocks}
use Rattle.firmware_update.specs.Exchanges.{History, IsNoAnswer}
use Rattle.firmware_update.specs.Progress.{AbortsOn, HasClosed, HasComeTo, HasFailed, IsAt, IsAtStage, IsSending, aborted, after_features, after_info, command_at, exchange_of, is_open, judged, most_tries, on_or_again, next, next_by, next_closing, next_command, settled, taken, taken_by}

-- the command that is sent is the stage's
the : (command wanted : Command) → Some wanted ≡ Some command → command ≡ wanted
the command wanted e = cc

pub tested : (few fit : Bool) (n header : ℕ) → cond few None (cond fit (Some n) None) ≡ Some header → (fit ≡ true) × (n ≡ header)
tested true fit n header e = absurd cc
tested false true n header e = (refl, cc)
tested false false n header e = absurd cc

-- what a Start takes is less than the file
pub fits : (size header : ℕ) (reply : List ℕ) → start_size size reply ≡ Some header → header < size
fits size header reply e = let got = tested (nat_lt (length reply) 18) (takes_blocks (get_or reply 5 0) && nat_le (get_or reply 2 0) 112 && nat_lt (get_or reply 2 0) size) (get_or reply 2 0) header e in
    let less : get_or reply 2 0 < size = ltb-true (get_or reply 2 0) size (and_parts _ _ got.0).1 in
    omega (arith, less, got.1)

module _ (size : ℕ) (command : Command) (history : History) (after : Stage) where
  features : (reply : ArrayVec ℕ) (o : Option ℕ) → start_size size reply.items ≡ o → IsAtStage size Asking history → command ≡ Features
      → after_features o ≡ On after → IsAtStage size after (exchange_of command (Succeeded reply) ∷ history)
  features reply None s at is e = absurd cc
  features reply (Some header) s at is e =
      let stage : Looking header ≡ after = cc in
      subst (λ (st : Stage). IsAtStage size st (exchange_of command (Succeeded reply) ∷ history)) stage
      ((inr ((reply, is, refl, s), at)), fits size header reply.items s)

  info : (header : ℕ) (reply : ArrayVec ℕ) (o : Option Bank) → standing_bank reply.items ≡ o → IsAtStage size (Looking header) history → command ≡ Info
      → after_info header o ≡ On after → IsAtStage size after (exchange_of command (Succeeded reply) ∷ history)
  info header reply None s at is e = absurd cc
  info header reply (Some old) s at is e =
      let stage : Starting header old ≡ after = cc in
      subst (λ (st : Stage). IsAtStage size st (exchange_of command (Succeeded reply) ∷ history)) stage
      (((reply, is, refl, s), at.0), at.1)

  blocks : (header : ℕ) (old : Bank) (address : ℕ) (reply : ArrayVec ℕ) (b : Bool) → (block_length size header address == 0) ≡ b
      → IsAtStage size (Sending header old address) history → (cond b Complete (Block header address)) ≡ command
      → (cond b (On (Running old)) (On (Sending header old (address + block_length size header address)))) ≡ On after
      → IsAtStage size after (exchange_of command (Succeeded reply) ∷ history)
  blocks header old address reply true s at is e =
      let stage : Running old ≡ after = cc in
      let none = eqb-true _ _ s in
      let few = at.1 in
      let end : address ≡ size - header = omega (arith, none, few) in
      subst (λ (st : Stage). IsAtStage size st (exchange_of command (Succeeded reply) ∷ history)) stage
      ((reply, sym is, refl, tt), (header, subst (λ (a : ℕ). IsSending size header old a history) end at.0))
  blocks header old address reply false s at is e =
      let some = eqb-false _ _ s in
      let few = at.1 in
      let more : address + header < size = omega (arith, some, few) in
      let within : address + block_length size header address + header < size + 1 = omega (arith, some, few) in
      let stage : Sending header old (address + block_length size header address) ≡ after = cc in
      subst (λ (st : Stage). IsAtStage size st (exchange_of command (Succeeded reply) ∷ history)) stage
      (inr (inr (address, refl, more, (reply, sym is, refl, tt), at.0)), within)

  watching : (old : Bank) (reply : ArrayVec ℕ) (b : Bool) → new_runs old reply.items ≡ b → IsAtStage size (Watching old) history → command ≡ Info
      → on_or_again (Committing old) b ≡ On after → IsAtStage size after (exchange_of command (Succeeded reply) ∷ history)
  watching old reply false s at is e = absurd cc
  watching old reply true s at is e =
      let stage : Committing old ≡ after = cc in
      subst (λ (st : Stage). IsAtStage size st (exchange_of command (Succeeded reply) ∷ history)) stage
      ((reply, is, refl, s), at)

  verifying : (old : Bank) (reply : ArrayVec ℕ) (b : Bool) → new_is_committed old reply.items ≡ b → IsAtStage size (Verifying old) history → command ≡ Info
      → on_or_again Finished b ≡ On after → IsAtStage size after (exchange_of command (Succeeded reply) ∷ history)
  verifying old reply false s at is e = absurd cc
  verifying old reply true s at is e =
      let stage : Finished ≡ after = cc in
      subst (λ (st : Stage). IsAtStage size st (exchange_of command (Succeeded reply) ∷ history)) stage
      (old, (reply, is, refl, s), at)

  -- what is sent again is no progress
  not_on : (b : Bool) (cause : Cause) → cond b Again (Fails cause) ≡ On after → ⊥
  not_on true cause e = absurd cc
  not_on false cause e = absurd cc

  pub on : (stage : Stage) (outcome : Outcome) → IsAtStage size stage history → command_at size stage ≡ Some command → judged size stage outcome ≡ On after
      → IsAtStage size after (exchange_of command outcome ∷ history)
  on Asking (Succeeded reply) at is e = features reply _ refl at (the command Features is) e
  on (Looking header) (Succeeded reply) at is e = info header reply _ refl at (the command Info is) e
  on (Starting header old) (Succeeded reply) at is e =
      let stage : Sending header old 0 ≡ after = cc in
      let few = at.1 in
      subst (λ (st : Stage). IsAtStage size st (exchange_of command (Succeeded reply) ∷ history)) stage
      (inr (inl (refl, (reply, the command (Start header) is, refl, tt), at.0)), omega (arith, few))
  on (Sending header old address) (Succeeded reply) at is e = blocks header old address reply _ refl at (sym (the command _ is)) e
  on (Running old) (Succeeded reply) at is e =
      let stage : Watching old ≡ after = cc in
      subst (λ (st : Stage). IsAtStage size st (exchange_of command (Succeeded reply) ∷ history)) stage (inr ((the command Run is, tt), at))
  on (Watching old) (Succeeded reply) at is e = watching old reply _ refl at (the command Info is) e
  on (Committing old) (Succeeded reply) at is e =
      let stage : Verifying old ≡ after = cc in
      subst (λ (st : Stage). IsAtStage size st (exchange_of command (Succeeded reply) ∷ history)) stage (inr ((the command Commit is, tt), at))
  on (Verifying old) (Succeeded reply) at is e = verifying old reply _ refl at (the command Info is) e
  on Finished (Succeeded reply) at is e = absurd cc
  on (Watching old) (Failed code) at is e = absurd cc
  on (Verifying old) (Failed code) at is e = absurd cc
  on _ (Failed code) at is e = absurd cc
  on (Sending header old address) outcomes.Unsent at is e = absurd (not_on _ _ e)
  on _ outcomes.Unsent at is e = absurd cc
  on (Sending header old address) outcomes.Unknown at is e = absurd (not_on _ _ e)
  on (Running old) outcomes.Unknown at is e =
      let stage : Watching old ≡ after = cc in
      subst (λ (st : Stage). IsAtStage size st (exchange_of command outcomes.Unknown ∷ history)) stage (inr ((the command Run is, tt), at))
  on (Committing old) outcomes.Unknown at is e =
      let stage : Verifying old ≡ after = cc in
      subst (λ (st : Stage). IsAtStage size st (exchange_of command outcomes.Unknown ∷ history)) stage (inr ((the command Commit is, tt), at))
  on _ outcomes.Unknown at is e = absurd cc

  asked : (o : Option Command) → next_command o ≡ Send command → o ≡ Some command
  asked None e = absurd cc
  asked (Some wanted) e = cc

module _ (size : ℕ) (command : Command) (history : History) where
  -- ---- what is to be sent again

  features_again : (o : Option ℕ) → after_features o ≡ Again → ⊥
  features_again None e = absurd cc
  features_again (Some header) e = absurd cc

  info_again : (header : ℕ) (o : Option Bank) → after_info header o ≡ Again → ⊥
  info_again header None e = absurd cc
  info_again header (Some old) e = absurd cc

  blocks_again : (b : Bool) (one two : Stage) → cond b (On one) (On two) ≡ Again → ⊥
  blocks_again true one two e = absurd cc
  blocks_again false one two e = absurd cc

  more_again : (b : Bool) (cause : Cause) → cond b Again (Fails cause) ≡ Again → b ≡ true
  more_again true cause e = refl
  more_again false cause e = absurd cc

  block_again : (header : ℕ) (old : Bank) (address : ℕ) (outcome : Outcome) (b : Bool) → (block_length size header address == 0) ≡ b → nat_lt 0 (block_length size header address) ≡ true
      → IsAtStage size (Sending header old address) history → cond b Complete (Block header address) ≡ command → IsNoAnswer outcome
      → IsAtStage size (Sending header old address) (exchange_of command outcome ∷ history)
  block_again header old address outcome true s more at is no_answer =
      let none = eqb-true _ _ s in let some = ltb-true _ _ more in absurd (omega (arith, none, some))
  block_again header old address outcome false s more at is no_answer =
      let some = ltb-true _ _ more in
      (inl ((sym is, no_answer), omega (arith, some), at.0), at.1)

  again : (stage : Stage) (outcome : Outcome) → IsAtStage size stage history → command_at size stage ≡ Some command → judged size stage outcome ≡ Again
      → IsAtStage size stage (exchange_of command outcome ∷ history)
  again Asking (Succeeded reply) at is e = absurd (features_again _ e)
  again Asking (Failed code) at is e = absurd cc
  again Asking outcomes.Unsent at is e = ((the command Features is, tt), at)
  again Asking outcomes.Unknown at is e = ((the command Features is, tt), at)
  again (Looking header) (Succeeded reply) at is e = absurd (info_again header _ e)
  again (Looking header) (Failed code) at is e = absurd cc
  again (Looking header) outcomes.Unsent at is e = (inl ((the command Info is, tt), at.0), at.1)
  again (Looking header) outcomes.Unknown at is e = (inl ((the command Info is, tt), at.0), at.1)
  again (Starting header old) (Succeeded reply) at is e = absurd cc
  again (Starting header old) (Failed code) at is e = absurd cc
  again (Starting header old) outcomes.Unsent at is e = absurd cc
  again (Starting header old) outcomes.Unknown at is e = absurd cc
  again (Sending header old address) (Succeeded reply) at is e = absurd (blocks_again _ _ _ e)
  again (Sending header old address) (Failed code) at is e = absurd cc
  again (Sending header old address) outcomes.Unsent at is e =
      block_again header old address outcomes.Unsent _ refl (more_again _ _ e) at (sym (the command _ is)) tt
  again (Sending header old address) outcomes.Unknown at is e =
      block_again header old address outcomes.Unknown _ refl (more_again _ _ e) at (sym (the command _ is)) tt
  again (Running old) (Succeeded reply) at is e = absurd cc
  again (Running old) (Failed code) at is e = absurd cc
  again (Running old) outcomes.Unsent at is e = absurd cc
  again (Running old) outcomes.Unknown at is e = absurd cc
  again (Watching old) outcome at is e = inl (the command Info is, at)
  again (Committing old) (Succeeded reply) at is e = absurd cc
  again (Committing old) (Failed code) at is e = absurd cc
  again (Committing old) outcomes.Unsent at is e = absurd cc
  again (Committing old) outcomes.Unknown at is e = absurd cc
  again (Verifying old) outcome at is e = inl (the command Info is, at)
  again Finished outcome at is e = absurd cc

  -- ---- every outcome

  asks_for : (o : Option Command) → next_command o ≡ Send command → o ≡ Some command
  asks_for None e = absurd cc
  asks_for (Some wanted) e = cc

  abbrev told_to : Update → Outcome → Type 0
  told_to update outcome = IsAt size (exchange_of command outcome ∷ history) update

  failed : (stage : Stage) (tries : ℕ) (closing : Closing) (cause : Cause) (outcome : Outcome) → HasFailed size stage cause (exchange_of command outcome ∷ history) → closing ≡ Due
      → told_to (record { size = size; stage = stage; tries = tries; fault = Some cause; closing = closing }) outcome
  failed stage tries closing cause outcome has due =
      record { sized = refl; come = subst (λ (c : Closing). HasClosed size stage cause c (exchange_of command outcome ∷ history)) (sym due) (inl has) }

  settles : (stage : Stage) (tries : ℕ) (closing : Closing) (outcome : Outcome) (j : Judgement) → judged size stage outcome ≡ j → IsAtStage size stage history → closing ≡ Due
      → command_at size stage ≡ Some command → told_to (settled (record { size = size; stage = stage; tries = tries; fault = None; closing = closing }) j) outcome
  settles stage tries closing outcome (On after) e at due is = record { sized = refl; come = (on size command history after stage outcome at is e, due) }
  settles stage tries closing outcome (Fails cause) e at due is = failed stage most_tries closing cause outcome (is, inl e, at) due
  settles stage tries closing outcome Again e at due is = by (nat_lt 0 tries)
    where
      by : (b : Bool) → told_to (cond b (record { size = size; stage = stage; tries = tries - 1; fault = None; closing = closing }) (record { size = size; stage = stage; tries = most_tries; fault = Some GaveUp; closing = closing })) outcome
      by true = record { sized = refl; come = (again stage outcome at is e, due) }
      by false = failed stage most_tries closing GaveUp outcome (is, inr (refl, e), at) due

  closes : (stage : Stage) (tries : ℕ) (cause : Cause) (outcome : Outcome) → command ≡ Abort → is_open stage cause ≡ true → AbortsOn size stage cause history
      → told_to (aborted (record { size = size; stage = stage; tries = tries; fault = Some cause; closing = Due }) outcome) outcome
  closes stage tries cause (Succeeded reply) is opened at = record { sized = refl; come = ((reply, is, refl, tt), opened, at) }
  closes stage tries cause (Failed code) is opened at = record { sized = refl; come = (is, opened, at) }
  closes stage tries cause outcomes.Unsent is opened at = by (nat_lt 0 tries)
    where
      by : (b : Bool) → told_to (cond b (record { size = size; stage = stage; tries = tries - 1; fault = Some cause; closing = Due }) (record { size = size; stage = stage; tries = tries; fault = Some cause; closing = Left })) outcomes.Unsent
      by true = record { sized = refl; come = inr ((is, tt), opened, at) }
      by false = record { sized = refl; come = (is, opened, at) }
  closes stage tries cause outcomes.Unknown is opened at = by (nat_lt 0 tries)
    where
      by : (b : Bool) → told_to (cond b (record { size = size; stage = stage; tries = tries - 1; fault = Some cause; closing = Due }) (record { size = size; stage = stage; tries = tries; fault = Some cause; closing = Left })) outcomes.Unknown
      by true = record { sized = refl; come = inr ((is, tt), opened, at) }
      by false = record { sized = refl; come = (is, opened, at) }

  ending : (stage : Stage) (tries : ℕ) (cause : Cause) (closing : Closing) (outcome : Outcome) (b : Bool) → is_open stage cause ≡ b → HasClosed size stage cause closing history
      → next_closing b closing cause ≡ Send command
      → told_to (aborted (record { size = size; stage = stage; tries = tries; fault = Some cause; closing = closing }) outcome) outcome
  ending stage tries cause Due outcome true opened at asks = closes stage tries cause outcome (cc) opened at
  ending stage tries cause Closed outcome true opened at asks = absurd cc
  ending stage tries cause Left outcome true opened at asks = absurd cc
  ending stage tries cause closing outcome false opened at asks = absurd cc

  told_by : (stage : Stage) (tries : ℕ) (fault : Option Cause) (closing : Closing) (outcome : Outcome) → HasComeTo size stage fault closing history
      → next_by fault stage closing (command_at size stage) ≡ Send command
      → told_to (taken_by fault (record { size = size; stage = stage; tries = tries; fault = fault; closing = closing }) outcome) outcome
  told_by stage tries None closing outcome at asks = settles stage tries closing outcome (judged size stage outcome) refl at.0 at.1 (asks_for _ asks)
  told_by stage tries (Some cause) closing outcome at asks = ending stage tries cause closing outcome (is_open stage cause) refl at asks

pub told : (history : History) (command : Command) (update : Update) (outcome : Outcome) → IsAt update.size history update → next update ≡ Send command
    → IsAt update.size (exchange_of command outcome ∷ history) (taken update outcome)
told history command update outcome at asks =
    told_by update.size command history update.stage update.tries update.fault update.closing outcome at.come asks
