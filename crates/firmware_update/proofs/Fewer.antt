-- Each command that is told leaves fewer.
use Rattle.std.proofs.Common.{◌≡◌, ℕ, ◌+◌, ◌-◌, ◌*◌, ◌<◌, ◌≤◌, ◌==◌, nat_lt, Bool, true, false, cond, Option, Some, None, arith, refl, subst}
use Rattle.std.proofs.lemmas.Bool.{eqb-false, ltb-true}
use Rattle.firmware_update.specs.declared.bank.Bank.{Bank}
use Rattle.firmware_update.specs.declared.command.Command.{Command}
use Rattle.firmware_update.specs.declared.judgement.Judgement.{Judgement}
use Rattle.firmware_update.specs.declared.judgement.Judgement.TheVariants.{On, Again, Fails}
use Rattle.command_block.specs.declared.outcome.Outcome.{Outcome}
use Rattle.command_block.specs.declared.outcome.Outcome.TheVariants.{Succeeded, Failed}
use Rattle.command_block.specs.declared.outcome.Outcome.TheVariants as outcomes
use Rattle.firmware_update.specs.declared.update.Cause.{Cause}
use Rattle.firmware_update.specs.declared.update.Cause.TheVariants.{GaveUp}
use Rattle.firmware_update.specs.declared.update.Update.{Update}
use Rattle.firmware_update.specs.declared.update.UpdateNext.TheVariants.{Send}
use Rattle.firmware_update.specs.declared.update.Closing.{Closing}
use Rattle.firmware_update.specs.declared.update.Closing.TheVariants.{Due, Closed, Left}
use Rattle.firmware_update.specs.declared.update.Stage.{Stage}
use Rattle.firmware_update.specs.declared.update.Stage.TheVariants.{Asking, Looking, Starting, Sending, Running, Watching, Committing, Verifying, Finished}
use Rattle.firmware_update.specs.Blocks.{block_length}
use Rattle.firmware_update.specs.Progress.{aborted, after_features, after_info, command_at, is_open, judged, left, left_by, left_closing, most_tries, on_or_again, next, next_by, next_closing, next_command, rank, settled, taken, taken_by}

-- ---- how many commands are left

module _ (size : ℕ) (stage after : Stage) where
  abbrev Lower : Type 0
  Lower = rank size after + 1 ≤ rank size stage

  lower_at : (next_stage : Stage) → On next_stage ≡ On after → rank size next_stage + 1 ≤ rank size stage → Lower
  lower_at next_stage e less = let same : next_stage ≡ after = cc in subst (λ (s : Stage). rank size s + 1 ≤ rank size stage) same less

features_lower : (size : ℕ) (after : Stage) (o : Option ℕ) → after_features o ≡ On after → Lower size Asking after
features_lower size after None e = absurd cc
features_lower size after (Some header) e = lower_at size Asking after (Looking header) e (omega arith)

info_lower : (size header : ℕ) (after : Stage) (o : Option Bank) → after_info header o ≡ On after → Lower size (Looking header) after
info_lower size header after None e = absurd cc
info_lower size header after (Some old) e = lower_at size (Looking header) after (Starting header old) e (omega arith)

block_lower : (size header : ℕ) (old : Bank) (address : ℕ) (after : Stage) (b : Bool) → (block_length size header address == 0) ≡ b
    → cond b (On (Running old)) (On (Sending header old (address + block_length size header address))) ≡ On after → Lower size (Sending header old address) after
block_lower size header old address after true s e = lower_at size (Sending header old address) after (Running old) e (omega arith)
block_lower size header old address after false s e =
    let some = eqb-false _ _ s in
    lower_at size (Sending header old address) after (Sending header old (address + block_length size header address)) e (omega (arith, some))

holds_lower : (size : ℕ) (stage next_stage after : Stage) (b : Bool) → rank size next_stage + 1 ≤ rank size stage → on_or_again next_stage b ≡ On after → Lower size stage after
holds_lower size stage next_stage after true less e = lower_at size stage after next_stage e less
holds_lower size stage next_stage after false less e = absurd cc

not_again : (b : Bool) (cause : Cause) (after : Stage) → cond b Again (Fails cause) ≡ On after → ⊥
not_again true cause after e = absurd cc
not_again false cause after e = absurd cc

lower : (size : ℕ) (stage after : Stage) (outcome : Outcome) → judged size stage outcome ≡ On after → Lower size stage after
lower size Asking after (Succeeded reply) e = features_lower size after _ e
lower size (Looking header) after (Succeeded reply) e = info_lower size header after _ e
lower size (Starting header old) after (Succeeded reply) e = lower_at size (Starting header old) after (Sending header old 0) e (omega arith)
lower size (Sending header old address) after (Succeeded reply) e = block_lower size header old address after _ refl e
lower size (Running old) after (Succeeded reply) e = lower_at size (Running old) after (Watching old) e (omega arith)
lower size (Watching old) after (Succeeded reply) e = holds_lower size (Watching old) (Committing old) after _ (omega arith) e
lower size (Committing old) after (Succeeded reply) e = lower_at size (Committing old) after (Verifying old) e (omega arith)
lower size (Verifying old) after (Succeeded reply) e = holds_lower size (Verifying old) Finished after _ (omega arith) e
lower size Finished after (Succeeded reply) e = absurd cc
lower size (Watching old) after (Failed code) e = absurd cc
lower size (Verifying old) after (Failed code) e = absurd cc
lower size stage after (Failed code) e = absurd cc
lower size (Sending header old address) after outcomes.Unsent e = absurd (not_again _ _ after e)
lower size stage after outcomes.Unsent e = absurd cc
lower size (Sending header old address) after outcomes.Unknown e = absurd (not_again _ _ after e)
lower size (Running old) after outcomes.Unknown e = lower_at size (Running old) after (Watching old) e (omega arith)
lower size (Committing old) after outcomes.Unknown e = lower_at size (Committing old) after (Verifying old) e (omega arith)
lower size stage after outcomes.Unknown e = absurd cc

ranked : (size : ℕ) (stage : Stage) (command : Command) → command_at size stage ≡ Some command → 1 ≤ rank size stage
ranked size Asking command is = omega arith
ranked size (Looking header) command is = omega arith
ranked size (Starting header old) command is = omega arith
ranked size (Sending header old address) command is = omega arith
ranked size (Running old) command is = omega arith
ranked size (Watching old) command is = omega arith
ranked size (Committing old) command is = omega arith
ranked size (Verifying old) command is = omega arith
ranked size Finished command is = absurd cc

closing_left : (closing : Closing) → left_closing closing most_tries ≤ 33
closing_left Due = omega arith
closing_left Closed = omega arith
closing_left Left = omega arith

module _ (size : ℕ) (stage : Stage) (tries : ℕ) (closing : Closing) (outcome : Outcome) where
  settled_fewer : (j : Judgement) → judged size stage outcome ≡ j → 1 ≤ rank size stage
      → left (settled (record { size = size; stage = stage; tries = tries; fault = None; closing = closing }) j) < rank size stage * 34 + tries
  settled_fewer (On after) e some = omega (arith, lower size stage after outcome e)
  settled_fewer (Fails cause) e some = omega (arith, some, closing_left closing)
  settled_fewer Again e some = by (nat_lt 0 tries) refl
    where
      by : (b : Bool) → nat_lt 0 tries ≡ b
          → left (cond b (record { size = size; stage = stage; tries = tries - 1; fault = None; closing = closing }) (record { size = size; stage = stage; tries = most_tries; fault = Some GaveUp; closing = closing }))
          < rank size stage * 34 + tries
      by true is = omega (arith, ltb-true 0 tries is)
      by false is = omega (arith, some, closing_left closing)

  aborted_fewer : (cause : Cause)
      → left (aborted (record { size = size; stage = stage; tries = tries; fault = Some cause; closing = Due }) outcome) < tries + 1
  aborted_fewer cause = by outcome
    where
      again_by : (b : Bool) → nat_lt 0 tries ≡ b
          → left (cond b (record { size = size; stage = stage; tries = tries - 1; fault = Some cause; closing = Due }) (record { size = size; stage = stage; tries = tries; fault = Some cause; closing = Left })) < tries + 1
      again_by true is = omega (arith, ltb-true 0 tries is)
      again_by false is = omega arith

      by : (o : Outcome) → left (aborted (record { size = size; stage = stage; tries = tries; fault = Some cause; closing = Due }) o) < tries + 1
      by (Succeeded reply) = omega arith
      by (Failed code) = omega arith
      by outcomes.Unsent = again_by (nat_lt 0 tries) refl
      by outcomes.Unknown = again_by (nat_lt 0 tries) refl

ending_fewer : (command : Command) (size : ℕ) (stage : Stage) (tries : ℕ) (closing : Closing) (outcome : Outcome) (cause : Cause) (b : Bool) → next_closing b closing cause ≡ Send command
    → left (aborted (record { size = size; stage = stage; tries = tries; fault = Some cause; closing = closing }) outcome) < left_closing closing tries
ending_fewer command size stage tries Due outcome cause true asks = aborted_fewer size stage tries Due outcome cause
ending_fewer command size stage tries Closed outcome cause true asks = absurd cc
ending_fewer command size stage tries Left outcome cause true asks = absurd cc
ending_fewer command size stage tries closing outcome cause false asks = absurd cc

some_of : (command : Command) (o : Option Command) → next_command o ≡ Send command → o ≡ Some command
some_of command None e = absurd cc
some_of command (Some wanted) e = cc

fewer_by : (command : Command) (size : ℕ) (stage : Stage) (tries : ℕ) (fault : Option Cause) (closing : Closing) (outcome : Outcome)
    → next_by fault stage closing (command_at size stage) ≡ Send command
    → left (taken_by fault (record { size = size; stage = stage; tries = tries; fault = fault; closing = closing }) outcome) < left_by fault closing tries (rank size stage)
fewer_by command size stage tries None closing outcome asks =
    settled_fewer size stage tries closing outcome (judged size stage outcome) refl (ranked size stage command (some_of command _ asks))
fewer_by command size stage tries (Some cause) closing outcome asks = ending_fewer command size stage tries closing outcome cause (is_open stage cause) asks

pub fewer : (command : Command) (update : Update) (outcome : Outcome) → next update ≡ Send command → left (taken update outcome) < left update
fewer command update outcome asks = fewer_by command update.size update.stage update.tries update.fault update.closing outcome asks
