-- Which commands stand in a history, and which banks keep what they hold.
use Rattle.std.proofs.Common.{◌≡◌, ◌⊎◌, ℕ, nat_lt, true, List, [], ◌∷◌, length, get_or, refl, sym, subst, inl, inr, ◌∙◌}
use Rattle.std.proofs.lemmas.Bool.{and_parts, ltb-true}
use Rattle.command_block.specs.declared.outcome.Outcome.{Outcome}
use Rattle.firmware_update.specs.declared.bank.Bank.{Bank}
use Rattle.firmware_update.specs.declared.bank.Bank.TheVariants.{A, B}
use Rattle.firmware_update.specs.declared.command.Command.{Command}
use Rattle.firmware_update.specs.declared.command.Command.TheVariants.{Features, Info, Start, Block, Complete, Abort, Run, Commit}
use Rattle.firmware_update.specs.declared.exchange.Exchange.{Exchange}
use Rattle.firmware_update.specs.Exchanges.{History, MayHave, Newest, Stands, Succeeds}
use Rattle.firmware_laws.specs.Modules.{Commits, Firmware, IsStanding, IsTrueOf, held}
use Rattle.firmware_update.specs.Replies.{new_is_committed, other_bank, stands}
use Rattle.firmware_update.specs.Safety.{GoesOn, IsDownloading, IsQuery, IsSafe, IsStart, MaySend, OnlyQueries, Received}
use Rattle.firmware_laws.proofs.PowerLoss.{says_stands}

-- ---- which commands stand in a history

pub none_of_queries : (h : History) → OnlyQueries h → Stands (Succeeds Complete) h → ⊥
none_of_queries [] only stands_in = stands_in
none_of_queries (x ∷ before) only (inl (reply, is, was, any)) = subst IsQuery is only.0
none_of_queries (x ∷ before) only (inr stands_in) = none_of_queries before only.1 stands_in

pub none_received : (size header address : ℕ) (h : History) → IsSafe size h → Received size header address h → Stands (Succeeds Complete) h → ⊥
none_received size header address [] safe got stands_in = stands_in
none_received size header address (x ∷ before) safe (inl (missed, got)) (inl (reply, is, was, any)) = let e : Block header address ≡ Complete = sym missed.0 ∙ is in absurd cc
none_received size header address (x ∷ before) safe (inl (missed, got)) (inr stands_in) = none_received size header address before safe.1 got stands_in
none_received size header address (x ∷ before) safe (inr (inl (none, began))) (inl (reply, is, was, any)) = let e : Start header ≡ Complete = sym began.1 ∙ is in absurd cc
none_received size header address (x ∷ before) safe (inr (inl (none, began))) (inr stands_in) =
    let may = subst (λ (c : Command). MaySend size c before) began.1 safe.0 in none_of_queries before may.0 stands_in
none_received size header address (x ∷ before) safe (inr (inr (below, same, taken, got))) (inl (reply, is, was, any)) = let e : Block header below ≡ Complete = sym taken.1 ∙ is in absurd cc
none_received size header address (x ∷ before) safe (inr (inr (below, same, taken, got))) (inr stands_in) = none_received size header below before safe.1 got stands_in

pub newest_in : (command : Command) (h : History) → Newest (Succeeds command) h → Stands (Succeeds command) h
newest_in command [] newest = newest
newest_in command (x ∷ before) newest = inl newest

pub ran_completed : (size : ℕ) (h : History) → IsSafe size h → Stands (MayHave Run) h → Stands (Succeeds Complete) h
ran_completed size [] safe stands_in = stands_in
ran_completed size (x ∷ before) safe (inl (is, may)) = inr (newest_in Complete before (subst (λ (c : Command). MaySend size c before) is safe.0))
ran_completed size (x ∷ before) safe (inr stands_in) = inr (ran_completed size before safe.1 stands_in)

-- a download that may be open was not completed
none_start : (size : ℕ) (command : Command) (before : History) → IsStart command → MaySend size command before → OnlyQueries before
none_start size Features before is may = absurd is
none_start size Info before is may = absurd is
none_start size (Start header) before is may = may.0
none_start size (Block header address) before is may = absurd is
none_start size Complete before is may = absurd is
none_start size Abort before is may = absurd is
none_start size Run before is may = absurd is
none_start size Commit before is may = absurd is

not_complete : (x : Exchange) → GoesOn x.command x.outcome ⊎ IsStart x.command → Succeeds Complete x → ⊥
not_complete x (inl goes) (reply, is, was, any) = subst (λ (o : Outcome). GoesOn Complete o) was (subst (λ (c : Command). GoesOn c x.outcome) is goes)
not_complete x (inr starts) (reply, is, was, any) = subst IsStart is starts

pub none_downloading : (size : ℕ) (h : History) → IsSafe size h → IsDownloading h → Stands (Succeeds Complete) h → ⊥
none_downloading size [] safe opened stands_in = stands_in
none_downloading size (x ∷ before) safe (inl is) (inl done) = not_complete x (inr is) done
none_downloading size (x ∷ before) safe (inl is) (inr stands_in) = none_of_queries before (none_start size x.command before is safe.0) stands_in
none_downloading size (x ∷ before) safe (inr (goes, opened)) (inl done) = not_complete x (inl goes) done
none_downloading size (x ∷ before) safe (inr (goes, opened)) (inr stands_in) = none_downloading size before safe.1 opened stands_in

-- ---- banks

pub told_committed : (old : Bank) (reply : List ℕ) (firmware : Firmware) → IsTrueOf firmware reply → new_is_committed old reply ≡ true → IsStanding (other_bank old) firmware
unfolding new_is_committed
told_committed old reply firmware says e =
    let parts = and_parts (nat_lt 0 (length reply)) (stands (other_bank old) (get_or reply 0 0)) e in
    says_stands (get_or reply 0 0) firmware (other_bank old) (says (ltb-true 0 (length reply) parts.0)) parts.1

pub either : (old bank : Bank) → (bank ≡ old) ⊎ (bank ≡ other_bank old)
either A A = inl refl
either A B = inr refl
either B A = inr refl
either B B = inl refl

pub twice : (bank : Bank) → other_bank (other_bank bank) ≡ bank
twice A = refl
twice B = refl

pub image_kept : (before after : Firmware) (bank : Bank) → Commits before after → (held after bank).image ≡ (held before bank).image
image_kept before after bank (same_run, done, freed, one, other, same_reset) = by (either before.running bank)
  where
    by : (bank ≡ before.running) ⊎ (bank ≡ other_bank before.running) → (held after bank).image ≡ (held before bank).image
    by (inl is) = subst (λ (b : Bank). (held after b).image ≡ (held before b).image) (sym is) one.1
    by (inr is) = subst (λ (b : Bank). (held after b).image ≡ (held before b).image) (sym is) other.1
