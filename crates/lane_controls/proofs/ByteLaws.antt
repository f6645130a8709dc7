-- What a step on one byte adds to what is known of it, and of another.
use Rattle.std.proofs.Common.{◌≡◌, ℕ, ◌+◌, Bool, true, cond, nat_eq, ◌∷◌, Some, None, slice_index, refl, ap}
use Rattle.std.proofs.lemmas.Bool.{eq-eqb}
use Rattle.arrayvec.specs.ArrayVec.{ArrayVec}
use Rattle.bus_model.specs.declared.operation.Reply.{Reply}
use Rattle.bus_model.specs.declared.operation.Reply.TheVariants.{Bytes}
use Rattle.paged_memory.specs.PageAddressing.{History}
use Rattle.paged_memory.proofs.KnownPageLaws.{step_of}
use Rattle.lane_controls.specs.ByteHistories.{is_last_refused, last_read, last_stored, read_at, store_at, stores_at, was_refused}

pub itself : (a : ℕ) → nat_eq a a ≡ true
itself a = eq-eqb a a refl

module _ (a : ℕ) (history : History) where
  pub read_now : (bytes : ArrayVec ℕ) → last_read a (step_of (read_at a) (Bytes bytes) ∷ history) ≡ Some (slice_index bytes.items 0)
  read_now bytes = ap (λ (b : Bool). cond b (Some (slice_index bytes.items 0)) (last_read a history)) (itself a)

  pub stored_now : (byte : ℕ) (reply : Reply) → last_read a (step_of (store_at a byte) reply ∷ history) ≡ None
  stored_now byte reply = ap (λ (b : Bool). cond b None (last_read a history)) (itself a)

  pub stores_more : (byte : ℕ) (reply : Reply) → stores_at a (step_of (store_at a byte) reply ∷ history) ≡ stores_at a history + 1
  stores_more byte reply = ap (λ (b : Bool). cond b (stores_at a history + 1) (stores_at a history)) (itself a)

  pub refused_now : (byte : ℕ) (reply : Reply) → is_last_refused a (step_of (store_at a byte) reply ∷ history) ≡ was_refused reply
  refused_now byte reply = ap (λ (b : Bool). cond b (was_refused reply) (is_last_refused a history)) (itself a)

  pub stored_last : (byte : ℕ) (reply : Reply) → last_stored a (step_of (store_at a byte) reply ∷ history) ≡ Some byte
  stored_last byte reply = ap (λ (b : Bool). cond b (Some byte) (last_stored a history)) (itself a)
