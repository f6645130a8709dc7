-- While a control is switched off, a link test keeps account.
use Rattle.std.proofs.Common.{◌≡◌, ℕ, ◌-◌, ◌||◌, Bool, true, false, if◌then◌else◌, nat_eq, nat_lt, ◌∷◌, length, Some, slice_index, refl, inr}
use Rattle.std.proofs.lemmas.Bool.{eqb-true}
use Rattle.bus_model.specs.declared.operation.Reply.{Reply}
use Rattle.bus_model.specs.declared.operation.Reply.TheVariants.{Bytes, Done, Refused}
use Rattle.paged_memory.specs.PageAddressing.{History}
use Rattle.paged_memory.proofs.KnownPageLaws.{step_of}
use Rattle.lane_controls.specs.declared.link_test.LinkTest.{LinkTest}
use Rattle.lane_controls.specs.declared.link_test.TestStage.TheVariants as stage
use Rattle.lane_controls.specs.declared.test_plan.Change.{Change}
use Rattle.lane_controls.specs.ByteHistories.{last_read, read_at, store_at}
use Rattle.lane_controls.specs.LinkTests.{after_at, leave_on, next_down}
use Rattle.lane_controls.specs.TestOperations.{is_among, is_of}
use Rattle.lane_controls.specs.TestPlans.{address, restored}
use Rattle.lane_controls.specs.TestSteps.{WasMade}
use Rattle.lane_controls.proofs.ByteLaws.{read_now}
use Rattle.lane_controls.proofs.LinkTestLaws.{IsSoundTest, down_sound, in_hand, named_more, or_swap, read_as_before, read_change, read_in_hand, right_read, right_stored, stays, store_in_hand}
use Rattle.lane_controls.proofs.TestInvariants.{AreKept, IsSound}

module _ (history : History) (test : LinkTest) where
  module _ (change : Change) (reply : Reply) where
    pub restore_turn : (now : ℕ) → IsSound (stage.Restore change now) history test → IsSoundTest (step_of (store_at (address change.switch) (restored change now)) reply ∷ history) (record test { stage = stage.Down change })
    restore_turn now sound =
        let byte = restored change now in
        let right : WasMade test.plan history change = sound.at.0 in
        record {
          kept = store_in_hand history test change byte reply (in_hand history test change reply) (inr (inr (inr (change, now, right, sound.at.1, refl)))) (λ n on. on) sound.kept;
          at = right_stored history test change byte reply right;
        }

  -- ---- a control is to be as before

  module _ (change : Change) (reply : Reply) (sound : IsSound (stage.Down change) history test) where
    off_kept : AreKept test.plan (read_change history test change reply ∷ history) (in_hand history test change reply) test.on.items test.still_on.items
    off_kept = read_in_hand history test change reply sound.kept

    off_right : WasMade test.plan (read_change history test change reply ∷ history) change
    off_right = right_read history test change reply sound.at

    off_stays : IsSound (stage.Down change) (read_change history test change reply ∷ history) test
    off_stays = record { kept = off_kept; at = off_right }

    off_left : test.stage ≡ stage.Down change → (room : Bool)
        → IsSoundTest (read_change history test change reply ∷ history) (if room then next_down (record test { still_on = record { items = change ∷ test.still_on.items } }) else test)
    off_left e true =
        down_sound (read_change history test change reply ∷ history) (record test { still_on = record { items = change ∷ test.still_on.items } }) (record {
          steps = off_kept.steps;
          accounted = named_more test.plan (read_change history test change reply ∷ history) (in_hand history test change reply) (λ a. is_among test.on.items a || (is_of a change || is_among test.still_on.items a))
              (λ a n. or_swap (is_of a change) (is_among test.on.items a) (is_among test.still_on.items a) n) off_kept.accounted;
          on_right = off_kept.on_right;
          left_right = (off_right, off_kept.left_right);
        })
    off_left e false = stays history test (stage.Down change) (read_change history test change reply) e off_stays

    off_by : (byte : ℕ) → last_read (address change.switch) (read_change history test change reply ∷ history) ≡ Some byte → test.stage ≡ stage.Down change → (b : Bool) → nat_eq (restored change byte) byte ≡ b → (more : Bool)
        → IsSoundTest (read_change history test change reply ∷ history) (if b then next_down test else (if more then record test { stage = stage.Restore change byte; tries = test.tries - 1 } else leave_on change test))
    off_by byte read e true same more = down_sound (read_change history test change reply ∷ history) test (read_as_before history test change reply byte read (eqb-true _ _ same) sound.at sound.kept)
    off_by byte read e false same true = record { kept = off_kept; at = (off_right, read) }
    off_by byte read e false same false = off_left e (nat_lt (length test.still_on.items) 16)

  pub down_turn : (change : Change) (reply : Reply) → test.stage ≡ stage.Down change → IsSound (stage.Down change) history test
      → IsSoundTest (step_of (read_at (address change.switch)) reply ∷ history) (after_at (stage.Down change) test reply)
  down_turn change (Bytes bytes) e sound =
      let byte = slice_index bytes.items 0 in
      off_by change (Bytes bytes) sound byte (read_now (address change.switch) history bytes) e (nat_eq (restored change byte) byte) refl (nat_lt 0 test.tries)
  down_turn change Done e sound = stays history test (stage.Down change) (step_of (read_at (address change.switch)) Done) e (off_stays change Done sound)
  down_turn change Refused e sound = stays history test (stage.Down change) (step_of (read_at (address change.switch)) Refused) e (off_stays change Refused sound)
