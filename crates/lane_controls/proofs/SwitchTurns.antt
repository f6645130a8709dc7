-- While a control is switched on, a link test keeps account.
use Rattle.std.proofs.Common.{◌≡◌, ℕ, ◌-◌, ◌||◌, Bool, true, false, cond, if◌then◌else◌, nat_eq, nat_lt, ◌∷◌, length, Some, slice_index, arith, refl, ap, inl, inr, ◌∙◌}
use Rattle.bus_model.specs.declared.operation.Reply.{Reply}
use Rattle.bus_model.specs.declared.operation.Reply.TheVariants.{Bytes, Done, Refused}
use Rattle.paged_memory.specs.PageAddressing.{History}
use Rattle.paged_memory.proofs.KnownPageLaws.{step_of}
use Rattle.lane_controls.specs.declared.link_test.LinkTest.{LinkTest}
use Rattle.lane_controls.specs.declared.link_test.TestFault.{TestFault}
use Rattle.lane_controls.specs.declared.link_test.TestFault.TheVariants as fault
use Rattle.lane_controls.specs.declared.link_test.TestStage.TheVariants as stage
use Rattle.lane_controls.specs.declared.test_plan.Change.{Change}
use Rattle.lane_controls.specs.ByteHistories.{last_read, read_at, store_at, stores_at}
use Rattle.lane_controls.specs.LinkTests.{after_at, is_on, next_up, off_with}
use Rattle.lane_controls.specs.TestHistories.{byte_before}
use Rattle.lane_controls.specs.TestOperations.{is_among, is_of}
use Rattle.lane_controls.specs.TestPlans.{address, switched}
use Rattle.lane_controls.specs.TestSteps.{WasMade}
use Rattle.lane_controls.proofs.ByteLaws.{itself, read_now, stores_more}
use Rattle.lane_controls.proofs.ElsewhereLaws.{store_aside}
use Rattle.lane_controls.proofs.LinkTestLaws.{IsSoundTest, fresh_read, fresh_stored, in_hand, is_kept, knows_aside, knows_read, named_more, or_assoc, or_right, read_change, read_in_hand, right_read, right_stored, stays, store_in_hand, up_sound}
use Rattle.lane_controls.proofs.TestInvariants.{AreKept, IsFound, IsSound, IsUp, on_or_of}
use Rattle.lane_controls.proofs.TestOrder.{IsInTurn, below_on}
use Rattle.lane_controls.proofs.TestPlanLaws.{clear}

module _ (history : History) (test : LinkTest) where
  -- ---- it is switched

  module _ (change : Change) (reply : Reply) where
    pub first_turn : IsSound (stage.Found change) history test
        → IsSoundTest (step_of (store_at (address change.switch) (switched change.switch change.original)) reply ∷ history) (record test { stage = stage.Switched change })
    first_turn sound =
        let a = address change.switch in
        let byte = switched change.switch change.original in
        let is : IsFound test.plan history change = sound.at.1 in
        record {
          kept = store_in_hand history test change byte reply (is_kept test) (inr (inr (inl (change.switch, change.original, is.listed, is.permitted, is.supported, is.read, refl)))) (λ n on. or_right (is_of n change) (is_kept test n) on) sound.kept;
          at = (
            record { knows = knows_aside history test (step_of (store_at (address change.switch) byte) reply) (store_aside (address change.switch) byte reply history) sound.at.0.knows; fresh = fresh_stored history test change byte reply (is_among test.on.items) (λ n on. or_right (is_of n change) (is_among test.on.items n) on) sound.at.0.fresh },
            record {
              listed = is.listed;
              permitted = is.permitted;
              supported = is.supported;
              stored = omega (arith, stores_more a history byte reply);
              was = ap (λ (b : Bool). cond b (cond (nat_eq (stores_at a history) 0) (last_read a history) (byte_before a history)) (byte_before a history)) (itself a)
                  ∙ ap (λ n. cond (nat_eq n 0) (last_read a history) (byte_before a history)) is.none
                  ∙ is.read;
            },
          );
        }

    pub again_turn : (now : ℕ) → IsSound (stage.Again change now) history test
        → IsSoundTest (step_of (store_at (address change.switch) (switched change.switch now)) reply ∷ history) (record test { stage = stage.Switched change })
    again_turn now sound =
        let byte = switched change.switch now in
        let right : WasMade test.plan history change = sound.at.1 in
        record {
          kept = store_in_hand history test change byte reply (in_hand history test change reply) (inr (inr (inl (change.switch, now, right.listed, right.permitted, right.supported, sound.at.2, refl)))) (λ n on. on) sound.kept;
          at = (
            record { knows = knows_aside history test (step_of (store_at (address change.switch) byte) reply) (store_aside (address change.switch) byte reply history) sound.at.0.knows; fresh = fresh_stored history test change byte reply (on_or_of test change) (λ n on. on) sound.at.0.fresh },
            right_stored history test change byte reply right,
          );
        }

  -- ---- it is read back

  module _ (change : Change) (reply : Reply) (turn : IsInTurn test change.switch) (sound : IsSound (stage.Switched change) history test) where
    back_kept : AreKept test.plan (read_change history test change reply ∷ history) (in_hand history test change reply) test.on.items test.still_on.items
    back_kept = read_in_hand history test change reply sound.kept

    back_up : IsUp (read_change history test change reply ∷ history) test (on_or_of test change)
    back_up = record { knows = knows_read history test change reply sound.at.0.knows; fresh = fresh_read history test change reply sound.at.0.fresh }

    back_right : WasMade test.plan (read_change history test change reply ∷ history) change
    back_right = right_read history test change reply sound.at.1

    back_stays : IsSound (stage.Switched change) (read_change history test change reply ∷ history) test
    back_stays = record { kept = back_kept; at = (back_up, back_right) }

    back_off : (fault : TestFault) → IsSoundTest (read_change history test change reply ∷ history) (off_with change fault test)
    back_off fault = record { kept = back_kept; at = back_right }

    back_on : (room : Bool) → IsSoundTest (read_change history test change reply ∷ history)
        (if room then next_up (record test { on = record { items = change ∷ test.on.items } }) else off_with change (fault.TooMany change.switch.control) test)
    back_on true =
        up_sound (read_change history test change reply ∷ history) (record test { on = record { items = change ∷ test.on.items } })
        (λ other at. clear test.plan.switches.items test.next_switch (change ∷ test.on.items) other turn.apart (below_on test change turn) at) back_up.knows back_up.fresh (record {
          steps = back_kept.steps;
          accounted = named_more test.plan (read_change history test change reply ∷ history) (in_hand history test change reply) (λ a. (is_of a change || is_among test.on.items a) || is_among test.still_on.items a)
              (λ a n. or_assoc (is_of a change) (is_among test.on.items a) (is_among test.still_on.items a) ∙ n) back_kept.accounted;
          on_right = (back_right, back_kept.on_right);
          left_right = back_kept.left_right;
        })
    back_on false = back_off (fault.TooMany change.switch.control)

    back_by : (byte : ℕ) → last_read (address change.switch) (read_change history test change reply ∷ history) ≡ Some byte → (b more : Bool)
        → IsSoundTest (read_change history test change reply ∷ history) (if b then is_on change test else (if more then record test { stage = stage.Again change byte; tries = test.tries - 1 } else off_with change (fault.NotSwitched change.switch.control) test))
    back_by byte read true more = back_on (nat_lt (length test.on.items) 16)
    back_by byte read false true = record { kept = back_kept; at = (record { knows = back_up.knows; fresh = back_up.fresh }, back_right, read) }
    back_by byte read false false = back_off (fault.NotSwitched change.switch.control)

  pub switched_turn : (change : Change) (reply : Reply) → test.stage ≡ stage.Switched change → IsInTurn test change.switch → IsSound (stage.Switched change) history test
      → IsSoundTest (step_of (read_at (address change.switch)) reply ∷ history) (after_at (stage.Switched change) test reply)
  switched_turn change (Bytes bytes) e turn sound =
      let byte = slice_index bytes.items 0 in
      back_by change (Bytes bytes) turn sound byte (read_now (address change.switch) history bytes) (nat_eq (switched change.switch byte) byte) (nat_lt 0 test.tries)
  switched_turn change Done e turn sound = stays history test (stage.Switched change) (step_of (read_at (address change.switch)) Done) e (back_stays change Done turn sound)
  switched_turn change Refused e turn sound = stays history test (stage.Switched change) (step_of (read_at (address change.switch)) Refused) e (back_stays change Refused turn sound)
