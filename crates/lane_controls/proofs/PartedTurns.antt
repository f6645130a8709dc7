-- While results are read and controls are stored, no control is kept twice.
use Rattle.std.proofs.Common.{◌≡◌, ◌≢◌, ◌⊎◌, ℕ, inl, inr, ◌-◌, ◌<◌, ◌≤◌, Bool, true, false, if◌then◌else◌, nat_eq, nat_lt, [], ◌∷◌, length, slice_index, arith, refl}
use Rattle.std.proofs.lemmas.Bool.{eqb-false, ltb-false}
use Rattle.arrayvec.specs.ArrayVec.{ArrayVec}
use Rattle.bus_model.specs.declared.operation.Reply.{Reply}
use Rattle.bus_model.specs.declared.operation.Reply.TheVariants.{Bytes, Done, Refused}
use Rattle.bus_model.specs.declared.operation.Step.{Step}
use Rattle.paged_memory.specs.PageAddressing.{History}
use Rattle.paged_memory.proofs.KnownPageLaws.{step_of}
use Rattle.lane_controls.specs.declared.test_plan.Change.{Change}
use Rattle.lane_controls.specs.declared.link_test.LinkTest.{LinkTest}
use Rattle.lane_controls.specs.declared.link_test.TestStage.{TestStage}
use Rattle.lane_controls.specs.declared.link_test.TestStage.TheVariants as stage
use Rattle.lane_controls.specs.declared.test_plan.Switch.{Switch}
use Rattle.lane_controls.specs.ByteHistories.{read_at, store_at}
use Rattle.lane_controls.specs.TestPlans.{address, restored}
use Rattle.lane_controls.specs.TestOperations.{is_among, read_results, select_results, read_flags, joined}
use Rattle.lane_controls.specs.LinkTests.{after_at, leave_on, next_down}
use Rattle.lane_controls.specs.TestSteps.{AllShowOther, IsTried}
use Rattle.lane_controls.proofs.TestInvariants.{AreDistinct, IsParted}
use Rattle.lane_controls.proofs.ByteLaws.{read_now, stored_last}
use Rattle.lane_controls.proofs.ControlLaws.{within}
use Rattle.lane_controls.proofs.ElsewhereLaws.{IsAt, fetch_is_at, store_is_at}
use Rattle.lane_controls.specs.ResultSets.{code_of}
use Rattle.lane_controls.proofs.PartedLaws.{stays, IsPartedTest, down_parted, no_control, none_on, none_shows, shows_still}

module _ (history : History) (test : LinkTest) where
  -- results and flags stand at no control
  shows_aside : (x : ℕ) (step : Step) → IsAt x step history → ((switch : Switch) → address switch ≢ x) → AllShowOther test.plan history test.still_on.items → AllShowOther test.plan (step ∷ history) test.still_on.items
  shows_aside x step is_at other show = shows_still test.plan history x step is_at test.still_on.items (no_control x test.still_on.items other) show

  above : (x : ℕ) → x < 144 → (switch : Switch) → address switch ≢ x
  above x low switch same = let from : 144 ≤ address switch = (within switch.control).0 in absurd (omega (arith, from, low, same))

  below : (switch : Switch) → address switch ≢ 192
  below switch same = let to : address switch < 184 = (within switch.control).1 in absurd (omega (arith, to, same))

  pub select_turn : (reply : Reply) → test.stage ≡ stage.Selecting → IsParted stage.Selecting history test → IsPartedTest (step_of (select_results test.plan) reply ∷ history) (after_at stage.Selecting test reply)
  select_turn reply e parted = go reply
    where
      at_128 : (r : Reply) → AllShowOther test.plan (step_of (select_results test.plan) r ∷ history) test.still_on.items
      at_128 r = shows_aside 128 (step_of (select_results test.plan) r) (store_is_at 128 (code_of test.plan.results) r history) (above 128 (omega arith)) parted.show

      go : (r : Reply) → IsPartedTest (step_of (select_results test.plan) r ∷ history) (after_at stage.Selecting test r)
      go (Bytes bytes) = stays history test (step_of (select_results test.plan) (Bytes bytes)) stage.Selecting e (record { in_hand = tt; tried = tt; on = parted.on; left = parted.left; show = at_128 (Bytes bytes) })
      go Done = record { in_hand = tt; tried = tt; on = parted.on; left = parted.left; show = at_128 Done }
      go Refused = stays history test (step_of (select_results test.plan) Refused) stage.Selecting e (record { in_hand = tt; tried = tt; on = parted.on; left = parted.left; show = at_128 Refused })

  at_flags : (now : TestStage) (r : Reply) → IsParted now history test → AllShowOther test.plan (step_of read_flags r ∷ history) test.still_on.items
  at_flags now r parted = shows_aside 132 (step_of read_flags r) (fetch_is_at 132 8 r history) (above 132 (omega arith)) parted.show

  pub clear_turn : (reply : Reply) → test.stage ≡ stage.Clearing → IsParted stage.Clearing history test → IsPartedTest (step_of read_flags reply ∷ history) (after_at stage.Clearing test reply)
  clear_turn (Bytes bytes) e parted = record { in_hand = tt; tried = tt; on = parted.on; left = parted.left; show = at_flags stage.Clearing (Bytes bytes) parted }
  clear_turn Done e parted = stays history test (step_of read_flags Done) stage.Clearing e (record { in_hand = tt; tried = tt; on = parted.on; left = parted.left; show = at_flags stage.Clearing Done parted })
  clear_turn Refused e parted = stays history test (step_of read_flags Refused) stage.Clearing e (record { in_hand = tt; tried = tt; on = parted.on; left = parted.left; show = at_flags stage.Clearing Refused parted })

  pub results_turn : (reply : Reply) → test.stage ≡ stage.Reading → IsParted stage.Reading history test → IsPartedTest (step_of read_results reply ∷ history) (after_at stage.Reading test reply)
  results_turn reply e parted = go reply
    where
      at_192 : (r : Reply) → AllShowOther test.plan (step_of read_results r ∷ history) test.still_on.items
      at_192 r = shows_aside 192 (step_of read_results r) (fetch_is_at 192 64 r history) below parted.show

      go : (r : Reply) → IsPartedTest (step_of read_results r ∷ history) (after_at stage.Reading test r)
      go (Bytes bytes) = record { in_hand = tt; tried = tt; on = parted.on; left = parted.left; show = at_192 (Bytes bytes) }
      go Done = stays history test (step_of read_results Done) stage.Reading e (record { in_hand = tt; tried = tt; on = parted.on; left = parted.left; show = at_192 Done })
      go Refused = stays history test (step_of read_results Refused) stage.Reading e (record { in_hand = tt; tried = tt; on = parted.on; left = parted.left; show = at_192 Refused })

  pub collect_turn : (reply : Reply) → test.stage ≡ stage.Collecting → IsParted stage.Collecting history test → IsPartedTest (step_of read_flags reply ∷ history) (after_at stage.Collecting test reply)
  collect_turn reply e parted = go reply
    where
      by : (bytes : ArrayVec ℕ) (more : Bool) → IsPartedTest (step_of read_flags (Bytes bytes) ∷ history)
          (if more then record test { stage = stage.Resting; rounds = test.rounds - 1; flags = joined test.flags bytes.items } else next_down (record test { flags = joined test.flags bytes.items }))
      by bytes true = record { in_hand = tt; tried = tt; on = parted.on; left = parted.left; show = at_flags stage.Collecting (Bytes bytes) parted }
      by bytes false = down_parted (step_of read_flags (Bytes bytes) ∷ history) test.on.items (record test { flags = joined test.flags bytes.items }) refl parted.on parted.left (at_flags stage.Collecting (Bytes bytes) parted)

      go : (r : Reply) → IsPartedTest (step_of read_flags r ∷ history) (after_at stage.Collecting test r)
      go (Bytes bytes) = by bytes (nat_lt 1 test.rounds)
      go Done = stays history test (step_of read_flags Done) stage.Collecting e (record { in_hand = tt; tried = tt; on = parted.on; left = parted.left; show = at_flags stage.Collecting Done parted })
      go Refused = stays history test (step_of read_flags Refused) stage.Collecting e (record { in_hand = tt; tried = tt; on = parted.on; left = parted.left; show = at_flags stage.Collecting Refused parted })

  pub down_turn : (change : Change) (reply : Reply) → test.stage ≡ stage.Down change → IsParted (stage.Down change) history test
      → IsPartedTest (step_of (read_at (address change.switch)) reply ∷ history) (after_at (stage.Down change) test reply)
  down_turn change reply e parted = go reply
    where
      still : (r : Reply) → AllShowOther test.plan (step_of (read_at (address change.switch)) r ∷ history) test.still_on.items
      still r = shows_still test.plan history (address change.switch) (step_of (read_at (address change.switch)) r) (fetch_is_at (address change.switch) 1 r history) test.still_on.items parted.in_hand.0 parted.show

      here : (r : Reply) → IsParted (stage.Down change) (step_of (read_at (address change.switch)) r ∷ history) test
      here r = record { in_hand = parted.in_hand; tried = elim parted.tried [ inl same ↦ inl same | inr gave ↦ inr gave ]; on = parted.on; left = parted.left; show = still r }

      was_tried : nat_lt 0 test.tries ≡ false → (test.tries ≡ test.plan.tries) ⊎ IsTried history change → (test.plan.tries ≡ 0) ⊎ IsTried history change
      was_tried spent (inl same) = let none : test.tries ≤ 0 = ltb-false 0 test.tries spent in inl (omega (arith, none, same))
      was_tried spent (inr gave) = inr gave

      leave : (bytes : ArrayVec ℕ) → nat_lt 0 test.tries ≡ false → restored change (slice_index bytes.items 0) ≢ slice_index bytes.items 0 → (room : Bool)
          → IsPartedTest (step_of (read_at (address change.switch)) (Bytes bytes) ∷ history) (if room then next_down (record test { still_on = record { items = change ∷ test.still_on.items } }) else test)
      leave bytes spent other true =
          down_parted (step_of (read_at (address change.switch)) (Bytes bytes) ∷ history) test.on.items (record test { still_on = record { items = change ∷ test.still_on.items } }) refl parted.on
          (parted.in_hand.1, parted.left) ((slice_index bytes.items 0, read_now (address change.switch) history bytes, other, was_tried spent parted.tried), still (Bytes bytes))
      leave bytes spent other false = stays history test (step_of (read_at (address change.switch)) (Bytes bytes)) (stage.Down change) e (here (Bytes bytes))

      by : (bytes : ArrayVec ℕ) (b : Bool) → nat_eq (restored change (slice_index bytes.items 0)) (slice_index bytes.items 0) ≡ b → (more : Bool) → nat_lt 0 test.tries ≡ more
          → IsPartedTest (step_of (read_at (address change.switch)) (Bytes bytes) ∷ history)
          (if b then next_down test else (if more then record test { stage = stage.Restore change (slice_index bytes.items 0); tries = test.tries - 1 } else leave_on change test))
      by bytes true same more m = down_parted (step_of (read_at (address change.switch)) (Bytes bytes) ∷ history) test.on.items test refl parted.on parted.left (still (Bytes bytes))
      by bytes false same true m = record { in_hand = parted.in_hand; tried = tt; on = parted.on; left = parted.left; show = still (Bytes bytes) }
      by bytes false same false m = leave bytes m (eqb-false _ _ same) (nat_lt (length test.still_on.items) 16)

      go : (r : Reply) → IsPartedTest (step_of (read_at (address change.switch)) r ∷ history) (after_at (stage.Down change) test r)
      go (Bytes bytes) = by bytes (nat_eq (restored change (slice_index bytes.items 0)) (slice_index bytes.items 0)) refl (nat_lt 0 test.tries) refl
      go Done = stays history test (step_of (read_at (address change.switch)) Done) (stage.Down change) e (here Done)
      go Refused = stays history test (step_of (read_at (address change.switch)) Refused) (stage.Down change) e (here Refused)

  pub store_up : (change : Change) (byte : ℕ) (reply : Reply) → test.still_on.items ≡ [] → AreDistinct test.on.items → is_among test.on.items (address change.switch) ≡ false
      → IsPartedTest (step_of (store_at (address change.switch) byte) reply ∷ history) (record test { stage = stage.Switched change })
  store_up change byte reply none distinct apart = record {
    in_hand = (none, apart);
    tried = tt;
    on = distinct;
    left = none_on history test.on.items test.still_on.items none;
    show = none_shows (step_of (store_at (address change.switch) byte) reply ∷ history) test.plan test.still_on.items none;
  }

  pub store_down : (change : Change) (now : ℕ) (reply : Reply) → IsParted (stage.Restore change now) history test
      → IsPartedTest (step_of (store_at (address change.switch) (restored change now)) reply ∷ history) (record test { stage = stage.Down change })
  store_down change now reply parted = record {
    in_hand = parted.in_hand;
    tried = inr (now, stored_last (address change.switch) history (restored change now) reply);
    on = parted.on;
    left = parted.left;
    show = shows_still test.plan history (address change.switch) (step_of (store_at (address change.switch) (restored change now)) reply) (store_is_at (address change.switch) (restored change now) reply history) test.still_on.items parted.in_hand.0 parted.show;
  }
