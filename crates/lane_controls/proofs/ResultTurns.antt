-- While results are selected and read, a link test keeps account.
use Rattle.std.proofs.Common.{◌≡◌, ℕ, ◌-◌, ◌<◌, ◌≤◌, Bool, true, false, if◌then◌else◌, nat_lt, ◌∷◌, arith, refl, inl, inr}
use Rattle.arrayvec.specs.ArrayVec.{ArrayVec}
use Rattle.bus_model.specs.declared.operation.Reply.{Reply}
use Rattle.bus_model.specs.declared.operation.Reply.TheVariants.{Bytes, Done, Refused}
use Rattle.paged_memory.specs.PageAddressing.{History}
use Rattle.paged_memory.proofs.KnownPageLaws.{step_of}
use Rattle.lane_controls.specs.declared.link_test.LinkTest.{LinkTest}
use Rattle.lane_controls.specs.declared.link_test.TestStage.TheVariants as stage
use Rattle.lane_controls.specs.LinkTests.{after_at, next_down}
use Rattle.lane_controls.specs.ResultSets.{code_of}
use Rattle.lane_controls.specs.TestOperations.{joined, read_flags, read_results, select_results}
use Rattle.lane_controls.proofs.ElsewhereLaws.{IsAside, fetch_is_at, kept_step, store_aside, store_is_at}
use Rattle.lane_controls.proofs.LinkTestLaws.{IsSoundTest, down_sound, is_kept, knows_aside, stays}
use Rattle.lane_controls.proofs.TestInvariants.{AreKept, IsSound}
use Rattle.lane_controls.proofs.TestPlanLaws.{results_reported}

module _ (history : History) (test : LinkTest) where
  select_kept : (reply : Reply) → IsSound stage.Selecting history test → AreKept test.plan (step_of (select_results test.plan) reply ∷ history) (is_kept test) test.on.items test.still_on.items
  select_kept reply sound =
      let ((capabilities, seen, able), paths) = sound.at in
      kept_step test.plan history (step_of (select_results test.plan) reply) (store_aside 128 (code_of test.plan.results) reply history) 128 (store_is_at 128 (code_of test.plan.results) reply history)
      (is_kept test) (is_kept test) (λ a apart n. n) test.on.items test.still_on.items
      (inr (inl (refl, (capabilities, seen, results_reported capabilities test.plan able)))) (λ control. let from : 144 ≤ 128 = control.0 in absurd (omega (arith, from))) sound.kept

  select_stays : (reply : Reply) → test.stage ≡ stage.Selecting → IsSound stage.Selecting history test → IsSoundTest (step_of (select_results test.plan) reply ∷ history) test
  select_stays reply e sound = stays history test stage.Selecting (step_of (select_results test.plan) reply) e (record {
    kept = select_kept reply sound;
    at = knows_aside history test (step_of (select_results test.plan) reply) (store_aside 128 (code_of test.plan.results) reply history) sound.at;
  })

  pub select_turn : (reply : Reply) → test.stage ≡ stage.Selecting → IsSound stage.Selecting history test → IsSoundTest (step_of (select_results test.plan) reply ∷ history) (after_at stage.Selecting test reply)
  select_turn (Bytes bytes) e sound = select_stays (Bytes bytes) e sound
  select_turn Done e sound = record { kept = select_kept Done sound; at = tt }
  select_turn Refused e sound = select_stays Refused e sound

  -- ---- flags

  flags_aside : (reply : Reply) → IsAside (step_of read_flags reply) history
  flags_aside (Bytes bytes) = record { paths = refl; capabilities = refl }
  flags_aside Done = record { paths = refl; capabilities = refl }
  flags_aside Refused = record { paths = refl; capabilities = refl }

  flags_kept : (reply : Reply) → AreKept test.plan history (is_kept test) test.on.items test.still_on.items → AreKept test.plan (step_of read_flags reply ∷ history) (is_kept test) test.on.items test.still_on.items
  flags_kept reply kept =
      kept_step test.plan history (step_of read_flags reply) (flags_aside reply) 132 (fetch_is_at 132 8 reply history) (is_kept test) (is_kept test) (λ a apart n. n)
      test.on.items test.still_on.items (inl tt) (λ control. let from : 144 ≤ 132 = control.0 in absurd (omega (arith, from))) kept

  pub clear_turn : (reply : Reply) → test.stage ≡ stage.Clearing → IsSound stage.Clearing history test → IsSoundTest (step_of read_flags reply ∷ history) (after_at stage.Clearing test reply)
  clear_turn (Bytes bytes) e sound = record { kept = flags_kept (Bytes bytes) sound.kept; at = tt }
  clear_turn Done e sound = stays history test stage.Clearing (step_of read_flags Done) e (record { kept = flags_kept Done sound.kept; at = tt })
  clear_turn Refused e sound = stays history test stage.Clearing (step_of read_flags Refused) e (record { kept = flags_kept Refused sound.kept; at = tt })

  collected_turn : (bytes : ArrayVec ℕ) (more : Bool) → IsSound stage.Collecting history test → IsSoundTest (step_of read_flags (Bytes bytes) ∷ history)
      (if more then record test { stage = stage.Resting; rounds = test.rounds - 1; flags = joined test.flags bytes.items } else next_down (record test { flags = joined test.flags bytes.items }))
  collected_turn bytes true sound = record { kept = flags_kept (Bytes bytes) sound.kept; at = tt }
  collected_turn bytes false sound = down_sound (step_of read_flags (Bytes bytes) ∷ history) (record test { flags = joined test.flags bytes.items }) (flags_kept (Bytes bytes) sound.kept)

  pub collect_turn : (reply : Reply) → test.stage ≡ stage.Collecting → IsSound stage.Collecting history test → IsSoundTest (step_of read_flags reply ∷ history) (after_at stage.Collecting test reply)
  collect_turn (Bytes bytes) e sound = collected_turn bytes (nat_lt 1 test.rounds) sound
  collect_turn Done e sound = stays history test stage.Collecting (step_of read_flags Done) e (record { kept = flags_kept Done sound.kept; at = tt })
  collect_turn Refused e sound = stays history test stage.Collecting (step_of read_flags Refused) e (record { kept = flags_kept Refused sound.kept; at = tt })

  -- ---- results

  results_aside : (reply : Reply) → IsAside (step_of read_results reply) history
  results_aside (Bytes bytes) = record { paths = refl; capabilities = refl }
  results_aside Done = record { paths = refl; capabilities = refl }
  results_aside Refused = record { paths = refl; capabilities = refl }

  results_kept : (reply : Reply) → IsSound stage.Reading history test → AreKept test.plan (step_of read_results reply ∷ history) (is_kept test) test.on.items test.still_on.items
  results_kept reply sound =
      kept_step test.plan history (step_of read_results reply) (results_aside reply) 192 (fetch_is_at 192 64 reply history) (is_kept test) (is_kept test) (λ a apart n. n)
      test.on.items test.still_on.items (inl tt) (λ control. let to : 192 < 184 = control.1 in absurd (omega (arith, to))) sound.kept

  pub results_turn : (reply : Reply) → test.stage ≡ stage.Reading → IsSound stage.Reading history test → IsSoundTest (step_of read_results reply ∷ history) (after_at stage.Reading test reply)
  results_turn (Bytes bytes) e sound = record { kept = results_kept (Bytes bytes) sound; at = tt }
  results_turn Done e sound = stays history test stage.Reading (step_of read_results Done) e (record { kept = results_kept Done sound; at = tt })
  results_turn Refused e sound = stays history test stage.Reading (step_of read_results Refused) e (record { kept = results_kept Refused sound; at = tt })
