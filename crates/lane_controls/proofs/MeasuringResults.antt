-- While results are selected and read, all is on.
use Rattle.std.proofs.Common.{◌≡◌, ℕ, ◌+◌, ◌-◌, ◌<◌, Bool, true, false, if◌then◌else◌, nat_lt, ◌∷◌, arith, refl, ap, ◌∙◌}
use Rattle.arrayvec.specs.ArrayVec.{ArrayVec}
use Rattle.bus_model.specs.declared.operation.Reply.{Reply}
use Rattle.bus_model.specs.declared.operation.Reply.TheVariants.{Bytes, Done, Refused}
use Rattle.paged_memory.specs.PageAddressing.{History}
use Rattle.paged_memory.proofs.KnownPageLaws.{step_of}
use Rattle.lane_controls.specs.declared.link_test.LinkTest.{LinkTest}
use Rattle.lane_controls.specs.declared.link_test.TestStage.TheVariants as stage
use Rattle.std.proofs.lemmas.Bool.{ltb-true}
use Rattle.lane_controls.specs.LinkTests.{after_at, next_down}
use Rattle.lane_controls.specs.ResultSets.{code_of}
use Rattle.lane_controls.specs.TestAccounts.{AllOn, WereOn, at_least_one, measurements, wanted_measurements}
use Rattle.lane_controls.specs.TestOperations.{joined, read_flags, read_results, select_results}
use Rattle.lane_controls.proofs.ElsewhereLaws.{fetch_is_at, store_is_at}
use Rattle.lane_controls.proofs.MeasuringLaws.{count_read, stays, were_read, IsMeasuring, IsMeasuringTest, above_controls, all_on_aside, below_controls, down_measuring, last_round, some_rounds, were_quiet}

module _ (history : History) (test : LinkTest) where
  -- ---- results

  pub select_turn : (reply : Reply) → test.stage ≡ stage.Selecting → IsMeasuring stage.Selecting history test → IsMeasuringTest (step_of (select_results test.plan) reply ∷ history) (after_at stage.Selecting test reply)
  select_turn reply e m = go reply
    where
      on_so : (r : Reply) → AllOn test.plan (step_of (select_results test.plan) r ∷ history)
      on_so r = all_on_aside test.plan history (step_of (select_results test.plan) r) 128 (store_is_at 128 (code_of test.plan.results) r history) (below_controls 128 (omega arith)) m.on

      were_now : (r : Reply) → WereOn test.plan (step_of (select_results test.plan) r ∷ history)
      were_now r = were_quiet test.plan history (step_of (select_results test.plan) r) refl m.were

      go : (r : Reply) → IsMeasuringTest (step_of (select_results test.plan) r ∷ history) (after_at stage.Selecting test r)
      go (Bytes bytes) = stays history test stage.Selecting (step_of (select_results test.plan) (Bytes bytes)) e (record { on = on_so (Bytes bytes); count = m.count; were = were_now (Bytes bytes) })
      go Done =
          let same : at_least_one test.rounds ≡ wanted_measurements test.plan = ap at_least_one m.count.1 in
          record { on = on_so Done; count = omega (arith, m.count.0, same); were = were_now Done }
      go Refused = stays history test stage.Selecting (step_of (select_results test.plan) Refused) e (record { on = on_so Refused; count = m.count; were = were_now Refused })

  module _ (all : AllOn test.plan history) (were : WereOn test.plan history) (r : Reply) where
    on_flags : AllOn test.plan (step_of read_flags r ∷ history)
    on_flags = all_on_aside test.plan history (step_of read_flags r) 132 (fetch_is_at 132 8 r history) (below_controls 132 (omega arith)) all

    were_flags : WereOn test.plan (step_of read_flags r ∷ history)
    were_flags = were_read history test 132 8 r refl were

  count_flags : (r : Reply) → measurements (step_of read_flags r ∷ history) ≡ measurements history
  count_flags r = count_read history test 132 8 r refl

  pub clear_turn : (reply : Reply) → test.stage ≡ stage.Clearing → IsMeasuring stage.Clearing history test → IsMeasuringTest (step_of read_flags reply ∷ history) (after_at stage.Clearing test reply)
  clear_turn reply e m = go reply
    where
      count_so : (r : Reply) → measurements (step_of read_flags r ∷ history) + at_least_one test.rounds ≡ wanted_measurements test.plan
      count_so r = ap (λ n. n + at_least_one test.rounds) (count_flags r) ∙ m.count

      go : (r : Reply) → IsMeasuringTest (step_of read_flags r ∷ history) (after_at stage.Clearing test r)
      go (Bytes bytes) = record { on = on_flags m.on m.were (Bytes bytes); count = count_so (Bytes bytes); were = were_flags m.on m.were (Bytes bytes) }
      go Done = stays history test stage.Clearing (step_of read_flags Done) e (record { on = on_flags m.on m.were Done; count = count_so Done; were = were_flags m.on m.were Done })
      go Refused = stays history test stage.Clearing (step_of read_flags Refused) e (record { on = on_flags m.on m.were Refused; count = count_so Refused; were = were_flags m.on m.were Refused })

  pub results_turn : (reply : Reply) → test.stage ≡ stage.Reading → IsMeasuring stage.Reading history test → IsMeasuringTest (step_of read_results reply ∷ history) (after_at stage.Reading test reply)
  results_turn reply e m = go reply
    where
      on_so : (r : Reply) → AllOn test.plan (step_of read_results r ∷ history)
      on_so r = all_on_aside test.plan history (step_of read_results r) 192 (fetch_is_at 192 64 r history) above_controls m.on

      go : (r : Reply) → IsMeasuringTest (step_of read_results r ∷ history) (after_at stage.Reading test r)
      go (Bytes bytes) = record { on = on_so (Bytes bytes); count = omega (arith, m.count); were = (λ is. m.on, m.were) }
      go Done = stays history test stage.Reading (step_of read_results Done) e (record { on = on_so Done; count = m.count; were = were_quiet test.plan history (step_of read_results Done) refl m.were })
      go Refused = stays history test stage.Reading (step_of read_results Refused) e (record { on = on_so Refused; count = m.count; were = were_quiet test.plan history (step_of read_results Refused) refl m.were })

  pub collect_turn : (reply : Reply) → test.stage ≡ stage.Collecting → IsMeasuring stage.Collecting history test → IsMeasuringTest (step_of read_flags reply ∷ history) (after_at stage.Collecting test reply)
  collect_turn reply e m = go reply
    where
      still : (r : Reply) → IsMeasuring stage.Collecting (step_of read_flags r ∷ history) test
      still r = record { on = on_flags m.on m.were r; count = ap (λ n. n + at_least_one test.rounds) (count_flags r) ∙ m.count; were = were_flags m.on m.were r }

      by : (bytes : ArrayVec ℕ) (more : Bool) → nat_lt 1 test.rounds ≡ more → IsMeasuringTest (step_of read_flags (Bytes bytes) ∷ history)
          (if more then record test { stage = stage.Resting; rounds = test.rounds - 1; flags = joined test.flags bytes.items } else next_down (record test { flags = joined test.flags bytes.items }))
      by bytes true more =
          let many : 1 < test.rounds = ltb-true 1 test.rounds more in
          let now : at_least_one test.rounds ≡ test.rounds = some_rounds test.rounds (omega (arith, many)) in
          let fewer : at_least_one (test.rounds - 1) ≡ test.rounds - 1 = some_rounds (test.rounds - 1) (omega (arith, many)) in
          let same : measurements (step_of read_flags (Bytes bytes) ∷ history) ≡ measurements history = count_flags (Bytes bytes) in
          record { on = on_flags m.on m.were (Bytes bytes); count = omega (arith, m.count, now, fewer, same, many); were = were_flags m.on m.were (Bytes bytes) }
      by bytes false more =
          let now : at_least_one test.rounds ≡ 1 = last_round test.rounds more in
          let same : measurements (step_of read_flags (Bytes bytes) ∷ history) ≡ measurements history = count_flags (Bytes bytes) in
          down_measuring (step_of read_flags (Bytes bytes) ∷ history) test.on.items (record test { flags = joined test.flags bytes.items }) (λ none. omega (arith, m.count, now, same)) (were_flags m.on m.were (Bytes bytes))

      go : (r : Reply) → IsMeasuringTest (step_of read_flags r ∷ history) (after_at stage.Collecting test r)
      go (Bytes bytes) = by bytes (nat_lt 1 test.rounds) refl
      go Done = stays history test stage.Collecting (step_of read_flags Done) e (still Done)
      go Refused = stays history test stage.Collecting (step_of read_flags Refused) e (still Refused)
