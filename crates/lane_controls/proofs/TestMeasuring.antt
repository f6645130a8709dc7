-- Each turn of a link test reads results only while all is on.
use Rattle.std.proofs.Common.{◌≡◌, ℕ, ◌-◌, Bool, true, false, if◌then◌else◌, nat_eq, nat_lt, [], ◌∷◌, length, Option, Some, None, slice_index, arith, refl, sym, subst, ◌∙◌}
use Rattle.std.proofs.lemmas.Bool.{eqb-true}
use Rattle.arrayvec.specs.ArrayVec.{ArrayVec}
use Rattle.bus_model.specs.declared.operation.Op.{Op}
use Rattle.bus_model.specs.declared.operation.Reply.{Reply}
use Rattle.bus_model.specs.declared.operation.Reply.TheVariants.{Bytes, Done, Refused}
use Rattle.bus_model.specs.declared.operation.Step.{Step}
use Rattle.paged_memory.specs.PageAddressing.{History}
use Rattle.paged_memory.proofs.KnownPageLaws.{step_of}
use Rattle.lane_controls.specs.declared.link_test.LinkTest.{LinkTest}
use Rattle.lane_controls.specs.declared.link_test.TestFault.{TestFault}
use Rattle.lane_controls.specs.declared.link_test.TestFault.TheVariants as fault
use Rattle.lane_controls.specs.declared.link_test.TestStage.{TestStage}
use Rattle.lane_controls.specs.declared.link_test.TestStage.TheVariants as stage
use Rattle.lane_controls.specs.declared.test_plan.Change.{Change}
use Rattle.lane_controls.specs.declared.test_plan.Switch.{Switch}
use Rattle.lane_controls.specs.declared.test_plan.TestPlan.{TestPlan}
use Rattle.conversations.specs.declared.event.Event.TheVariants.{Made, Waited, Lacked, Asked}
use Rattle.conversations.specs.declared.next.Next.TheVariants.{Do}
use Rattle.conversations.specs.Events.{Events, steps_of}
use Rattle.lane_controls.specs.ByteHistories.{read_at, store_at}
use Rattle.lane_controls.specs.Capabilities.{has_diagnostics}
use Rattle.lane_controls.specs.LinkTests.{admitted_by, after_at, capable_by, is_on, leave_on, next_down, next_up, off_with, rested_at, stop, stopped, stopped_at, test_after}
use Rattle.lane_controls.specs.TestAccounts.{EachIsWanted, IsOn, WereOn, measurements, wanted_measurements}
use Rattle.lane_controls.specs.TestOperations.{begun_by, read_advertised, read_capabilities, read_flags, read_paths, read_results, refused, select_results, wants_at}
use Rattle.lane_controls.specs.TestPlans.{address, forbidden, incapability, repeated, restored, switched, up_lanes}
use Rattle.lane_controls.proofs.ByteLaws.{read_now}
use Rattle.lane_controls.proofs.ElsewhereLaws.{fetch_is_at, store_is_at}
use Rattle.lane_controls.proofs.MeasuringLaws.{count_read, stays, were_read, AllOnBefore, IsMeasuring, IsMeasuringTest, before_kept, down_measuring, failed_measuring, next_up_measuring, off_measuring, refused_measuring, were_quiet, with_in_hand}
use Rattle.lane_controls.proofs.MeasuringResults.{clear_turn, collect_turn, results_turn, select_turn}
use Rattle.lane_controls.proofs.TestOrder.{IsFirst, IsInTurn, IsOrdered, ordered}

module _ (history : History) (test : LinkTest) where
  -- ---- before anything was stored

  advertised_turn : (reply : Reply) → test.stage ≡ stage.Advertised → IsMeasuring stage.Advertised history test → IsMeasuringTest (step_of read_advertised reply ∷ history) (after_at stage.Advertised test reply)
  advertised_turn reply e m = go reply
    where
      still : (r : Reply) → IsMeasuring stage.Advertised (step_of read_advertised r ∷ history) test
      still r = record { on = tt; count = count_read history test 142 1 r refl ∙ m.count; were = were_read history test 142 1 r refl m.were }

      by : (bytes : ArrayVec ℕ) (has : Bool) → IsMeasuringTest (step_of read_advertised (Bytes bytes) ∷ history) (if has then record test { stage = stage.Capabilities } else refused fault.NoDiagnostics test)
      by bytes true = record { on = tt; count = count_read history test 142 1 (Bytes bytes) refl ∙ m.count; were = were_read history test 142 1 (Bytes bytes) refl m.were }
      by bytes false = refused_measuring (step_of read_advertised (Bytes bytes) ∷ history) fault.NoDiagnostics test (were_read history test 142 1 (Bytes bytes) refl m.were)

      go : (r : Reply) → IsMeasuringTest (step_of read_advertised r ∷ history) (after_at stage.Advertised test r)
      go (Bytes bytes) = by bytes (has_diagnostics (slice_index bytes.items 0))
      go Done = stays history test stage.Advertised (step_of read_advertised Done) e (still Done)
      go Refused = stays history test stage.Advertised (step_of read_advertised Refused) e (still Refused)

  capabilities_turn : (reply : Reply) → test.stage ≡ stage.Capabilities → IsMeasuring stage.Capabilities history test → IsMeasuringTest (step_of read_capabilities reply ∷ history) (after_at stage.Capabilities test reply)
  capabilities_turn reply e m = go reply
    where
      still : (r : Reply) → IsMeasuring stage.Capabilities (step_of read_capabilities r ∷ history) test
      still r = record { on = tt; count = count_read history test 128 12 r refl ∙ m.count; were = were_read history test 128 12 r refl m.were }

      by : (bytes : ArrayVec ℕ) (why : Option TestFault) → IsMeasuringTest (step_of read_capabilities (Bytes bytes) ∷ history) (capable_by why test)
      by bytes None = record { on = tt; count = count_read history test 128 12 (Bytes bytes) refl ∙ m.count; were = were_read history test 128 12 (Bytes bytes) refl m.were }
      by bytes (Some why) = refused_measuring (step_of read_capabilities (Bytes bytes) ∷ history) why test (were_read history test 128 12 (Bytes bytes) refl m.were)

      go : (r : Reply) → IsMeasuringTest (step_of read_capabilities r ∷ history) (after_at stage.Capabilities test r)
      go (Bytes bytes) = by bytes (incapability bytes.items test.plan)
      go Done = stays history test stage.Capabilities (step_of read_capabilities Done) e (still Done)
      go Refused = stays history test stage.Capabilities (step_of read_capabilities Refused) e (still Refused)

  paths_turn : (reply : Reply) → test.stage ≡ stage.Paths → IsFirst test → IsMeasuring stage.Paths history test → IsMeasuringTest (step_of read_paths reply ∷ history) (after_at stage.Paths test reply)
  paths_turn reply e first m = go reply
    where
      still : (r : Reply) → IsMeasuring stage.Paths (step_of read_paths r ∷ history) test
      still r = record { on = tt; count = count_read history test 128 4 r refl ∙ m.count; were = were_read history test 128 4 r refl m.were }

      by : (bytes : ArrayVec ℕ) (found : Option Switch) → IsMeasuringTest (step_of read_paths (Bytes bytes) ∷ history) (admitted_by found test)
      by bytes None =
          next_up_measuring (step_of read_paths (Bytes bytes) ∷ history) test (λ i switch below is. absurd (omega (arith, below, first.2)))
          (count_read history test 128 4 (Bytes bytes) refl ∙ m.count) (were_read history test 128 4 (Bytes bytes) refl m.were)
      by bytes (Some switch) = refused_measuring (step_of read_paths (Bytes bytes) ∷ history) (fault.NotPermitted switch.control) test (were_read history test 128 4 (Bytes bytes) refl m.were)

      go : (r : Reply) → IsMeasuringTest (step_of read_paths r ∷ history) (after_at stage.Paths test r)
      go (Bytes bytes) = by bytes (forbidden test.plan (up_lanes bytes.items))
      go Done = stays history test stage.Paths (step_of read_paths Done) e (still Done)
      go Refused = stays history test stage.Paths (step_of read_paths Refused) e (still Refused)

  -- ---- one control

  module _ (switch : Switch) (turn : IsInTurn test switch) (before : AllOnBefore test.plan history test.next_switch) (none : measurements history ≡ 0) (were : WereOn test.plan history) where
    abbrev reads : Reply → Step
    reads reply = step_of (read_at (address switch)) reply

    before_read : (reply : Reply) → AllOnBefore test.plan (reads reply ∷ history) test.next_switch
    before_read reply = before_kept history test switch (reads reply) turn (fetch_is_at (address switch) 1 reply history) before

    none_read : (reply : Reply) → measurements (reads reply ∷ history) ≡ 0
    none_read reply = count_read history test (address switch) 1 reply refl ∙ none

    were_so : (reply : Reply) → WereOn test.plan (reads reply ∷ history)
    were_so reply = were_read history test (address switch) 1 reply refl were

    is_on_now : (bytes : ArrayVec ℕ) → nat_eq (switched switch (slice_index bytes.items 0)) (slice_index bytes.items 0) ≡ true → IsOn (reads (Bytes bytes) ∷ history) switch
    is_on_now bytes e = (slice_index bytes.items 0, read_now (address switch) history bytes, eqb-true _ _ e)

    before_stored : (byte : ℕ) (reply : Reply) → AllOnBefore test.plan (step_of (store_at (address switch) byte) reply ∷ history) test.next_switch
    before_stored byte reply = before_kept history test switch (step_of (store_at (address switch) byte) reply) turn (store_is_at (address switch) byte reply history) before

    were_stored : (byte : ℕ) (reply : Reply) → WereOn test.plan (step_of (store_at (address switch) byte) reply ∷ history)
    were_stored byte reply = were_quiet test.plan history (step_of (store_at (address switch) byte) reply) refl were

    found_turn : (bytes : ArrayVec ℕ) (b : Bool) → nat_eq (switched switch (slice_index bytes.items 0)) (slice_index bytes.items 0) ≡ b
        → IsMeasuringTest (reads (Bytes bytes) ∷ history) (if b then next_up test else record test { stage = stage.Found (record { switch = switch; original = slice_index bytes.items 0 }) })
    found_turn bytes true e =
        next_up_measuring (reads (Bytes bytes) ∷ history) test (with_in_hand (reads (Bytes bytes) ∷ history) test switch turn (before_read (Bytes bytes)) (is_on_now bytes e)) (none_read (Bytes bytes)) (were_so (Bytes bytes))
    found_turn bytes false e = record { on = before_read (Bytes bytes); count = none_read (Bytes bytes); were = were_so (Bytes bytes) }

    unread_turn : (reply : Reply) → test.stage ≡ stage.Unread switch → IsMeasuringTest (reads reply ∷ history) (after_at (stage.Unread switch) test reply)
    unread_turn (Bytes bytes) e = found_turn bytes (nat_eq (switched switch (slice_index bytes.items 0)) (slice_index bytes.items 0)) refl
    unread_turn Done e = stays history test (stage.Unread switch) (reads Done) e (record { on = before_read Done; count = none_read Done; were = were_so Done })
    unread_turn Refused e = stays history test (stage.Unread switch) (reads Refused) e (record { on = before_read Refused; count = none_read Refused; were = were_so Refused })

  module _ (change : Change) (turn : IsInTurn test change.switch) (before : AllOnBefore test.plan history test.next_switch) (none : measurements history ≡ 0) (were : WereOn test.plan history) where
    stored_turn : (byte : ℕ) (reply : Reply) → IsMeasuringTest (step_of (store_at (address change.switch) byte) reply ∷ history) (record test { stage = stage.Switched change })
    stored_turn byte reply = record { on = before_stored change.switch turn before none were byte reply; count = none; were = were_stored change.switch turn before none were byte reply }

    on_turn : (bytes : ArrayVec ℕ) (room : Bool) → nat_eq (switched change.switch (slice_index bytes.items 0)) (slice_index bytes.items 0) ≡ true
        → IsMeasuringTest (step_of (read_at (address change.switch)) (Bytes bytes) ∷ history)
        (if room then next_up (record test { on = record { items = change ∷ test.on.items } }) else off_with change (fault.TooMany change.switch.control) test)
    on_turn bytes true e =
        next_up_measuring (step_of (read_at (address change.switch)) (Bytes bytes) ∷ history) (record test { on = record { items = change ∷ test.on.items } })
        (with_in_hand (step_of (read_at (address change.switch)) (Bytes bytes) ∷ history) test change.switch turn (before_read change.switch turn before none were (Bytes bytes)) (is_on_now change.switch turn before none were bytes e))
        (none_read change.switch turn before none were (Bytes bytes)) (were_so change.switch turn before none were (Bytes bytes))
    on_turn bytes false e = off_measuring (step_of (read_at (address change.switch)) (Bytes bytes) ∷ history) change (fault.TooMany change.switch.control) test (were_so change.switch turn before none were (Bytes bytes))

    back_turn : (bytes : ArrayVec ℕ) (b more : Bool) → nat_eq (switched change.switch (slice_index bytes.items 0)) (slice_index bytes.items 0) ≡ b
        → IsMeasuringTest (step_of (read_at (address change.switch)) (Bytes bytes) ∷ history)
        (if b then is_on change test else (if more then record test { stage = stage.Again change (slice_index bytes.items 0); tries = test.tries - 1 } else off_with change (fault.NotSwitched change.switch.control) test))
    back_turn bytes true more e = on_turn bytes (nat_lt (length test.on.items) 16) e
    back_turn bytes false true e = record { on = before_read change.switch turn before none were (Bytes bytes); count = none_read change.switch turn before none were (Bytes bytes); were = were_so change.switch turn before none were (Bytes bytes) }
    back_turn bytes false false e = off_measuring (step_of (read_at (address change.switch)) (Bytes bytes) ∷ history) change (fault.NotSwitched change.switch.control) test (were_so change.switch turn before none were (Bytes bytes))

    switched_turn : (reply : Reply) → test.stage ≡ stage.Switched change → IsMeasuringTest (step_of (read_at (address change.switch)) reply ∷ history) (after_at (stage.Switched change) test reply)
    switched_turn (Bytes bytes) e = back_turn bytes (nat_eq (switched change.switch (slice_index bytes.items 0)) (slice_index bytes.items 0)) (nat_lt 0 test.tries) refl
    switched_turn Done e = stays history test (stage.Switched change) (step_of (read_at (address change.switch)) Done) e (record {
      on = before_read change.switch turn before none were Done;
      count = none_read change.switch turn before none were Done;
      were = were_so change.switch turn before none were Done;
    })
    switched_turn Refused e = stays history test (stage.Switched change) (step_of (read_at (address change.switch)) Refused) e (record {
      on = before_read change.switch turn before none were Refused;
      count = none_read change.switch turn before none were Refused;
      were = were_so change.switch turn before none were Refused;
    })

  -- ---- a control is switched off

  down_turn : (change : Change) (reply : Reply) → test.stage ≡ stage.Down change → IsMeasuring (stage.Down change) history test
      → IsMeasuringTest (step_of (read_at (address change.switch)) reply ∷ history) (after_at (stage.Down change) test reply)
  down_turn change reply e m = go reply
    where
      were_now : (r : Reply) → WereOn test.plan (step_of (read_at (address change.switch)) r ∷ history)
      were_now r = were_read history test (address change.switch) 1 r refl m.were

      count_so : (r : Reply) → test.fault ≡ None → measurements (step_of (read_at (address change.switch)) r ∷ history) ≡ wanted_measurements test.plan
      count_so r none = count_read history test (address change.switch) 1 r refl ∙ m.count none

      still : (r : Reply) → IsMeasuring (stage.Down change) (step_of (read_at (address change.switch)) r ∷ history) test
      still r = record { on = tt; count = count_so r; were = were_now r }

      left : (bytes : ArrayVec ℕ) (room : Bool) → IsMeasuringTest (step_of (read_at (address change.switch)) (Bytes bytes) ∷ history) (if room then next_down (record test { still_on = record { items = change ∷ test.still_on.items } }) else test)
      left bytes true = down_measuring (step_of (read_at (address change.switch)) (Bytes bytes) ∷ history) test.on.items (record test { still_on = record { items = change ∷ test.still_on.items } }) (count_so (Bytes bytes)) (were_now (Bytes bytes))
      left bytes false = stays history test (stage.Down change) (step_of (read_at (address change.switch)) (Bytes bytes)) e (still (Bytes bytes))

      by : (bytes : ArrayVec ℕ) (b more : Bool) → IsMeasuringTest (step_of (read_at (address change.switch)) (Bytes bytes) ∷ history)
          (if b then next_down test else (if more then record test { stage = stage.Restore change (slice_index bytes.items 0); tries = test.tries - 1 } else leave_on change test))
      by bytes true more = down_measuring (step_of (read_at (address change.switch)) (Bytes bytes) ∷ history) test.on.items test (count_so (Bytes bytes)) (were_now (Bytes bytes))
      by bytes false true = record { on = tt; count = count_so (Bytes bytes); were = were_now (Bytes bytes) }
      by bytes false false = left bytes (nat_lt (length test.still_on.items) 16)

      go : (r : Reply) → IsMeasuringTest (step_of (read_at (address change.switch)) r ∷ history) (after_at (stage.Down change) test r)
      go (Bytes bytes) = by bytes (nat_eq (restored change (slice_index bytes.items 0)) (slice_index bytes.items 0)) (nat_lt 0 test.tries)
      go Done = stays history test (stage.Down change) (step_of (read_at (address change.switch)) Done) e (still Done)
      go Refused = stays history test (stage.Down change) (step_of (read_at (address change.switch)) Refused) e (still Refused)

  restore_turn : (change : Change) (now : ℕ) (reply : Reply) → IsMeasuring (stage.Restore change now) history test
      → IsMeasuringTest (step_of (store_at (address change.switch) (restored change now)) reply ∷ history) (record test { stage = stage.Down change })
  restore_turn change now reply m = record { on = tt; count = m.count; were = were_quiet test.plan history (step_of (store_at (address change.switch) (restored change now)) reply) refl m.were }

  -- ---- any turn

  at_op : (now : TestStage) (wanted op : Op) (reply : Reply) → IsMeasuringTest (step_of wanted reply ∷ history) (after_at now test reply) → wanted ≡ op → IsMeasuringTest (step_of op reply ∷ history) (after_at now test reply)
  at_op now wanted op reply m is = subst (λ o. IsMeasuringTest (step_of o reply ∷ history) (after_at now test reply)) is m

  turn : (now : TestStage) (op : Op) (reply : Reply) → test.stage ≡ now → wants_at now test ≡ Do op → IsOrdered now test → IsMeasuring now history test → IsMeasuringTest (step_of op reply ∷ history) (after_at now test reply)
  turn stage.Advertised op reply e asks order m = at_op stage.Advertised read_advertised op reply (advertised_turn reply e m) cc
  turn stage.Capabilities op reply e asks order m = at_op stage.Capabilities read_capabilities op reply (capabilities_turn reply e m) cc
  turn stage.Paths op reply e asks order m = at_op stage.Paths read_paths op reply (paths_turn reply e order m) cc
  turn (stage.Unread switch) op reply e asks order m = at_op (stage.Unread switch) (read_at (address switch)) op reply (unread_turn switch order m.on m.count m.were reply e) cc
  turn (stage.Found change) op reply e asks order m =
      let byte = switched change.switch change.original in at_op (stage.Found change) (store_at (address change.switch) byte) op reply (stored_turn change order m.on m.count m.were byte reply) cc
  turn (stage.Switched change) op reply e asks order m = at_op (stage.Switched change) (read_at (address change.switch)) op reply (switched_turn change order m.on m.count m.were reply e) cc
  turn (stage.Again change now) op reply e asks order m =
      let byte = switched change.switch now in at_op (stage.Again change now) (store_at (address change.switch) byte) op reply (stored_turn change order m.on m.count m.were byte reply) cc
  turn stage.Selecting op reply e asks order m = at_op stage.Selecting (select_results test.plan) op reply (select_turn history test reply e m) cc
  turn stage.Clearing op reply e asks order m = at_op stage.Clearing read_flags op reply (clear_turn history test reply e m) cc
  turn stage.Resting op reply e asks order m = absurd cc
  turn stage.Reading op reply e asks order m = at_op stage.Reading read_results op reply (results_turn history test reply e m) cc
  turn stage.Collecting op reply e asks order m = at_op stage.Collecting read_flags op reply (collect_turn history test reply e m) cc
  turn (stage.Down change) op reply e asks order m = at_op (stage.Down change) (read_at (address change.switch)) op reply (down_turn change reply e m) cc
  turn (stage.Restore change now) op reply e asks order m =
      at_op (stage.Restore change now) (store_at (address change.switch) (restored change now)) op reply (restore_turn change now reply m) cc
  turn stage.Over op reply e asks order m = absurd cc

  same : (now : TestStage) → test.stage ≡ now → IsMeasuring now history test → IsMeasuringTest history test
  same now e m = subst (λ (s : TestStage). IsMeasuring s history test) (sym e) m

  rest : (now : TestStage) → test.stage ≡ now → IsMeasuring now history test → IsMeasuringTest history (rested_at now test)
  rest stage.Resting e m = record { on = m.on; count = m.count; were = m.were }
  rest stage.Advertised e m = same stage.Advertised e m
  rest stage.Capabilities e m = same stage.Capabilities e m
  rest stage.Paths e m = same stage.Paths e m
  rest (stage.Unread switch) e m = same (stage.Unread switch) e m
  rest (stage.Found change) e m = same (stage.Found change) e m
  rest (stage.Switched change) e m = same (stage.Switched change) e m
  rest (stage.Again change now) e m = same (stage.Again change now) e m
  rest stage.Selecting e m = same stage.Selecting e m
  rest stage.Clearing e m = same stage.Clearing e m
  rest stage.Reading e m = same stage.Reading e m
  rest stage.Collecting e m = same stage.Collecting e m
  rest (stage.Down change) e m = same (stage.Down change) e m
  rest (stage.Restore change now) e m = same (stage.Restore change now) e m
  rest stage.Over e m = same stage.Over e m

  stopped_measuring : (now : TestStage) → test.stage ≡ now → IsMeasuring now history test → IsMeasuringTest history (stopped_at now test)
  stopped_measuring stage.Advertised e m = failed_measuring history fault.Stopped test m.were
  stopped_measuring stage.Capabilities e m = failed_measuring history fault.Stopped test m.were
  stopped_measuring stage.Paths e m = failed_measuring history fault.Stopped test m.were
  stopped_measuring (stage.Unread switch) e m = failed_measuring history fault.Stopped test m.were
  stopped_measuring (stage.Found change) e m = failed_measuring history fault.Stopped test m.were
  stopped_measuring (stage.Switched change) e m = off_measuring history change fault.Stopped test m.were
  stopped_measuring (stage.Again change now) e m = off_measuring history change fault.Stopped test m.were
  stopped_measuring stage.Selecting e m = failed_measuring history fault.Stopped test m.were
  stopped_measuring stage.Clearing e m = failed_measuring history fault.Stopped test m.were
  stopped_measuring stage.Resting e m = failed_measuring history fault.Stopped test m.were
  stopped_measuring stage.Reading e m = failed_measuring history fault.Stopped test m.were
  stopped_measuring stage.Collecting e m = failed_measuring history fault.Stopped test m.were
  stopped_measuring (stage.Down change) e m = same (stage.Down change) e m
  stopped_measuring (stage.Restore change now) e m = same (stage.Restore change now) e m
  stopped_measuring stage.Over e m = same stage.Over e m

  stopped_if : (b : Bool) → IsMeasuringTest history test → IsMeasuringTest history (if b then stopped test else test)
  stopped_if true m = stopped_measuring test.stage refl m
  stopped_if false m = m

-- ---- whatever happened

begun_measuring : (plan : TestPlan) (found : Option Switch) → IsMeasuringTest [] (begun_by found plan)
begun_measuring plan None = record { on = tt; count = refl; were = tt }
begun_measuring plan (Some switch) = record { on = tt; count = λ (none : Some (fault.Twice switch.control) ≡ None). absurd cc; were = tt }

pub measuring : (plan : TestPlan) (events : Events) → EachIsWanted plan events → IsMeasuringTest (steps_of events) (test_after plan events)
measuring plan [] each = begun_measuring plan (repeated plan.switches.items)
measuring plan (Made step ∷ before) (asks, each) =
    let test = test_after plan before in turn (steps_of before) test test.stage step.op step.reply refl asks (ordered plan before) (measuring plan before each)
measuring plan (Waited time ∷ before) (asks, each) = let test = test_after plan before in rest (steps_of before) test test.stage refl (measuring plan before each)
measuring plan (Lacked page ∷ before) each = measuring plan before each
measuring plan (Asked number ∷ before) each = stopped_if (steps_of before) (test_after plan before) (nat_eq number stop) (measuring plan before each)
