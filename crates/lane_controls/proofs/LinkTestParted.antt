-- A link test keeps no control twice, and what it leaves on shows other bits than it had before.
use Rattle.std.proofs.Common.{◌≡◌, ℕ, inl, ◌-◌, Bool, true, false, if◌then◌else◌, nat_eq, nat_lt, List, [], ◌∷◌, length, Option, Some, None, slice_index, refl, sym, ap, subst}
use Rattle.bus_model.specs.declared.operation.Op.{Op}
use Rattle.bus_model.specs.declared.operation.Reply.{Reply}
use Rattle.bus_model.specs.declared.operation.Reply.TheVariants.{Bytes, Done, Refused}
use Rattle.bus_model.specs.declared.operation.Step.{Step}
use Rattle.conversations.specs.declared.event.Event.TheVariants.{Made, Waited, Lacked, Asked}
use Rattle.conversations.specs.declared.next.Next.TheVariants.{Do}
use Rattle.conversations.specs.Events.{Events, steps_of}
use Rattle.paged_memory.specs.PageAddressing.{History}
use Rattle.paged_memory.proofs.KnownPageLaws.{step_of}
use Rattle.lane_controls.specs.declared.test_plan.Change.{Change}
use Rattle.lane_controls.specs.declared.link_test.LinkTest.{LinkTest}
use Rattle.lane_controls.specs.declared.test_plan.TestPlan.{TestPlan}
use Rattle.lane_controls.specs.declared.link_test.TestStage.{TestStage}
use Rattle.lane_controls.specs.declared.link_test.TestStage.TheVariants as stage
use Rattle.lane_controls.specs.declared.test_plan.Switch.{Switch}
use Rattle.lane_controls.specs.declared.link_test.TestFault.{TestFault}
use Rattle.lane_controls.specs.declared.link_test.TestFault.TheVariants as fault
use Rattle.lane_controls.specs.ByteHistories.{read_at, store_at}
use Rattle.lane_controls.specs.TestPlans.{address, restored, switched, up_lanes, repeated, forbidden, incapability}
use Rattle.lane_controls.specs.TestOperations.{is_among, read_paths, read_results, wants_at, refused, read_advertised, read_capabilities, select_results, read_flags, begun_by}
use Rattle.lane_controls.specs.LinkTests.{after_at, failing, is_on, next_down, next_up, off_with, rested_at, stop, stopped, stopped_at, test_after, admitted_by, capable_by}
use Rattle.lane_controls.specs.TestAccounts.{EachIsWanted}
use Rattle.lane_controls.proofs.TestInvariants.{AreDistinct, InHandAlone, IsParted, IsTriedInHand}
use Rattle.lane_controls.specs.Capabilities.{has_diagnostics}
use Rattle.lane_controls.proofs.PartedLaws.{stays, IsPartedTest, down_parted, next_up_parted, none_on, none_shows}
use Rattle.lane_controls.proofs.PartedTurns.{clear_turn, collect_turn, down_turn, results_turn, select_turn, store_down, store_up}
use Rattle.lane_controls.proofs.TestOrder.{IsFirst, IsInTurn, IsOrdered, below_first, below_next, below_on, ordered}

module _ (history : History) (test : LinkTest) (step : Step) where
  -- on the way up
  module _ (none : test.still_on.items ≡ []) (distinct : AreDistinct test.on.items) where
    on_way : (now : TestStage) → InHandAlone now test → IsTriedInHand now (step ∷ history) test → IsParted now (step ∷ history) test
    on_way now in_hand tried = record { in_hand = in_hand; tried = tried; on = distinct; left = none_on history test.on.items test.still_on.items none; show = none_shows (step ∷ history) test.plan test.still_on.items none }

    found_way : (switch : Switch) (byte : ℕ) (b : Bool) → IsInTurn test switch → is_among test.on.items (address switch) ≡ false
        → IsPartedTest (step ∷ history) (if b then next_up test else record test { stage = stage.Found (record { switch = switch; original = byte }) })
    found_way switch byte true turn apart = next_up_parted (step ∷ history) test distinct none turn.apart (below_next test switch turn)
    found_way switch byte false turn apart = record { in_hand = (none, apart); tried = tt; on = distinct; left = none_on history test.on.items test.still_on.items none; show = none_shows (step ∷ history) test.plan test.still_on.items none }

    module _ (change : Change) (turn : IsInTurn test change.switch) (apart : is_among test.on.items (address change.switch) ≡ false) where
      off_way : (f : TestFault) → IsPartedTest (step ∷ history) (off_with change f test)
      off_way f = record {
        in_hand = (ap (λ (l : List Change). is_among l (address change.switch)) none, apart);
        tried = inl refl;
        on = distinct;
        left = none_on history test.on.items test.still_on.items none;
        show = none_shows (step ∷ history) test.plan test.still_on.items none;
      }

      on_it : (room : Bool) → IsPartedTest (step ∷ history) (if room then next_up (record test { on = record { items = change ∷ test.on.items } }) else off_with change (fault.TooMany change.switch.control) test)
      on_it true = next_up_parted (step ∷ history) (record test { on = record { items = change ∷ test.on.items } }) (apart, distinct) none turn.apart (below_on test change turn)
      on_it false = off_way (fault.TooMany change.switch.control)

      back_way : (byte : ℕ) (b more : Bool)
          → IsPartedTest (step ∷ history) (if b then is_on change test else (if more then record test { stage = stage.Again change byte; tries = test.tries - 1 } else off_with change (fault.NotSwitched change.switch.control) test))
      back_way byte true more = on_it (nat_lt (length test.on.items) 16)
      back_way byte false true = record { in_hand = (none, apart); tried = tt; on = distinct; left = none_on history test.on.items test.still_on.items none; show = none_shows (step ∷ history) test.plan test.still_on.items none }
      back_way byte false false = off_way (fault.NotSwitched change.switch.control)

module _ (history : History) (test : LinkTest) where
  -- before anything was stored
  module _ (step : Step) (on : AreDistinct test.on.items) (none : test.still_on.items ≡ []) where
    refused_parted : (why : TestFault) → IsPartedTest (step ∷ history) (refused why test)
    refused_parted why = record { in_hand = tt; tried = tt; on = on; left = none_on history test.on.items test.still_on.items none; show = none_shows (step ∷ history) test.plan test.still_on.items none }

    still_alone : (now : TestStage) → test.stage ≡ now → InHandAlone now test → IsTriedInHand now (step ∷ history) test → IsPartedTest (step ∷ history) test
    still_alone now e alone tried = stays history test step now e (on_way history test step none on now alone tried)

  advertised_turn : (reply : Reply) → test.stage ≡ stage.Advertised → IsParted stage.Advertised history test → IsPartedTest (step_of read_advertised reply ∷ history) (after_at stage.Advertised test reply)
  advertised_turn (Bytes bytes) e parted = go (has_diagnostics (slice_index bytes.items 0))
    where
      go : (has : Bool) → IsPartedTest (step_of read_advertised (Bytes bytes) ∷ history) (if has then record test { stage = stage.Capabilities } else refused fault.NoDiagnostics test)
      go true = record {
        in_hand = parted.in_hand;
        tried = tt;
        on = parted.on;
        left = none_on history test.on.items test.still_on.items parted.in_hand.0;
        show = none_shows (step_of read_advertised (Bytes bytes) ∷ history) test.plan test.still_on.items parted.in_hand.0;
      }
      go false = refused_parted (step_of read_advertised (Bytes bytes)) parted.on parted.in_hand.0 fault.NoDiagnostics
  advertised_turn Done e parted = still_alone (step_of read_advertised Done) parted.on parted.in_hand.0 stage.Advertised e parted.in_hand tt
  advertised_turn Refused e parted = still_alone (step_of read_advertised Refused) parted.on parted.in_hand.0 stage.Advertised e parted.in_hand tt

  capabilities_turn : (reply : Reply) → test.stage ≡ stage.Capabilities → IsParted stage.Capabilities history test → IsPartedTest (step_of read_capabilities reply ∷ history) (after_at stage.Capabilities test reply)
  capabilities_turn (Bytes bytes) e parted = go (incapability bytes.items test.plan)
    where
      go : (why : Option TestFault) → IsPartedTest (step_of read_capabilities (Bytes bytes) ∷ history) (capable_by why test)
      go None = record {
        in_hand = parted.in_hand;
        tried = tt;
        on = parted.on;
        left = none_on history test.on.items test.still_on.items parted.in_hand.0;
        show = none_shows (step_of read_capabilities (Bytes bytes) ∷ history) test.plan test.still_on.items parted.in_hand.0;
      }
      go (Some why) = refused_parted (step_of read_capabilities (Bytes bytes)) parted.on parted.in_hand.0 why
  capabilities_turn Done e parted = still_alone (step_of read_capabilities Done) parted.on parted.in_hand.0 stage.Capabilities e parted.in_hand tt
  capabilities_turn Refused e parted = still_alone (step_of read_capabilities Refused) parted.on parted.in_hand.0 stage.Capabilities e parted.in_hand tt

  paths_turn : (reply : Reply) → test.stage ≡ stage.Paths → IsFirst test → IsParted stage.Paths history test → IsPartedTest (step_of read_paths reply ∷ history) (after_at stage.Paths test reply)
  paths_turn (Bytes bytes) e first parted = go (forbidden test.plan (up_lanes bytes.items))
    where
      go : (found : Option Switch) → IsPartedTest (step_of read_paths (Bytes bytes) ∷ history) (admitted_by found test)
      go None = next_up_parted (step_of read_paths (Bytes bytes) ∷ history) test parted.on parted.in_hand.0 first.0 (below_first test first)
      go (Some switch) = refused_parted (step_of read_paths (Bytes bytes)) parted.on parted.in_hand.0 (fault.NotPermitted switch.control)
  paths_turn Done e first parted = still_alone (step_of read_paths Done) parted.on parted.in_hand.0 stage.Paths e parted.in_hand tt
  paths_turn Refused e first parted = still_alone (step_of read_paths Refused) parted.on parted.in_hand.0 stage.Paths e parted.in_hand tt

  unread_turn : (switch : Switch) (reply : Reply) → test.stage ≡ stage.Unread switch → IsInTurn test switch → IsParted (stage.Unread switch) history test
      → IsPartedTest (step_of (read_at (address switch)) reply ∷ history) (after_at (stage.Unread switch) test reply)
  unread_turn switch (Bytes bytes) e turn parted =
      let byte = slice_index bytes.items 0 in
      found_way history test (step_of (read_at (address switch)) (Bytes bytes)) parted.in_hand.0 parted.on switch byte (nat_eq (switched switch byte) byte) turn parted.in_hand.1
  unread_turn switch Done e turn parted =
      let step = step_of (read_at (address switch)) Done in stays history test step (stage.Unread switch) e (on_way history test step parted.in_hand.0 parted.on (stage.Unread switch) parted.in_hand tt)
  unread_turn switch Refused e turn parted =
      let step = step_of (read_at (address switch)) Refused in stays history test step (stage.Unread switch) e (on_way history test step parted.in_hand.0 parted.on (stage.Unread switch) parted.in_hand tt)

  switched_turn : (change : Change) (reply : Reply) → test.stage ≡ stage.Switched change → IsInTurn test change.switch → IsParted (stage.Switched change) history test
      → IsPartedTest (step_of (read_at (address change.switch)) reply ∷ history) (after_at (stage.Switched change) test reply)
  switched_turn change (Bytes bytes) e turn parted =
      let byte = slice_index bytes.items 0 in
      back_way history test (step_of (read_at (address change.switch)) (Bytes bytes)) parted.in_hand.0 parted.on change turn parted.in_hand.1 byte (nat_eq (switched change.switch byte) byte) (nat_lt 0 test.tries)
  switched_turn change Done e turn parted =
      let step = step_of (read_at (address change.switch)) Done in stays history test step (stage.Switched change) e (on_way history test step parted.in_hand.0 parted.on (stage.Switched change) parted.in_hand tt)
  switched_turn change Refused e turn parted =
      let step = step_of (read_at (address change.switch)) Refused in stays history test step (stage.Switched change) e (on_way history test step parted.in_hand.0 parted.on (stage.Switched change) parted.in_hand tt)

  -- the operation is what was wanted
  at_op : (now : TestStage) (wanted op : Op) (reply : Reply) → IsPartedTest (step_of wanted reply ∷ history) (after_at now test reply) → wanted ≡ op → IsPartedTest (step_of op reply ∷ history) (after_at now test reply)
  at_op now wanted op reply parted is = subst (λ o. IsPartedTest (step_of o reply ∷ history) (after_at now test reply)) is parted

  turn : (now : TestStage) (op : Op) (reply : Reply) → test.stage ≡ now → wants_at now test ≡ Do op → IsOrdered now test → IsParted now history test → IsPartedTest (step_of op reply ∷ history) (after_at now test reply)
  turn stage.Advertised op reply e asks order parted = at_op stage.Advertised read_advertised op reply (advertised_turn reply e parted) cc
  turn stage.Capabilities op reply e asks order parted = at_op stage.Capabilities read_capabilities op reply (capabilities_turn reply e parted) cc
  turn stage.Paths op reply e asks order parted = at_op stage.Paths read_paths op reply (paths_turn reply e order parted) cc
  turn (stage.Unread switch) op reply e asks order parted = at_op (stage.Unread switch) (read_at (address switch)) op reply (unread_turn switch reply e order parted) cc
  turn (stage.Found change) op reply e asks order parted =
      let byte = switched change.switch change.original in
      at_op (stage.Found change) (store_at (address change.switch) byte) op reply (store_up history test change byte reply parted.in_hand.0 parted.on parted.in_hand.1) cc
  turn (stage.Switched change) op reply e asks order parted = at_op (stage.Switched change) (read_at (address change.switch)) op reply (switched_turn change reply e order parted) cc
  turn (stage.Again change now) op reply e asks order parted =
      let byte = switched change.switch now in
      at_op (stage.Again change now) (store_at (address change.switch) byte) op reply (store_up history test change byte reply parted.in_hand.0 parted.on parted.in_hand.1) cc
  turn stage.Selecting op reply e asks order parted = at_op stage.Selecting (select_results test.plan) op reply (select_turn history test reply e parted) cc
  turn stage.Clearing op reply e asks order parted = at_op stage.Clearing read_flags op reply (clear_turn history test reply e parted) cc
  turn stage.Resting op reply e asks order parted = absurd cc
  turn stage.Reading op reply e asks order parted = at_op stage.Reading read_results op reply (results_turn history test reply e parted) cc
  turn stage.Collecting op reply e asks order parted = at_op stage.Collecting read_flags op reply (collect_turn history test reply e parted) cc
  turn (stage.Down change) op reply e asks order parted = at_op (stage.Down change) (read_at (address change.switch)) op reply (down_turn history test change reply e parted) cc
  turn (stage.Restore change now) op reply e asks order parted =
      at_op (stage.Restore change now) (store_at (address change.switch) (restored change now)) op reply (store_down history test change now reply parted) cc
  turn stage.Over op reply e asks order parted = absurd cc

  same : (now : TestStage) → test.stage ≡ now → IsParted now history test → IsPartedTest history test
  same now e parted = subst (λ (s : TestStage). IsParted s history test) (sym e) parted

  rest : (now : TestStage) → test.stage ≡ now → IsParted now history test → IsPartedTest history (rested_at now test)
  rest stage.Resting e parted = record { in_hand = tt; tried = tt; on = parted.on; left = parted.left; show = parted.show }
  rest stage.Advertised e parted = same stage.Advertised e parted
  rest stage.Capabilities e parted = same stage.Capabilities e parted
  rest stage.Paths e parted = same stage.Paths e parted
  rest (stage.Unread switch) e parted = same (stage.Unread switch) e parted
  rest (stage.Found change) e parted = same (stage.Found change) e parted
  rest (stage.Switched change) e parted = same (stage.Switched change) e parted
  rest (stage.Again change now) e parted = same (stage.Again change now) e parted
  rest stage.Selecting e parted = same stage.Selecting e parted
  rest stage.Clearing e parted = same stage.Clearing e parted
  rest stage.Reading e parted = same stage.Reading e parted
  rest stage.Collecting e parted = same stage.Collecting e parted
  rest (stage.Down change) e parted = same (stage.Down change) e parted
  rest (stage.Restore change now) e parted = same (stage.Restore change now) e parted
  rest stage.Over e parted = same stage.Over e parted

  stopped_way : test.still_on.items ≡ [] → AreDistinct test.on.items → IsPartedTest history (next_down (failing fault.Stopped test))
  stopped_way none distinct = down_parted history test.on.items (failing fault.Stopped test) refl distinct (none_on history test.on.items test.still_on.items none) (none_shows history test.plan test.still_on.items none)

  stopped_off : (change : Change) → test.still_on.items ≡ [] → is_among test.on.items (address change.switch) ≡ false → AreDistinct test.on.items → IsPartedTest history (off_with change fault.Stopped test)
  stopped_off change none apart distinct = record {
    in_hand = (ap (λ (l : List Change). is_among l (address change.switch)) none, apart);
    tried = inl refl;
    on = distinct;
    left = none_on history test.on.items test.still_on.items none;
    show = none_shows history test.plan test.still_on.items none;
  }

  stopped_at_results : (now : TestStage) → IsParted now history test → IsPartedTest history (next_down (failing fault.Stopped test))
  stopped_at_results now parted = down_parted history test.on.items (failing fault.Stopped test) refl parted.on parted.left parted.show

  stopped_parted : (now : TestStage) → test.stage ≡ now → IsParted now history test → IsPartedTest history (stopped_at now test)
  stopped_parted stage.Advertised e parted = stopped_way parted.in_hand.0 parted.on
  stopped_parted stage.Capabilities e parted = stopped_way parted.in_hand.0 parted.on
  stopped_parted stage.Paths e parted = stopped_way parted.in_hand.0 parted.on
  stopped_parted (stage.Unread switch) e parted = stopped_way parted.in_hand.0 parted.on
  stopped_parted (stage.Found change) e parted = stopped_way parted.in_hand.0 parted.on
  stopped_parted (stage.Switched change) e parted = stopped_off change parted.in_hand.0 parted.in_hand.1 parted.on
  stopped_parted (stage.Again change now) e parted = stopped_off change parted.in_hand.0 parted.in_hand.1 parted.on
  stopped_parted stage.Selecting e parted = stopped_at_results stage.Selecting parted
  stopped_parted stage.Clearing e parted = stopped_at_results stage.Clearing parted
  stopped_parted stage.Resting e parted = stopped_at_results stage.Resting parted
  stopped_parted stage.Reading e parted = stopped_at_results stage.Reading parted
  stopped_parted stage.Collecting e parted = stopped_at_results stage.Collecting parted
  stopped_parted (stage.Down change) e parted = same (stage.Down change) e parted
  stopped_parted (stage.Restore change now) e parted = same (stage.Restore change now) e parted
  stopped_parted stage.Over e parted = same stage.Over e parted

  stopped_if : (b : Bool) → IsPartedTest history test → IsPartedTest history (if b then stopped test else test)
  stopped_if true parted = stopped_parted test.stage refl parted
  stopped_if false parted = parted

begun_parted : (plan : TestPlan) (found : Option Switch) → IsPartedTest [] (begun_by found plan)
begun_parted plan None = record { in_hand = (refl, refl); tried = tt; on = tt; left = tt; show = tt }
begun_parted plan (Some switch) = record { in_hand = tt; tried = tt; on = tt; left = tt; show = tt }

pub parted : (plan : TestPlan) (events : Events) → EachIsWanted plan events → IsPartedTest (steps_of events) (test_after plan events)
parted plan [] each = begun_parted plan (repeated plan.switches.items)
parted plan (Made step ∷ before) (asks, each) =
    let test = test_after plan before in turn (steps_of before) test test.stage step.op step.reply refl asks (ordered plan before) (parted plan before each)
parted plan (Waited time ∷ before) (asks, each) = let test = test_after plan before in rest (steps_of before) test test.stage refl (parted plan before each)
parted plan (Lacked page ∷ before) each = parted plan before each
parted plan (Asked number ∷ before) each = stopped_if (steps_of before) (test_after plan before) (nat_eq number stop) (parted plan before each)
