-- Whatever happens, a link test keeps account of what it switched.
use Rattle.std.proofs.Common.{◌≡◌, Bool, true, false, if◌then◌else◌, nat_eq, [], ◌∷◌, Option, Some, None, refl, sym, subst, inl}
use Rattle.bus_model.specs.declared.operation.Op.{Op}
use Rattle.bus_model.specs.declared.operation.Reply.{Reply}
use Rattle.paged_memory.specs.PageAddressing.{History}
use Rattle.paged_memory.proofs.KnownPageLaws.{step_of}
use Rattle.lane_controls.specs.declared.link_test.LinkTest.{LinkTest}
use Rattle.lane_controls.specs.declared.link_test.TestFault.TheVariants as fault
use Rattle.lane_controls.specs.declared.link_test.TestStage.{TestStage}
use Rattle.lane_controls.specs.declared.link_test.TestStage.TheVariants as stage
use Rattle.lane_controls.specs.declared.test_plan.Switch.{Switch}
use Rattle.lane_controls.specs.declared.test_plan.TestPlan.{TestPlan}
use Rattle.conversations.specs.declared.event.Event.TheVariants.{Made, Waited, Lacked, Asked}
use Rattle.conversations.specs.declared.next.Next.TheVariants.{Do}
use Rattle.conversations.specs.Events.{Events, steps_of}
use Rattle.lane_controls.specs.ByteHistories.{read_at, store_at}
use Rattle.lane_controls.specs.LinkTests.{after_at, failing, rested_at, stop, stopped, stopped_at, test_after}
use Rattle.lane_controls.specs.TestAccounts.{EachIsWanted}
use Rattle.lane_controls.specs.TestOperations.{begun_by, read_advertised, read_capabilities, read_flags, read_paths, read_results, select_results, wants_at}
use Rattle.lane_controls.specs.TestPlans.{address, repeated, restored, switched}
use Rattle.lane_controls.proofs.AdmissionTurns.{advertised_turn, capabilities_turn, paths_turn, unread_turn}
use Rattle.lane_controls.proofs.LinkTestLaws.{IsSoundTest, down_sound}
use Rattle.lane_controls.proofs.RestoreTurns.{down_turn, restore_turn}
use Rattle.lane_controls.proofs.ResultTurns.{clear_turn, collect_turn, results_turn, select_turn}
use Rattle.lane_controls.proofs.SwitchTurns.{again_turn, first_turn, switched_turn}
use Rattle.lane_controls.proofs.TestInvariants.{IsSound}
use Rattle.lane_controls.proofs.TestOrder.{IsOrdered, ordered}

module _ (history : History) (test : LinkTest) where
  -- the operation is what was wanted
  at_op : (now : TestStage) (wanted op : Op) (reply : Reply) → IsSoundTest (step_of wanted reply ∷ history) (after_at now test reply) → wanted ≡ op → IsSoundTest (step_of op reply ∷ history) (after_at now test reply)
  at_op now wanted op reply sound is = subst (λ o. IsSoundTest (step_of o reply ∷ history) (after_at now test reply)) is sound

  turn : (now : TestStage) (op : Op) (reply : Reply) → test.stage ≡ now → wants_at now test ≡ Do op → IsOrdered now test → IsSound now history test → IsSoundTest (step_of op reply ∷ history) (after_at now test reply)
  turn stage.Advertised op reply e asks order sound = at_op stage.Advertised read_advertised op reply (advertised_turn history test reply e sound) cc
  turn stage.Capabilities op reply e asks order sound = at_op stage.Capabilities read_capabilities op reply (capabilities_turn history test reply e sound) cc
  turn stage.Paths op reply e asks order sound = at_op stage.Paths read_paths op reply (paths_turn history test reply e order sound) cc
  turn (stage.Unread switch) op reply e asks order sound = at_op (stage.Unread switch) (read_at (address switch)) op reply (unread_turn history test switch reply e order sound) cc
  turn (stage.Found change) op reply e asks order sound =
      at_op (stage.Found change) (store_at (address change.switch) (switched change.switch change.original)) op reply (first_turn history test change reply sound) cc
  turn (stage.Switched change) op reply e asks order sound = at_op (stage.Switched change) (read_at (address change.switch)) op reply (switched_turn history test change reply e order sound) cc
  turn (stage.Again change now) op reply e asks order sound =
      at_op (stage.Again change now) (store_at (address change.switch) (switched change.switch now)) op reply (again_turn history test change reply now sound) cc
  turn stage.Selecting op reply e asks order sound = at_op stage.Selecting (select_results test.plan) op reply (select_turn history test reply e sound) cc
  turn stage.Clearing op reply e asks order sound = at_op stage.Clearing read_flags op reply (clear_turn history test reply e sound) cc
  turn stage.Resting op reply e asks order sound = absurd cc
  turn stage.Reading op reply e asks order sound = at_op stage.Reading read_results op reply (results_turn history test reply e sound) cc
  turn stage.Collecting op reply e asks order sound = at_op stage.Collecting read_flags op reply (collect_turn history test reply e sound) cc
  turn (stage.Down change) op reply e asks order sound = at_op (stage.Down change) (read_at (address change.switch)) op reply (down_turn history test change reply e sound) cc
  turn (stage.Restore change now) op reply e asks order sound =
      at_op (stage.Restore change now) (store_at (address change.switch) (restored change now)) op reply (restore_turn history test change reply now sound) cc
  turn stage.Over op reply e asks order sound = absurd cc

  same : (now : TestStage) → test.stage ≡ now → IsSound now history test → IsSoundTest history test
  same now e sound = subst (λ (s : TestStage). IsSound s history test) (sym e) sound

  -- time passes
  rest : (now : TestStage) → test.stage ≡ now → IsSound now history test → IsSoundTest history (rested_at now test)
  rest stage.Resting e sound = record { kept = sound.kept; at = tt }
  rest stage.Advertised e sound = same stage.Advertised e sound
  rest stage.Capabilities e sound = same stage.Capabilities e sound
  rest stage.Paths e sound = same stage.Paths e sound
  rest (stage.Unread switch) e sound = same (stage.Unread switch) e sound
  rest (stage.Found change) e sound = same (stage.Found change) e sound
  rest (stage.Switched change) e sound = same (stage.Switched change) e sound
  rest (stage.Again change now) e sound = same (stage.Again change now) e sound
  rest stage.Selecting e sound = same stage.Selecting e sound
  rest stage.Clearing e sound = same stage.Clearing e sound
  rest stage.Reading e sound = same stage.Reading e sound
  rest stage.Collecting e sound = same stage.Collecting e sound
  rest (stage.Down change) e sound = same (stage.Down change) e sound
  rest (stage.Restore change now) e sound = same (stage.Restore change now) e sound
  rest stage.Over e sound = same stage.Over e sound

  -- the caller ends it
  stopped_sound : (now : TestStage) → test.stage ≡ now → IsSound now history test → IsSoundTest history (stopped_at now test)
  stopped_sound stage.Advertised e sound = down_sound history (failing fault.Stopped test) sound.kept
  stopped_sound stage.Capabilities e sound = down_sound history (failing fault.Stopped test) sound.kept
  stopped_sound stage.Paths e sound = down_sound history (failing fault.Stopped test) sound.kept
  stopped_sound (stage.Unread switch) e sound = down_sound history (failing fault.Stopped test) sound.kept
  stopped_sound (stage.Found change) e sound = down_sound history (failing fault.Stopped test) sound.kept
  stopped_sound (stage.Switched change) e sound = record { kept = sound.kept; at = sound.at.1 }
  stopped_sound (stage.Again change now) e sound = record { kept = sound.kept; at = sound.at.1 }
  stopped_sound stage.Selecting e sound = down_sound history (failing fault.Stopped test) sound.kept
  stopped_sound stage.Clearing e sound = down_sound history (failing fault.Stopped test) sound.kept
  stopped_sound stage.Resting e sound = down_sound history (failing fault.Stopped test) sound.kept
  stopped_sound stage.Reading e sound = down_sound history (failing fault.Stopped test) sound.kept
  stopped_sound stage.Collecting e sound = down_sound history (failing fault.Stopped test) sound.kept
  stopped_sound (stage.Down change) e sound = same (stage.Down change) e sound
  stopped_sound (stage.Restore change now) e sound = same (stage.Restore change now) e sound
  stopped_sound stage.Over e sound = same stage.Over e sound

  stopped_if : (b : Bool) → IsSoundTest history test → IsSoundTest history (if b then stopped test else test)
  stopped_if true sound = stopped_sound test.stage refl sound
  stopped_if false sound = sound

-- ---- whatever happened

begun_sound : (plan : TestPlan) (found : Option Switch) → IsSoundTest [] (begun_by found plan)
begun_sound plan None = record { kept = record { steps = tt; accounted = λ a control. inl refl; on_right = tt; left_right = tt }; at = (refl, refl, λ a control. refl) }
begun_sound plan (Some switch) = record { kept = record { steps = tt; accounted = λ a control. inl refl; on_right = tt; left_right = tt }; at = refl }

pub sound : (plan : TestPlan) (events : Events) → EachIsWanted plan events → IsSoundTest (steps_of events) (test_after plan events)
sound plan [] each = begun_sound plan (repeated plan.switches.items)
sound plan (Made step ∷ before) (asks, each) =
    let test = test_after plan before in turn (steps_of before) test test.stage step.op step.reply refl asks (ordered plan before) (sound plan before each)
sound plan (Waited time ∷ before) (asks, each) = let test = test_after plan before in rest (steps_of before) test test.stage refl (sound plan before each)
sound plan (Lacked page ∷ before) each = sound plan before each
sound plan (Asked number ∷ before) each = stopped_if (steps_of before) (test_after plan before) (nat_eq number stop) (sound plan before each)
