-- Before anything is stored, and while a control is read that wasn't switched, a link test keeps account.
use Rattle.std.proofs.Common.{◌≡◌, ℕ, Bool, true, false, if◌then◌else◌, nat_eq, ◌∷◌, Option, Some, None, slice_index, refl, sym, subst, inl, ◌∙◌}
use Rattle.arrayvec.specs.ArrayVec.{ArrayVec}
use Rattle.bus_model.specs.declared.device.Dev.TheVariants.{A0}
use Rattle.bus_model.specs.declared.operation.Op.TheVariants.{Fetch}
use Rattle.bus_model.specs.declared.operation.Reply.{Reply}
use Rattle.bus_model.specs.declared.operation.Reply.TheVariants.{Bytes, Done, Refused}
use Rattle.bus_model.specs.declared.operation.Step.{Step}
use Rattle.paged_memory.specs.PageAddressing.{History}
use Rattle.paged_memory.proofs.KnownPageLaws.{step_of}
use Rattle.lane_controls.specs.declared.link_test.LinkTest.{LinkTest}
use Rattle.lane_controls.specs.declared.link_test.TestFault.{TestFault}
use Rattle.lane_controls.specs.declared.link_test.TestFault.TheVariants as fault
use Rattle.lane_controls.specs.declared.link_test.TestStage.{TestStage}
use Rattle.lane_controls.specs.declared.link_test.TestStage.TheVariants as stage
use Rattle.lane_controls.specs.declared.test_plan.Switch.{Switch}
use Rattle.lane_controls.specs.ByteHistories.{read_at}
use Rattle.lane_controls.specs.Capabilities.{has_diagnostics}
use Rattle.lane_controls.specs.LinkTests.{admitted_by, after_at, capable_by, next_up}
use Rattle.lane_controls.specs.TestOperations.{is_among, read_advertised, read_capabilities, read_paths, refused}
use Rattle.lane_controls.specs.TestPlans.{address, forbidden, incapability, switched, up_lanes}
use Rattle.lane_controls.specs.TestSteps.{AllMade, IsPermitted, IsSupported}
use Rattle.lane_controls.proofs.ByteLaws.{read_now}
use Rattle.lane_controls.proofs.ElsewhereLaws.{IsAside, fetch_is_at, fresh_kept, kept_step, read_aside}
use Rattle.lane_controls.proofs.LinkTestLaws.{IsSoundTest, is_kept, knows_aside, stays, up_sound}
use Rattle.lane_controls.proofs.TestInvariants.{AreKept, IsSound, IsUntouched, IsUp}
use Rattle.lane_controls.proofs.TestOrder.{IsFirst, IsInTurn, below_first, below_next}
use Rattle.lane_controls.proofs.TestPlanLaws.{clear}

module _ (history : History) (test : LinkTest) where
  -- ---- something is read before anything was stored

  module _ (x count : ℕ) (reply : Reply) where
    untouched_kept : (now : TestStage) → IsSound now history test → IsUntouched history test → AreKept test.plan (step_of (Fetch A0 x count) reply ∷ history) (is_kept test) test.on.items test.still_on.items
    untouched_kept now sound (no_on, no_left, none) = record {
      steps = (inl tt, sound.kept.steps);
      accounted = λ a control. inl (none a control);
      on_right = subst (AllMade test.plan (step_of (Fetch A0 x count) reply ∷ history)) (sym no_on) tt;
      left_right = subst (AllMade test.plan (step_of (Fetch A0 x count) reply ∷ history)) (sym no_left) tt;
    }

  pub advertised_turn : (reply : Reply) → test.stage ≡ stage.Advertised → IsSound stage.Advertised history test → IsSoundTest (step_of read_advertised reply ∷ history) (after_at stage.Advertised test reply)
  advertised_turn (Bytes bytes) e sound = go (has_diagnostics (slice_index bytes.items 0))
    where
      go : (has : Bool) → IsSoundTest (step_of read_advertised (Bytes bytes) ∷ history) (if has then record test { stage = stage.Capabilities } else refused fault.NoDiagnostics test)
      go true = record { kept = untouched_kept 142 1 (Bytes bytes) stage.Advertised sound sound.at; at = sound.at }
      go false = record { kept = untouched_kept 142 1 (Bytes bytes) stage.Advertised sound sound.at; at = sound.at.0 }
  advertised_turn Done e sound = stays history test stage.Advertised (step_of read_advertised Done) e (record { kept = untouched_kept 142 1 Done stage.Advertised sound sound.at; at = sound.at })
  advertised_turn Refused e sound = stays history test stage.Advertised (step_of read_advertised Refused) e (record { kept = untouched_kept 142 1 Refused stage.Advertised sound sound.at; at = sound.at })

  pub capabilities_turn : (reply : Reply) → test.stage ≡ stage.Capabilities → IsSound stage.Capabilities history test → IsSoundTest (step_of read_capabilities reply ∷ history) (after_at stage.Capabilities test reply)
  capabilities_turn (Bytes bytes) e sound = go (incapability bytes.items test.plan) refl
    where
      go : (why : Option TestFault) → incapability bytes.items test.plan ≡ why → IsSoundTest (step_of read_capabilities (Bytes bytes) ∷ history) (capable_by why test)
      go None able = record { kept = untouched_kept 128 12 (Bytes bytes) stage.Capabilities sound sound.at; at = (sound.at, (bytes.items, refl, able)) }
      go (Some why) is = record { kept = untouched_kept 128 12 (Bytes bytes) stage.Capabilities sound sound.at; at = sound.at.0 }
  capabilities_turn Done e sound = stays history test stage.Capabilities (step_of read_capabilities Done) e (record { kept = untouched_kept 128 12 Done stage.Capabilities sound sound.at; at = sound.at })
  capabilities_turn Refused e sound = stays history test stage.Capabilities (step_of read_capabilities Refused) e (record { kept = untouched_kept 128 12 Refused stage.Capabilities sound sound.at; at = sound.at })

  pub paths_turn : (reply : Reply) → test.stage ≡ stage.Paths → IsFirst test → IsSound stage.Paths history test → IsSoundTest (step_of read_paths reply ∷ history) (after_at stage.Paths test reply)
  paths_turn (Bytes bytes) e first sound = go (forbidden test.plan (up_lanes bytes.items)) refl
    where
      go : (found : Option Switch) → forbidden test.plan (up_lanes bytes.items) ≡ found → IsSoundTest (step_of read_paths (Bytes bytes) ∷ history) (admitted_by found test)
      go None is =
          up_sound (step_of read_paths (Bytes bytes) ∷ history) test
          (λ switch at. clear test.plan.switches.items test.next_switch test.on.items switch first.0 (below_first test first) at)
          (sound.at.1, (bytes.items, refl, is)) (λ a control. inl (sound.at.0.2 a control)) (untouched_kept 128 4 (Bytes bytes) stage.Paths sound sound.at.0)
      go (Some switch) is = record { kept = untouched_kept 128 4 (Bytes bytes) stage.Paths sound sound.at.0; at = sound.at.0.0 }
  paths_turn Done e first sound = stays history test stage.Paths (step_of read_paths Done) e (record { kept = untouched_kept 128 4 Done stage.Paths sound sound.at.0; at = sound.at })
  paths_turn Refused e first sound = stays history test stage.Paths (step_of read_paths Refused) e (record { kept = untouched_kept 128 4 Refused stage.Paths sound sound.at.0; at = sound.at })

  -- ---- a control that wasn't switched

  module _ (switch : Switch) (reply : Reply) (sound : IsSound (stage.Unread switch) history test) where
    abbrev reads : Step
    reads = step_of (read_at (address switch)) reply

    reads_aside : IsAside reads history
    reads_aside = read_aside (address switch) reply history

    unread_kept : AreKept test.plan (reads ∷ history) (is_kept test) test.on.items test.still_on.items
    unread_kept =
        kept_step test.plan history reads reads_aside (address switch) (fetch_is_at (address switch) 1 reply history) (is_kept test) (is_kept test) (λ a apart n. n)
        test.on.items test.still_on.items (inl tt) (λ control. inl sound.at.4) sound.kept

    unread_up : IsUp (reads ∷ history) test (is_among test.on.items)
    unread_up = record {
      knows = knows_aside history test reads reads_aside sound.at.0.knows;
      fresh = fresh_kept test.plan history reads reads_aside (address switch) (fetch_is_at (address switch) 1 reply history) (is_among test.on.items) (is_among test.on.items) (λ a apart n. n)
          (λ control. inl sound.at.4) sound.at.0.fresh;
    }

    unread_permitted : IsPermitted test.plan (reads ∷ history) switch
    unread_permitted = let (states, read, ok) = sound.at.2 in (states, reads_aside.paths ∙ read, ok)

    unread_supported : IsSupported (reads ∷ history) switch
    unread_supported = let (capabilities, seen, can) = sound.at.3 in (capabilities, reads_aside.capabilities ∙ seen, can)

    unread_stays : IsSound (stage.Unread switch) (reads ∷ history) test
    unread_stays = record { kept = unread_kept; at = (unread_up, sound.at.1, unread_permitted, unread_supported, sound.at.4) }

  found_turn : (switch : Switch) (bytes : ArrayVec ℕ) (sound : IsSound (stage.Unread switch) history test) → IsInTurn test switch → let byte = slice_index bytes.items 0 in
      (b : Bool) → nat_eq (switched switch byte) byte ≡ b → IsSoundTest (reads switch (Bytes bytes) sound ∷ history) (if b then next_up test else record test { stage = stage.Found (record { switch = switch; original = byte }) })
  found_turn switch bytes sound turn true e =
      let up = unread_up switch (Bytes bytes) sound in
      up_sound (reads switch (Bytes bytes) sound ∷ history) test (λ other at. clear test.plan.switches.items test.next_switch test.on.items other turn.apart (below_next test switch turn) at)
      up.knows up.fresh (unread_kept switch (Bytes bytes) sound)
  found_turn switch bytes sound turn false e = record {
    kept = unread_kept switch (Bytes bytes) sound;
    at = (
      record { knows = (unread_up switch (Bytes bytes) sound).knows; fresh = (unread_up switch (Bytes bytes) sound).fresh },
      record {
        listed = sound.at.1;
        permitted = unread_permitted switch (Bytes bytes) sound;
        supported = unread_supported switch (Bytes bytes) sound;
        none = sound.at.4;
        read = read_now (address switch) history bytes;
      },
    );
  }

  pub unread_turn : (switch : Switch) (reply : Reply) → test.stage ≡ stage.Unread switch → IsInTurn test switch → IsSound (stage.Unread switch) history test
      → IsSoundTest (step_of (read_at (address switch)) reply ∷ history) (after_at (stage.Unread switch) test reply)
  unread_turn switch (Bytes bytes) e turn sound = found_turn switch bytes sound turn (nat_eq (switched switch (slice_index bytes.items 0)) (slice_index bytes.items 0)) refl
  unread_turn switch Done e turn sound = stays history test (stage.Unread switch) (step_of (read_at (address switch)) Done) e (unread_stays switch Done sound)
  unread_turn switch Refused e turn sound = stays history test (stage.Unread switch) (step_of (read_at (address switch)) Refused) e (unread_stays switch Refused sound)
