-- How a link test comes to its end. Events stand with the newest first. (docs/lanes.md; this project's own)
use Rattle.std.specs.Prelude.{◌≡◌, ℕ, ◌+◌, ◌*◌, true, false, [], ◌∷◌, None, length, slice_index}
use Rattle.arrayvec.specs.ArrayVec.{ArrayVec}
use Rattle.bus_model.specs.declared.operation.Reply.TheVariants.{Bytes}
use Rattle.bus_model.specs.declared.operation.Step.{Step}
use Rattle.bus_model.specs.Operations.{Answers}
use Rattle.conversations.specs.declared.event.Event.TheVariants.{Made, Waited, Lacked, Asked}
use Rattle.conversations.specs.declared.next.Next.TheVariants.{Do, Wait}
use Rattle.conversations.specs.Events.{Events}
use Rattle.paged_memory.specs.PageAddressing.{History}
use Rattle.lane_controls.specs.declared.test_plan.TestPlan.{TestPlan}
use Rattle.lane_controls.specs.ByteHistories.{last_stored, read_at, was_refused}
use Rattle.lane_controls.specs.Capabilities.{has_diagnostics}
use Rattle.lane_controls.specs.LaneProgress.{byte_now}
use Rattle.lane_controls.specs.LinkTests.{test_after}
use Rattle.lane_controls.specs.TestAccounts.{IsControl, wanted_measurements}
use Rattle.lane_controls.specs.TestOperations.{read_advertised, read_capabilities, read_paths, wants}
use Rattle.lane_controls.specs.TestPlans.{forbidden, incapability, up_lanes}

-- each is what was wanted, and each reply is of that kind
abbrev pub AreWanted : TestPlan → Events → Type 0
AreWanted plan [] = Unit {0}
AreWanted plan (Made step ∷ before) = (wants (test_after plan before) ≡ Do step.op) × Answers step.op step.reply × AreWanted plan before
AreWanted plan (Waited time ∷ before) = (wants (test_after plan before) ≡ Wait time) × AreWanted plan before
AreWanted plan (Lacked page ∷ before) = AreWanted plan before
AreWanted plan (Asked number ∷ before) = AreWanted plan before

-- how often time passed
abbrev pub pauses : Events → ℕ
pauses [] = 0
pauses (Made step ∷ before) = pauses before
pauses (Waited time ∷ before) = pauses before + 1
pauses (Lacked page ∷ before) = pauses before
pauses (Asked number ∷ before) = pauses before

-- to switch one control on it is read, stored and read back, and to switch it off again, read; in both cases it is stored and read back
-- once more as often as it may be
abbrev pub most_for_each : TestPlan → ℕ
most_for_each plan = 4 + 4 * plan.tries

-- besides, three readings come first, results are selected and old flags read, and each time there are results and flags
abbrev pub most_answered : TestPlan → ℕ
most_answered plan = 5 + 2 * wanted_measurements plan + length plan.switches.items * most_for_each plan

-- ---- a module that can do what the plan wants, refuses nothing, and keeps what is stored

-- its paths permit that, and it shows each control as it was stored last, where they were these at first
pub record Serves (plan : TestPlan) (first : ℕ → ℕ) (step : Step) (before : History) : Type 0 where
  pub answers : was_refused step.reply ≡ false
  pub advertised : (bytes : ArrayVec ℕ) → step.op ≡ read_advertised → step.reply ≡ Bytes bytes → has_diagnostics (slice_index bytes.items 0) ≡ true
  pub capabilities : (bytes : ArrayVec ℕ) → step.op ≡ read_capabilities → step.reply ≡ Bytes bytes → incapability bytes.items plan ≡ None
  pub paths : (bytes : ArrayVec ℕ) → step.op ≡ read_paths → step.reply ≡ Bytes bytes → forbidden plan (up_lanes bytes.items) ≡ None
  pub controls : (a : ℕ) (bytes : ArrayVec ℕ) → IsControl a → step.op ≡ read_at a → step.reply ≡ Bytes bytes → slice_index bytes.items 0 ≡ byte_now (first a) (last_stored a before)
