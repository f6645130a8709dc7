-- A change of settings of a module that does as it is told. (docs/lanes.md; this project's own)
use Rattle.std.specs.Prelude.{◌≡◌, ℕ, List, [], ◌∷◌, None}
use Rattle.arrayvec.specs.ArrayVec.{ArrayVec}
use Rattle.bus_model.specs.declared.device.Dev.TheVariants.{A0}
use Rattle.bus_model.specs.declared.operation.Op.TheVariants.{Store}
use Rattle.bus_model.specs.declared.operation.Reply.{Reply}
use Rattle.bus_model.specs.declared.operation.Reply.TheVariants.{Bytes, Done}
use Rattle.bus_model.specs.declared.operation.Step.{Step}
use Rattle.conversations.specs.declared.event.Event.TheVariants.{Made, Waited, Lacked, Asked}
use Rattle.conversations.specs.declared.next.Next.TheVariants.{Do}
use Rattle.conversations.specs.Events.{Events}
use Rattle.lane_controls.specs.declared.settings_change.SettingsChange.{SettingsChange}
use Rattle.lane_controls.specs.SettingsChanges.{down_lane, inactive_lane, mixed, read_from, rejected_lane, settings_after, unfit_lane, waiting_lane, wants}

-- what the module shows: the states of its lanes, the staged set and the active control bytes as they were at first, and then the statuses
-- and the settings of the active set
pub record Shown : Type 0 where
  pub states : List ℕ
  pub staged : List ℕ
  pub controls : List ℕ
  pub statuses : List ℕ
  pub active : List ℕ

-- of the lanes each is up, under explicit control, and then applied without a fault; and it has the settings
pub record Obeys (change : SettingsChange) (shown : Shown) : Type 0 where
  pub up : down_lane change.lanes shown.states ≡ None
  pub explicit : unfit_lane change.lanes shown.staged shown.controls ≡ None
  pub accepted : rejected_lane change.lanes shown.statuses ≡ None
  pub applied : waiting_lane change.lanes shown.statuses ≡ None
  pub active : inactive_lane change.lanes change.settings shown.active ≡ None

abbrev pub bytes : List ℕ → Reply
bytes items = Bytes (record { items = items })

-- it takes each store, and shows what is staged as it was stored
pub record Shows (change : SettingsChange) (shown : Shown) (step : Step) : Type 0 where
  pub states : step.op ≡ read_from 128 4 → step.reply ≡ bytes shown.states
  pub staged : step.op ≡ read_from 145 29 → step.reply ≡ bytes shown.staged
  pub controls : step.op ≡ read_from 206 8 → step.reply ≡ bytes shown.controls
  pub stores : (offset : ℕ) (given : ArrayVec ℕ) → step.op ≡ Store A0 offset given → step.reply ≡ Done
  pub stored : step.op ≡ read_from 153 21 → step.reply ≡ bytes (mixed change shown.staged)
  pub statuses : step.op ≡ read_from 202 4 → step.reply ≡ bytes shown.statuses
  pub active : step.op ≡ read_from 214 21 → step.reply ≡ bytes shown.active

-- each operation is what the change wanted, and the module replied so
abbrev pub AreShown : SettingsChange → Shown → Events → Type 0
AreShown change shown [] = Unit {0}
AreShown change shown (Made step ∷ before) = (wants (settings_after change before) ≡ Do step.op) × Shows change shown step × AreShown change shown before
AreShown change shown (Waited time ∷ before) = AreShown change shown before
AreShown change shown (Lacked page ∷ before) = AreShown change shown before
AreShown change shown (Asked number ∷ before) = AreShown change shown before
