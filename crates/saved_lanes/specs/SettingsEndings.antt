-- How a change of settings ended, as numbers. (docs/lanes.md, "From C and Python"; this project's own)
use Rattle.std.specs.Prelude.{ℕ, Option, Some, None}
use Rattle.conversations.specs.declared.pausing.Timed.{Timed}
use Rattle.conversations.specs.declared.pausing.Timed.TheVariants.{InTime, Overdue}
use Rattle.conversations.specs.declared.within.Spent.{Spent}
use Rattle.lane_controls.specs.declared.settings_change.SettingsEnd.{SettingsEnd}
use Rattle.lane_controls.specs.declared.settings_change.SettingsEnd.TheVariants as ends
use Rattle.lane_controls.specs.declared.settings_change.SettingsStage.{SettingsStage}
use Rattle.lane_controls.specs.declared.settings_change.SettingsStage.TheVariants.{States, Staged, Controls, Storing, Stored, Applying, Applied, Comparing, Ended}
use Rattle.saved_lanes.specs.declared.settings.ending.SavedSettingsEnd.{SavedSettingsEnd}
use Rattle.saved_lanes.specs.SavedSettings.{Procedure, numbers_of_end}

-- it ended so, or was out of patience, or made as many operations as may be
abbrev pub numbers_of_timed : Option (Timed SettingsEnd) → ℕ × ℕ
numbers_of_timed (Some (InTime end)) = numbers_of_end end
numbers_of_timed (Some Overdue) = (6, 0)
numbers_of_timed None = (7, 0)

-- what a store may have done: nothing, staged settings, or also made them active
abbrev pub reached_by : SettingsEnd → ℕ
reached_by ends.Active = 2
reached_by (ends.NotUp lane) = 0
reached_by (ends.NotExplicit lane) = 0
reached_by ends.NotStaged = 1
reached_by (ends.Rejected lane) = 2
reached_by (ends.NotActive lane) = 2

abbrev pub reached_at : SettingsStage → ℕ
reached_at States = 0
reached_at Staged = 0
reached_at Controls = 0
reached_at (Storing piece) = 1
reached_at Stored = 1
reached_at Applying = 2
reached_at Applied = 2
reached_at Comparing = 2
reached_at (Ended end) = reached_by end

abbrev pub ending_by : ℕ × ℕ → ℕ → SavedSettingsEnd
ending_by (end, lane) reached = record { end = end; lane = lane; reached = reached }

abbrev pub ending_of : Procedure → Spent (Timed SettingsEnd) → SavedSettingsEnd
ending_of procedure spent = ending_by (numbers_of_timed spent.end) (reached_at procedure.conversation.conversation.conversation.stage)
