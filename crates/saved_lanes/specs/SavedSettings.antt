-- A change of signal integrity settings as plain numbers: which numbers are whose. (docs/lanes.md, "From C and Python"; this project's
-- own)
use Rattle.std.specs.Prelude.{ℕ, ◌==◌, ◌&&◌, nat_le, Bool, Option, Some, None, if◌then◌else◌}
use Rattle.conversations.specs.declared.on_page.OnPage.{OnPage}
use Rattle.conversations.specs.Patiently.{Patient}
use Rattle.field_tables.specs.LaneSets.{lanes_in}
use Rattle.lane_controls.specs.declared.settings_change.ChangingSettings.{ChangingSettings}
use Rattle.lane_controls.specs.declared.settings_change.SettingsEnd.{SettingsEnd}
use Rattle.lane_controls.specs.declared.settings_change.SettingsEnd.TheVariants as ends
use Rattle.lane_controls.specs.declared.settings_change.SettingsPiece.TheVariants.{First, Second, Third}
use Rattle.lane_controls.specs.declared.settings_change.SettingsStage.{SettingsStage}
use Rattle.lane_controls.specs.declared.settings_change.SettingsStage.TheVariants.{States, Staged, Controls, Storing, Stored, Applying, Applied, Comparing, Ended}
use Rattle.saved_lanes.specs.declared.settings.numbers.SavedSettings.{SavedSettings}
use Rattle.saved_lanes.specs.SavedLanes.{is_one, page_in, taken_in}

-- what stands in each: DCS1, in ASCII
abbrev pub change_magic : ℕ
change_magic = 0x44435331

-- ---- how far it has come

abbrev pub end_in : ℕ → ℕ → SettingsEnd
end_in number lane =
    if number == 0 then ends.Active
    else (if number == 1 then ends.NotUp lane
    else (if number == 2 then ends.NotExplicit lane
    else (if number == 3 then ends.NotStaged
    else (if number == 4 then ends.Rejected lane
    else ends.NotActive lane))))

abbrev pub numbers_of_end : SettingsEnd → ℕ × ℕ
numbers_of_end ends.Active = (0, 0)
numbers_of_end (ends.NotUp lane) = (1, lane)
numbers_of_end (ends.NotExplicit lane) = (2, lane)
numbers_of_end ends.NotStaged = (3, 0)
numbers_of_end (ends.Rejected lane) = (4, lane)
numbers_of_end (ends.NotActive lane) = (5, lane)

abbrev pub stage_in : ℕ → ℕ → ℕ → SettingsStage
stage_in number end lane =
    if number == 0 then States
    else (if number == 1 then Staged
    else (if number == 2 then Controls
    else (if number == 3 then Storing First
    else (if number == 4 then Storing Second
    else (if number == 5 then Storing Third
    else (if number == 6 then Stored
    else (if number == 7 then Applying
    else (if number == 8 then Applied
    else (if number == 9 then Comparing
    else Ended (end_in end lane))))))))))

abbrev pub is_end : ℕ → Bool
is_end number = nat_le number 5

abbrev pub is_known : ℕ → ℕ → Bool
is_known stage end = nat_le stage 10 && is_end end

abbrev pub settings_at : SavedSettings → ChangingSettings
settings_at saved = record {
  change = record { lanes = lanes_in saved.lanes; settings = saved.settings; tries = saved.tries };
  stage = stage_in saved.stage saved.end saved.end_lane;
  staged = saved.staged;
  mixed = saved.mixed;
  tries = saved.left;
}

-- ---- on a bus

abbrev pub Procedure : Type 0
Procedure = Patient (OnPage ChangingSettings)

abbrev pub procedure_in : SavedSettings → Procedure
procedure_in saved = record {
  conversation = record {
    conversation = record {
      conversation = settings_at saved;
      selection = page_in saved.selection saved.page;
      taken = taken_in saved.taken saved.taken_page;
      doubts = is_one saved.doubts;
    };
    patience = record { pause = saved.pause; limit = saved.limit };
    due = is_one saved.due;
    idle = saved.idle;
  };
  steps = saved.steps;
  limit = saved.max_steps;
}

abbrev pub is_sound : SavedSettings → Bool
is_sound saved = saved.magic == change_magic && is_known saved.stage saved.end

-- the change under way by these numbers; none by other memory
unfoldable pub changing_in : SavedSettings → Option Procedure
changing_in saved = if is_sound saved then Some (procedure_in saved) else None
