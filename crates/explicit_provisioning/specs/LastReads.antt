-- What a page shows, as it was read last; and what a success of provisioning with settings has read. Steps stand with the newest first.
-- (docs/lanes.md, "Signal integrity settings"; OIF-CMIS-05.0, the Active Control Set of page 11h)
use Rattle.std.specs.Prelude.{◌≡◌, ℕ, ◌&&◌, not, Bool, true, false, List, [], ◌∷◌, Option, Some, None, if◌then◌else◌}
use Rattle.bus_model.specs.declared.device.Dev.TheVariants.{A0}
use Rattle.bus_model.specs.declared.operation.Op.{Op}
use Rattle.bus_model.specs.declared.operation.Op.TheVariants.{Fetch, Store}
use Rattle.bus_model.specs.declared.operation.Reply.{Reply}
use Rattle.bus_model.specs.declared.operation.Reply.TheVariants.{Bytes, Done, Refused}
use Rattle.bus_model.specs.SameOperation.{same_op}
use Rattle.control_sets.specs.OutcomeOperations.{read_active, status_page}
use Rattle.control_sets.specs.Pages.{History, is_page_confirmed, may_select}
use Rattle.lane_controls.specs.declared.settings_change.SettingsChange.{SettingsChange}
use Rattle.lane_controls.specs.SettingsChanges.{inactive_lane, read_from}

-- something is stored, and not on the page selection
abbrev pub is_change : Op → Bool
is_change (Fetch dev offset count) = false
is_change (Store dev offset bytes) = not (may_select (Store dev offset bytes))

-- or what was read before
abbrev pub bytes_or : Option (List ℕ) → Reply → Option (List ℕ)
bytes_or earlier (Bytes bytes) = Some bytes.items
bytes_or earlier Done = earlier
bytes_or earlier Refused = earlier

-- what the operation read last while the page was confirmed, if nothing was changed since
abbrev pub last_read : ℕ → Op → History → Option (List ℕ)
last_read page op [] = None
last_read page op (step ∷ before) =
    if same_op op step.op && is_page_confirmed page before then bytes_or (last_read page op before) step.reply
    else (if is_change step.op then None else last_read page op before)

-- page 11h, the settings of the Active Control Set
abbrev pub read_settings : Op
read_settings = read_from 214 21

-- the Active Control Set has these control bytes, and each lane its settings
pub record ReadsExplicit (control : List ℕ) (change : SettingsChange) (history : History) : Type 0 where
  pub controls : last_read status_page read_active history ≡ Some control
  pub active : List ℕ
  pub settings : last_read status_page read_settings history ≡ Some active
  pub right : inactive_lane change.lanes change.settings active ≡ None
