-- Signal integrity settings as C sees them: those of a module, what it can do, and what is told of each call on a change.
-- (docs/lanes.md, "From C and Python"; OIF-CMIS-05.0, Supported Controls, Staged Control Set 0, Active Control Set)
use Rattle.std.specs.Prelude.{◌≡◌, ℕ, ◌-◌, List, replicate, take, drop, slice_index, Option, Some, None, Result, Ok, Err}
use Rattle.std.specs.FinMap as map
use Rattle.std.specs.Option.{option_map, option_or}
use Rattle.applications.specs.Refusals.{advert_fault_under}
use Rattle.bus_model.specs.declared.device.Dev.TheVariants.{A0}
use Rattle.conversations.specs.declared.next.Next.{Next}
use Rattle.conversations.specs.declared.next.Next.TheVariants.{Do, Wait, End}
use Rattle.conversations.specs.declared.pausing.Timed.{Timed}
use Rattle.conversations.specs.declared.within.Spent.{Spent}
use Rattle.lane_controls.specs.declared.settings_change.SettingsChange.{SettingsChange}
use Rattle.lane_controls.specs.declared.settings_change.SettingsEnd.{SettingsEnd}
use Rattle.paged_memory.specs.declared.key.Key.{Key}
use Rattle.paged_memory.specs.Images.{Memory}
use Rattle.paged_memory.specs.Keys.{upper_key}
use Rattle.saved_lanes.specs.declared.settings.ending.SavedSettingsEnd.{SavedSettingsEnd}
use Rattle.saved_lanes.specs.declared.settings.numbers.SavedLimits.{SavedLimits}
use Rattle.saved_lanes.specs.declared.settings.numbers.SavedSettings.{SavedSettings}
use Rattle.saved_lanes.specs.declared.settings.numbers.SavedTargets.{SavedTargets}
use Rattle.saved_lanes.specs.declared.settings.targets.SettingsRefusal.{SettingsRefusal}
use Rattle.saved_lanes.specs.SavedSettings.{Procedure, changing_in}
use Rattle.saved_lanes.specs.SettingsEndings.{ending_of}
use Rattle.saved_lanes.specs.SettingsTargets.{limits_of, targets_of}
use Rattle.saved_lanes.specs.SettingsTurns.{wants}
use Rattle.firmware_api.specs.declared.settings.ModuleSettings.{ModuleSettings}
use Rattle.firmware_api.specs.declared.status.Refusal.{Refusal}
use Rattle.firmware_api.specs.declared.status.Refusal.TheVariants.{Advert, NoConversation, NotEnded, Settings}
use Rattle.firmware_api.specs.Changes.{absence}
use Rattle.firmware_api.specs.Halves.{as_it_stands}
use Rattle.firmware_api.specs.Statuses.{done, number_of, status_of}

-- ---- of a module

abbrev pub page_key : ℕ → Key
page_key page = upper_key A0 0 page

-- the 21 bytes of a page from this address on
abbrev pub settings_at : ℕ → List ℕ → List ℕ
settings_at address page = take 21 (drop (address - 128) page)

-- page 10h has those that are staged, page 11h those that are active
abbrev pub no_targets : SavedTargets
no_targets = record {
  adaptive = 0;
  recall = replicate 8 0;
  fixed_input = replicate 8 0;
  recover_tx = 0;
  recover_rx = 0;
  pre_cursor = replicate 8 0;
  post_cursor = replicate 8 0;
  amplitude = replicate 8 0;
}

abbrev pub staged_by : Option (List ℕ) → SavedTargets
staged_by None = no_targets
staged_by (Some page) = targets_of (settings_at 153 page)

abbrev pub settings_by : Memory → Option (List ℕ) → Result ModuleSettings Key
settings_by memory None = Err (page_key 17)
settings_by memory (Some page) = Ok (record {
  active = targets_of (settings_at 214 page);
  staged = staged_by (map.get memory (page_key 16));
  has_staged = number_of (map.contains_key memory (page_key 16));
})

abbrev pub settings_in : Memory → Result ModuleSettings Key
settings_in memory = settings_by memory (map.get memory (page_key 17))

abbrev pub limits_by : Option (List ℕ) → Result SavedLimits Key
limits_by None = Err (page_key 1)
limits_by (Some page) = Ok (limits_of (slice_index page (153 - 128)) (slice_index page (154 - 128)))

abbrev pub limits_in : Memory → Result SavedLimits Key
limits_in memory = limits_by (map.get memory (page_key 1))

-- of a module whose Applications are not read
unfoldable pub advertising_refusal : Memory → Option Refusal
advertising_refusal memory = option_map Advert (advert_fault_under as_it_stands memory)

-- so; or since a page is absent
abbrev pub settings_refusal : Memory → Option Refusal
settings_refusal memory = option_or (advertising_refusal memory) (absence (settings_in memory))

abbrev pub limits_refusal : Memory → Option Refusal
limits_refusal memory = option_or (advertising_refusal memory) (absence (limits_in memory))

-- ---- of a change

abbrev pub refusal_of : Result SettingsChange SettingsRefusal → Option Refusal
refusal_of (Ok change) = None
refusal_of (Err refusal) = Some (Settings refusal)

abbrev pub wanted_of : Option Procedure → Option (Next (Spent (Timed SettingsEnd)))
wanted_of None = None
wanted_of (Some procedure) = Some (wants procedure)

abbrev pub wanted_in : SavedSettings → Option (Next (Spent (Timed SettingsEnd)))
wanted_in saved = wanted_of (changing_in saved)

abbrev pub IsEndBy : ℕ → SavedSettingsEnd → Procedure → Next (Spent (Timed SettingsEnd)) → Type 0
IsEndBy status ended procedure (Do op) = status ≡ status_of NotEnded
IsEndBy status ended procedure (Wait time) = status ≡ status_of NotEnded
IsEndBy status ended procedure (End spent) = (status ≡ done) × (ended ≡ ending_of procedure spent)

abbrev pub IsEndTold : ℕ → SavedSettingsEnd → Option Procedure → Type 0
IsEndTold status ended None = status ≡ status_of NoConversation
IsEndTold status ended (Some procedure) = IsEndBy status ended procedure (wants procedure)
