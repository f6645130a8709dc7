-- Staging signal integrity settings: once the module is in ModuleReady, what is staged is read, the settings of some lanes are stored
-- among it, and it is read back. (docs/lanes.md, "Signal integrity settings"; OIF-CMIS-05.0, Module State Machine; Staged Control Set 0)
use Rattle.std.specs.Prelude.{ℕ, ◌-◌, nat_lt, Bool, List, Option, Some, None, is_none, if◌then◌else◌}
use Rattle.std.specs.Str.{bytes_eq}
use Rattle.bus_model.specs.declared.operation.Reply.{Reply}
use Rattle.bus_model.specs.declared.operation.Reply.TheVariants.{Bytes, Done, Refused}
use Rattle.conversations.specs.declared.next.Next.{Next}
use Rattle.conversations.specs.declared.next.Next.TheVariants.{Do, End}
use Rattle.conversations.specs.Events.{Events}
use Rattle.conversations.specs.Watching.{read_state, state_code}
use Rattle.module_states.specs.declared.state.ModuleState.{ModuleState as State}
use Rattle.module_states.specs.declared.state.ModuleState.TheVariants.{Ready}
use Rattle.module_states.specs.Codes.{state_at}
use Rattle.control_sets.specs.declared.fault.ProvisionFault.{ProvisionFault}
use Rattle.control_sets.specs.declared.fault.ProvisionFault.TheVariants.{ModuleState, Reserved}
use Rattle.lane_controls.specs.declared.settings_change.SettingsChange.{SettingsChange}
use Rattle.lane_controls.specs.declared.settings_change.SettingsPiece.{SettingsPiece}
use Rattle.lane_controls.specs.declared.settings_change.SettingsPiece.TheVariants.{First, Second, Third}
use Rattle.lane_controls.specs.SettingsChanges.{mixed, read_from, store_piece}
use Rattle.explicit_provisioning.specs.declared.fault.ExplicitFault.{ExplicitFault}
use Rattle.explicit_provisioning.specs.declared.fault.ExplicitFault.TheVariants.{Provision, NotStaged}
use Rattle.explicit_provisioning.specs.declared.staging.StagingStage.{StagingStage}
use Rattle.explicit_provisioning.specs.declared.staging.StagingStage.TheVariants.{Finding, Reading, Storing, Stored, Ended}
use Rattle.explicit_provisioning.specs.Following.{ends_so}
use Rattle.explicit_provisioning.specs.Heard.{GoesOn, IsEnded, IsHeard, heard}

abbrev pub begun : StagingStage
begun = Finding

-- what is asked for: control bytes are read with the settings that follow them
abbrev pub wants : StagingStage → Next (Option ExplicitFault)
wants Finding = Do read_state
wants Reading = Do (read_from 145 29)
wants (Storing piece settings tries) = Do (store_piece piece settings)
wants (Stored settings tries) = Do (read_from 153 21)
wants (Ended fault) = End fault

abbrev pub page_at : StagingStage → Option ℕ
page_at Finding = None
page_at Reading = Some 16
page_at (Storing piece settings tries) = Some 16
page_at (Stored settings tries) = Some 16
page_at (Ended fault) = None

-- ---- what a reply makes of it

abbrev pub fails : ProvisionFault → StagingStage
fails fault = Ended (Some (Provision fault))

-- the faults are those of provisioning
abbrev pub found_in : ℕ → Option State → StagingStage
found_in code None = fails (Reserved code)
found_in code (Some Ready) = Reading
found_in code (Some state) = fails (ModuleState code)

-- by the code of the module's state
abbrev pub found : ℕ → StagingStage
found code = found_in code (state_at code)

abbrev pub after_piece : SettingsPiece → List ℕ → ℕ → StagingStage
after_piece First settings tries = Storing Second settings tries
after_piece Second settings tries = Storing Third settings tries
after_piece Third settings tries = Stored settings tries

-- they read back so; else they are stored again, while that may be tried
abbrev pub checked : List ℕ → List ℕ → ℕ → StagingStage
checked bytes settings tries =
    if bytes_eq bytes settings then Ended None
    else (if nat_lt 0 tries then Storing First settings (tries - 1) else Ended (Some NotStaged))

abbrev pub if_read : Reply → (List ℕ → StagingStage) → StagingStage → StagingStage
if_read (Bytes bytes) next now = next bytes.items
if_read Done next now = now
if_read Refused next now = now

-- what was refused is read again; a store that was refused may have been carried out, which is read back
abbrev pub after : SettingsChange → StagingStage → Reply → StagingStage
after change Finding reply = if_read reply (λ bytes. found (state_code bytes)) Finding
after change Reading reply = if_read reply (λ staged. Storing First (mixed change staged) change.tries) Reading
after change (Storing piece settings tries) reply = after_piece piece settings tries
after change (Stored settings tries) reply = if_read reply (λ bytes. checked bytes settings tries) (Stored settings tries)
after change (Ended fault) reply = Ended fault

-- ---- its events

abbrev pub staging_after : SettingsChange → Events → StagingStage
staging_after change events = heard (after change) begun events

abbrev pub IsStagingTold : SettingsChange → Events → StagingStage → Type 0
IsStagingTold change events stage = IsHeard wants (after change) begun events stage

abbrev pub StagingEnds : SettingsChange → Events → Option ExplicitFault → Type 0
StagingEnds change events fault = IsEnded wants (after change) begun events fault

abbrev pub StagingGoesOn : SettingsChange → Events → Type 0
StagingGoesOn change events = GoesOn wants (after change) begun events

-- they are staged, and were read back
abbrev pub is_staged : SettingsChange → Events → Bool
is_staged change events = ends_so is_none (wants (staging_after change events))

-- the page that is needed after these events
abbrev pub staging_needs : SettingsChange → Events → Option ℕ
staging_needs change events = page_at (staging_after change events)
