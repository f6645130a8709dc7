-- Signal integrity settings are read from the Active Control Set, and compared with those that lanes were to get. (docs/lanes.md,
-- "Signal integrity settings"; OIF-CMIS-05.0, Active Control Set, Provisioned Tx and Rx Controls)
use Rattle.std.specs.Prelude.{ℕ, ◌-◌, nat_lt, Option, Some, None, if◌then◌else◌}
use Rattle.bus_model.specs.declared.operation.Reply.{Reply}
use Rattle.bus_model.specs.declared.operation.Reply.TheVariants.{Bytes, Done, Refused}
use Rattle.conversations.specs.declared.next.Next.{Next}
use Rattle.conversations.specs.declared.next.Next.TheVariants.{Do, End}
use Rattle.conversations.specs.Events.{Events}
use Rattle.lane_controls.specs.declared.settings_change.SettingsChange.{SettingsChange}
use Rattle.lane_controls.specs.SettingsChanges.{inactive_lane, read_from}
use Rattle.explicit_provisioning.specs.declared.fault.ExplicitFault.{ExplicitFault}
use Rattle.explicit_provisioning.specs.declared.fault.ExplicitFault.TheVariants.{NotActive}
use Rattle.explicit_provisioning.specs.declared.comparing.ComparingStage.{ComparingStage}
use Rattle.explicit_provisioning.specs.declared.comparing.ComparingStage.TheVariants.{Reading, Ended}
use Rattle.explicit_provisioning.specs.Heard.{GoesOn, IsEnded, IsHeard, heard}

abbrev pub begun : SettingsChange → ComparingStage
begun change = Reading change.tries

abbrev pub wants : ComparingStage → Next (Option ExplicitFault)
wants (Reading tries) = Do (read_from 214 21)
wants (Ended fault) = End fault

abbrev pub page_at : ComparingStage → Option ℕ
page_at (Reading tries) = Some 17
page_at (Ended fault) = None

-- a lane that differs is read again, while that may be tried
abbrev pub compared : Option ℕ → ℕ → ComparingStage
compared None tries = Ended None
compared (Some lane) tries = if nat_lt 0 tries then Reading (tries - 1) else Ended (Some (NotActive lane))

abbrev pub after_read : SettingsChange → ℕ → Reply → ComparingStage
after_read change tries (Bytes bytes) = compared (inactive_lane change.lanes change.settings bytes.items) tries
after_read change tries Done = Reading tries
after_read change tries Refused = Reading tries

abbrev pub after : SettingsChange → ComparingStage → Reply → ComparingStage
after change (Reading tries) reply = after_read change tries reply
after change (Ended fault) reply = Ended fault

-- ---- its events

abbrev pub comparing_after : SettingsChange → Events → ComparingStage
comparing_after change events = heard (after change) (begun change) events

abbrev pub IsComparingTold : SettingsChange → Events → ComparingStage → Type 0
IsComparingTold change events stage = IsHeard wants (after change) (begun change) events stage

abbrev pub ComparingEnds : SettingsChange → Events → Option ExplicitFault → Type 0
ComparingEnds change events fault = IsEnded wants (after change) (begun change) events fault

abbrev pub ComparingGoesOn : SettingsChange → Events → Type 0
ComparingGoesOn change events = GoesOn wants (after change) (begun change) events

abbrev pub comparing_needs : SettingsChange → Events → Option ℕ
comparing_needs change events = page_at (comparing_after change events)
