-- The host lanes that control bytes put into a data path. (docs/lanes.md, "From C and Python"; OIF-CMIS-05.0, "Data Path Configuration",
-- AppSelCode 0 of DPConfigLane)
use Rattle.std.specs.Prelude.{ℕ, ◌+◌, ◌==◌, List, slice_index, if◌then◌else◌}
use Rattle.std.specs.FinSet as set
use Rattle.conversations.specs.declared.pausing.Patience.{Patience}
use Rattle.field_tables.specs.LaneSets.{Lanes, lanes_in}
use Rattle.lane_controls.specs.declared.settings_change.SettingsChange.{SettingsChange}
use Rattle.control_sets.specs.declared.procedures.procedure.Work.{Work}
use Rattle.control_sets.specs.declared.procedures.procedure.Work.TheVariants.{Provisioning}
use Rattle.explicit_provisioning.specs.ExplicitBytes.{explicit_bytes}
use Rattle.explicit_provisioning.specs.ExplicitProcedures.{WatchfulTasks, watchful}

-- the lane's bit, unless its control byte is 0
abbrev pub bit_of : ℕ → ℕ → ℕ
bit_of byte bit = if byte == 0 then 0 else bit

abbrev pub used_byte : List ℕ → ℕ
used_byte control =
    let at = slice_index control in
    bit_of (at 0) 1 + bit_of (at 1) 2 + bit_of (at 2) 4 + bit_of (at 3) 8 + bit_of (at 4) 16 + bit_of (at 5) 32 + bit_of (at 6) 64 + bit_of (at 7) 128

abbrev pub used_lanes : List ℕ → Lanes
used_lanes control = lanes_in (used_byte control)

-- ---- how provisioning with settings begins

-- a lane of no path has no settings of its own
abbrev pub wanted_of : List ℕ → SettingsChange → SettingsChange
wanted_of control change = record { lanes = set.intersection change.lanes (used_lanes control); settings = change.settings; tries = change.tries }

abbrev pub work_of : List ℕ → Lanes → SettingsChange → Work
work_of control lanes change = Provisioning (explicit_bytes control (wanted_of control change).lanes) lanes

abbrev pub begun : List ℕ → Lanes → SettingsChange → Patience → WatchfulTasks
begun control lanes change patience = watchful (wanted_of control change) (work_of control lanes change) patience
