-- What each lane is to have, what a module can do, and which change of settings is allowed. (docs/lanes.md, "From C and Python";
-- OIF-CMIS-05.0, Staged Control Set 0, Tx and Rx Controls, and Page 01h, Supported Controls)
use Rattle.std.specs.Prelude.{ℕ, ◌+◌, ◌-◌, ◌*◌, ◌/◌, ◌%◌, ◌==◌, List, [], ◌∷◌, find, slice_index, Option, Some, None, Result, Ok, Err, if◌then◌else◌}
use Rattle.std.specs.FinSet as set
use Rattle.std.specs.List.{range_with_len}
use Rattle.field_tables.specs.LaneSets.{Lanes, lanes_in}
use Rattle.lane_controls.specs.declared.settings_change.SettingsChange.{SettingsChange}
use Rattle.lane_controls.specs.declared.signal_settings.LaneSettings.{LaneSettings}
use Rattle.lane_controls.specs.declared.signal_settings.SettingFault.{SettingFault}
use Rattle.lane_controls.specs.declared.signal_settings.SignalLimits.{SignalLimits}
use Rattle.lane_controls.specs.declared.signal_settings.SignalTargets.{SignalTargets}
use Rattle.lane_controls.specs.SignalSettings.{settings_of, staged}
use Rattle.saved_lanes.specs.declared.settings.numbers.SavedLimits.{SavedLimits}
use Rattle.saved_lanes.specs.declared.settings.numbers.SavedSettingsChange.{SavedSettingsChange}
use Rattle.saved_lanes.specs.declared.settings.numbers.SavedTargets.{SavedTargets}
use Rattle.saved_lanes.specs.declared.settings.targets.Part.{Part}
use Rattle.saved_lanes.specs.declared.settings.targets.Part.TheVariants.{Recall, FixedInput, PreCursor, PostCursor, Amplitude}
use Rattle.saved_lanes.specs.declared.settings.targets.SettingsRefusal.{SettingsRefusal}
use Rattle.saved_lanes.specs.declared.settings.targets.SettingsRefusal.TheVariants.{NotPermitted, NotAdvertised}

-- ---- what lanes have

abbrev pub part_of : Part → LaneSettings → ℕ
part_of Recall settings = settings.recall
part_of FixedInput settings = settings.fixed_input
part_of PreCursor settings = settings.pre_cursor
part_of PostCursor settings = settings.post_cursor
part_of Amplitude settings = settings.amplitude

abbrev pub part_at : Part → List ℕ → ℕ → ℕ
part_at part bytes lane = part_of part (settings_of bytes lane)

abbrev pub each_lane : Part → List ℕ → List ℕ
each_lane part bytes = let at = part_at part bytes in at 1 ∷ at 2 ∷ at 3 ∷ at 4 ∷ at 5 ∷ at 6 ∷ at 7 ∷ at 8 ∷ []

abbrev pub targets_of : List ℕ → SavedTargets
targets_of bytes = record {
  adaptive = slice_index bytes 0;
  recall = each_lane Recall bytes;
  fixed_input = each_lane FixedInput bytes;
  recover_tx = slice_index bytes 7;
  recover_rx = slice_index bytes 8;
  pre_cursor = each_lane PreCursor bytes;
  post_cursor = each_lane PostCursor bytes;
  amplitude = each_lane Amplitude bytes;
}

-- ---- what a module can do

abbrev pub limits_of : ℕ → ℕ → SavedLimits
limits_of amplitudes_and_input cursors = record {
  amplitudes = amplitudes_and_input / 16;
  fixed_input = amplitudes_and_input % 16;
  pre_cursor = cursors % 16;
  post_cursor = cursors / 16;
}

-- where no amplitude is advertised there is none to choose, and its code is 0
abbrev pub amplitudes_in : ℕ → ℕ
amplitudes_in amplitudes = if amplitudes % 16 == 0 then 1 else amplitudes % 16

abbrev pub limits_in : SavedLimits → SignalLimits
limits_in limits = record {
  amplitudes_and_input = amplitudes_in limits.amplitudes * 16 + limits.fixed_input % 16;
  cursors = limits.post_cursor % 16 * 16 + limits.pre_cursor % 16;
}

-- ---- what these lanes are to have; nothing of the others counts, so they are taken to want the same as the lowest

abbrev pub place_of : Option ℕ → ℕ
place_of (Some lane) = lane - 1
place_of None = 0

abbrev pub lowest_of : Lanes → Option ℕ
lowest_of lanes = find (λ lane. set.contains lanes lane) (range_with_len 1 8)

abbrev pub lowest_place : Lanes → ℕ
lowest_place lanes = place_of (lowest_of lanes)

abbrev pub value_for : Lanes → List ℕ → ℕ → ℕ
value_for lanes values lane = if set.contains lanes lane then slice_index values (lane - 1) else slice_index values (lowest_place lanes)

abbrev pub of_lanes : Lanes → List ℕ → List ℕ
of_lanes lanes values = let at = value_for lanes values in at 1 ∷ at 2 ∷ at 3 ∷ at 4 ∷ at 5 ∷ at 6 ∷ at 7 ∷ at 8 ∷ []

abbrev pub targets_in : SavedTargets → Lanes → SignalTargets
targets_in targets lanes = record {
  adaptive = targets.adaptive;
  recall = of_lanes lanes targets.recall;
  fixed_input = of_lanes lanes targets.fixed_input;
  recover_tx = targets.recover_tx;
  recover_rx = targets.recover_rx;
  pre_cursor = of_lanes lanes targets.pre_cursor;
  post_cursor = of_lanes lanes targets.post_cursor;
  amplitude = of_lanes lanes targets.amplitude;
}

-- ---- each lane has to be permitted, and each target advertised

abbrev pub with_bytes : SavedSettingsChange → Result (List ℕ) SettingFault → Result SettingsChange SettingsRefusal
with_bytes change (Ok bytes) = Ok (record { lanes = lanes_in change.lanes; settings = bytes; tries = change.tries })
with_bytes change (Err fault) = Err (NotAdvertised fault)

abbrev pub change_of : SavedSettingsChange → SavedLimits → Result SettingsChange SettingsRefusal
change_of change limits =
    if set.is_subset (lanes_in change.lanes) (lanes_in change.permitted)
    then with_bytes change (staged (targets_in change.targets (lanes_in change.lanes)) (limits_in limits))
    else Err NotPermitted
