-- Signal integrity settings of a control set: what is staged for given targets (page 10h, bytes 153 to 173), within what page 01h
-- tells, and when they are active (page 11h, bytes 214 to 234, in the same order). (docs/lanes.md; OIF-CMIS-05.0, Staged Control Set
-- 0, Tx and Rx Controls, and Active Control Set)
use Rattle.std.specs.Prelude.{◌≡◌, ℕ, ◌+◌, ◌-◌, ◌*◌, ◌/◌, ◌%◌, ◌<◌, ◌==◌, ◌&&◌, nat_le, Bool, List, [], ◌∷◌, if◌then◌else◌, Result, Ok, Err, slice_index}
use Rattle.std.specs.Int.{bit_at}
use Rattle.std.specs.List.{list_all}
use Rattle.lane_controls.specs.declared.signal_settings.LaneSettings.{LaneSettings}
use Rattle.lane_controls.specs.declared.signal_settings.SettingFault.{SettingFault}
use Rattle.lane_controls.specs.declared.signal_settings.SettingFault.TheVariants.{Recall, FixedInput, PreCursor, PostCursor, Amplitude}
use Rattle.lane_controls.specs.declared.signal_settings.SignalLimits.{SignalLimits}
use Rattle.lane_controls.specs.declared.signal_settings.SignalTargets.{SignalTargets}

-- ---- what is staged

-- two lanes share a byte, the lower one its lower half
abbrev pub halves : List ℕ → ℕ → ℕ
halves values first = slice_index values first % 16 + slice_index values (first + 1) % 16 * 16

-- four lanes share a byte
abbrev pub quarters : List ℕ → ℕ → ℕ
quarters values first = slice_index values first % 4 + slice_index values (first + 1) % 4 * 4 + slice_index values (first + 2) % 4 * 16 + slice_index values (first + 3) % 4 * 64

abbrev pub bytes_of : SignalTargets → List ℕ
bytes_of targets =
    targets.adaptive ∷ quarters targets.recall 0 ∷ quarters targets.recall 4
    ∷ halves targets.fixed_input 0 ∷ halves targets.fixed_input 2 ∷ halves targets.fixed_input 4 ∷ halves targets.fixed_input 6
    ∷ targets.recover_tx ∷ targets.recover_rx
    ∷ halves targets.pre_cursor 0 ∷ halves targets.pre_cursor 2 ∷ halves targets.pre_cursor 4 ∷ halves targets.pre_cursor 6
    ∷ halves targets.post_cursor 0 ∷ halves targets.post_cursor 2 ∷ halves targets.post_cursor 4 ∷ halves targets.post_cursor 6
    ∷ halves targets.amplitude 0 ∷ halves targets.amplitude 2 ∷ halves targets.amplitude 4 ∷ halves targets.amplitude 6 ∷ []

abbrev pub are_within : List ℕ → ℕ → Bool
are_within values most = list_all (λ value. nat_le value most) values

-- one of the four codes whose bit is 1
abbrev pub is_amplitude : ℕ → ℕ → Bool
is_amplitude supported value = nat_le value 3 && (bit_at supported (value + 4) == 1)

-- the first that a module can't do is named
abbrev pub staged : SignalTargets → SignalLimits → Result (List ℕ) SettingFault
staged targets limits =
    if are_within targets.recall 3 then
    (if are_within targets.fixed_input (limits.amplitudes_and_input % 16) then
    (if are_within targets.pre_cursor (limits.cursors % 16) then
    (if are_within targets.post_cursor (limits.cursors / 16) then
    (if list_all (is_amplitude limits.amplitudes_and_input) targets.amplitude then Ok (bytes_of targets)
    else Err Amplitude) else Err PostCursor) else Err PreCursor) else Err FixedInput) else Err Recall

-- ---- what is active

abbrev pub half_of : List ℕ → ℕ → ℕ → ℕ
half_of bytes first index =
    if index % 2 == 0 then slice_index bytes (first + index / 2) % 16 else slice_index bytes (first + index / 2) / 16

abbrev pub quarter_of_byte : ℕ → ℕ → ℕ
quarter_of_byte byte which = if which == 0 then byte % 4 else (if which == 1 then byte / 4 % 4 else (if which == 2 then byte / 16 % 4 else byte / 64))

abbrev pub quarter_of : List ℕ → ℕ → ℕ
quarter_of bytes index = quarter_of_byte (slice_index bytes (1 + index / 4)) (index % 4)

abbrev pub settings_of : List ℕ → ℕ → LaneSettings
settings_of bytes lane = record {
  adaptive = bit_at (slice_index bytes 0) (lane - 1);
  recall = quarter_of bytes (lane - 1);
  fixed_input = half_of bytes 3 (lane - 1);
  recover_tx = bit_at (slice_index bytes 7) (lane - 1);
  recover_rx = bit_at (slice_index bytes 8) (lane - 1);
  pre_cursor = half_of bytes 9 (lane - 1);
  post_cursor = half_of bytes 13 (lane - 1);
  amplitude = half_of bytes 17 (lane - 1);
}

-- those of the lane are the same in both
abbrev pub AreActive : List ℕ → List ℕ → ℕ → Type 0
AreActive bytes active lane = settings_of bytes lane ≡ settings_of active lane

-- what a lane is to have
abbrev pub target_of : SignalTargets → ℕ → LaneSettings
target_of targets lane = record {
  adaptive = bit_at targets.adaptive (lane - 1);
  recall = slice_index targets.recall (lane - 1);
  fixed_input = slice_index targets.fixed_input (lane - 1);
  recover_tx = bit_at targets.recover_tx (lane - 1);
  recover_rx = bit_at targets.recover_rx (lane - 1);
  pre_cursor = slice_index targets.pre_cursor (lane - 1);
  post_cursor = slice_index targets.post_cursor (lane - 1);
  amplitude = slice_index targets.amplitude (lane - 1);
}

-- both bytes of what a module can do
pub record AreBytes (limits : SignalLimits) : Type 0 where
  pub first : limits.amplitudes_and_input < 256
  pub second : limits.cursors < 256
