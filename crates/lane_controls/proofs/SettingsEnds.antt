-- What is said of the lowest lane that isn't as it has to be holds of each lane.
use Rattle.std.proofs.Common.{◌≡◌, ◌⊎◌, ℕ, zero, suc, ◌-◌, ◌≤◌, ◌&&◌, ◌||◌, ◌==◌, not, Bool, true, false, nat_eq, List, Some, None, slice_get, arith, refl, sym, ap, ◌∙◌, inl, inr}
use Rattle.std.specs.FinSet as set
use Rattle.std.specs.List.{range_with_len}
use Rattle.std.proofs.lemmas.Bool.{and_parts, eqb-true}
use Rattle.field_tables.specs.LaneSets.{Lanes}
use Rattle.paged_memory.specs.PageAddressing.{History}
use Rattle.lane_controls.specs.declared.settings_change.SettingsChange.{SettingsChange}
use Rattle.lane_controls.specs.declared.signal_settings.LaneSettings.{LaneSettings}
use Rattle.lane_controls.specs.SettingsChanges.{has_input, has_output, has_settings, is_up_in, lowest}
use Rattle.lane_controls.specs.SettingsSteps.{AreActive, AreUp, bytes_read}
use Rattle.lane_controls.specs.SignalSettings.{half_of, settings_of}
use Rattle.lane_controls.proofs.TestPlanLaws.{none_passes, not_not}

at_place : (lane : ℕ) → 1 ≤ lane → lane ≤ 8 → slice_get (range_with_len 1 8) (lane - 1) ≡ Some lane
at_place zero from to = absurd (omega (arith, from))
at_place (suc zero) from to = refl
at_place (suc (suc zero)) from to = refl
at_place (suc (suc (suc zero))) from to = refl
at_place (suc (suc (suc (suc zero)))) from to = refl
at_place (suc (suc (suc (suc (suc zero))))) from to = refl
at_place (suc (suc (suc (suc (suc (suc zero)))))) from to = refl
at_place (suc (suc (suc (suc (suc (suc (suc zero))))))) from to = refl
at_place (suc (suc (suc (suc (suc (suc (suc (suc zero)))))))) from to = refl
at_place (suc (suc (suc (suc (suc (suc (suc (suc (suc n))))))))) from to = absurd (omega (arith, to))

right_false : (x y : Bool) → (x && y) ≡ false → x ≡ true → y ≡ false
right_false x y both is = sym (ap (λ (b : Bool). b && y) is) ∙ both

pub none_lowest : (lanes : Lanes) (test : ℕ → Bool) (lane : ℕ) → lowest lanes test ≡ None → 1 ≤ lane → lane ≤ 8 → set.contains lanes lane ≡ true → test lane ≡ false
none_lowest lanes test lane none from to has =
    right_false (set.contains lanes lane) (test lane) (none_passes (λ n. set.contains lanes n && test n) (range_with_len 1 8) (lane - 1) lane none (at_place lane from to)) has

either_code : (state : ℕ) → (state == 4 || state == 7) ≡ true → (state ≡ 4) ⊎ (state ≡ 7)
either_code state is = go (nat_eq state 4) refl is
  where
    go : (b : Bool) → nat_eq state 4 ≡ b → (b || nat_eq state 7) ≡ true → (state ≡ 4) ⊎ (state ≡ 7)
    go true e is = inl (eqb-true state 4 e)
    go false e is = inr (eqb-true state 7 is)

pub each_up : (change : SettingsChange) (history : History) → AreUp change history → (lane : ℕ) → 1 ≤ lane → lane ≤ 8 → set.contains change.lanes lane ≡ true
    → (states : List ℕ) × (bytes_read 128 history ≡ Some states) × ((half_of states 0 (lane - 1) ≡ 4) ⊎ (half_of states 0 (lane - 1) ≡ 7))
each_up change history (states, read, none) lane from to has =
    (states, read, either_code (half_of states 0 (lane - 1)) (not_not (is_up_in states lane) (none_lowest change.lanes (λ n. not (is_up_in states n)) lane none from to has)))

same_settings : (want has : LaneSettings) → (has_input want has && has_output want has) ≡ true → want ≡ has
same_settings want has is =
    let (input, output) = and_parts (has_input want has) (has_output want has) is in
    let (adaptive, input2) = and_parts (want.adaptive == has.adaptive) (want.recall == has.recall && (want.fixed_input == has.fixed_input && want.recover_tx == has.recover_tx)) input in
    let (recall, input3) = and_parts (want.recall == has.recall) (want.fixed_input == has.fixed_input && want.recover_tx == has.recover_tx) input2 in
    let (fixed_input, recover_tx) = and_parts (want.fixed_input == has.fixed_input) (want.recover_tx == has.recover_tx) input3 in
    let (recover_rx, output2) = and_parts (want.recover_rx == has.recover_rx) (want.pre_cursor == has.pre_cursor && (want.post_cursor == has.post_cursor && want.amplitude == has.amplitude)) output in
    let (pre_cursor, output3) = and_parts (want.pre_cursor == has.pre_cursor) (want.post_cursor == has.post_cursor && want.amplitude == has.amplitude) output2 in
    let (post_cursor, amplitude) = and_parts (want.post_cursor == has.post_cursor) (want.amplitude == has.amplitude) output3 in
    λ i. record {
      adaptive = eqb-true want.adaptive has.adaptive adaptive i;
      recall = eqb-true want.recall has.recall recall i;
      fixed_input = eqb-true want.fixed_input has.fixed_input fixed_input i;
      recover_tx = eqb-true want.recover_tx has.recover_tx recover_tx i;
      recover_rx = eqb-true want.recover_rx has.recover_rx recover_rx i;
      pre_cursor = eqb-true want.pre_cursor has.pre_cursor pre_cursor i;
      post_cursor = eqb-true want.post_cursor has.post_cursor post_cursor i;
      amplitude = eqb-true want.amplitude has.amplitude amplitude i;
    }

pub each_active : (change : SettingsChange) (history : History) → AreActive change history → (lane : ℕ) → 1 ≤ lane → lane ≤ 8 → set.contains change.lanes lane ≡ true
    → (active : List ℕ) × (bytes_read 214 history ≡ Some active) × (settings_of change.settings lane ≡ settings_of active lane)
each_active change history (active, read, none) lane from to has = (
  active,
  read,
  same_settings (settings_of change.settings lane) (settings_of active lane)
      (not_not (has_settings change.settings active lane) (none_lowest change.lanes (λ n. not (has_settings change.settings active n)) lane none from to has)),
)
