-- What is staged for targets that a module can do has them for each lane.
use Rattle.std.proofs.Common.{◌≡◌, ℕ, zero, suc, ◌+◌, ◌-◌, ◌*◌, ◌/◌, ◌%◌, ◌<◌, ◌≤◌, ◌==◌, Bool, true, false, if◌then◌else◌, nat_le, List, [], ◌∷◌, Result, Ok, Err, slice_index, arith, refl, sym, ap, ◌∙◌}
use Rattle.std.proofs.lemmas.Bool.{and_parts, leb-true}
use Rattle.std.specs.List.{list_all}
use Rattle.std.specs.Int.{bit_at}
use Rattle.lane_controls.specs.declared.signal_settings.SettingFault.{SettingFault}
use Rattle.lane_controls.specs.declared.signal_settings.SettingFault.TheVariants.{Recall, FixedInput, PreCursor, PostCursor, Amplitude}
use Rattle.lane_controls.specs.declared.signal_settings.SignalLimits.{SignalLimits}
use Rattle.lane_controls.specs.declared.signal_settings.SignalTargets.{SignalTargets}
use Rattle.lane_controls.specs.SignalSettings.{AreBytes, are_within, bytes_of, half_of, halves, is_amplitude, quarter_of, quarters, settings_of, staged, target_of}

all_below : (values : List ℕ) (most : ℕ) → list_all (λ value. nat_le value most) values ≡ true → (k : ℕ) → slice_index values k ≤ most
all_below [] most e k = omega arith
all_below (value ∷ more) most e zero = leb-true value most (and_parts (nat_le value most) (list_all (λ v. nat_le v most) more) e).0
all_below (value ∷ more) most e (suc k) = all_below more most (and_parts (nat_le value most) (list_all (λ v. nat_le v most) more) e).1 k

low_half : (v w byte : ℕ) → byte ≡ v % 16 + w % 16 * 16 → v ≤ 15 → byte % 16 ≡ v
low_half v w byte is fits = omega (arith, is, fits)

high_half : (v w byte : ℕ) → byte ≡ v % 16 + w % 16 * 16 → w ≤ 15 → byte / 16 ≡ w
high_half v w byte is fits = omega (arith, is, fits)

all_amplitudes : (supported : ℕ) (values : List ℕ) → list_all (is_amplitude supported) values ≡ true → (k : ℕ) → slice_index values k ≤ 3
all_amplitudes supported [] e k = omega arith
all_amplitudes supported (value ∷ more) e zero =
    let parts = and_parts (is_amplitude supported value) (list_all (is_amplitude supported) more) e in
    leb-true value 3 (and_parts (nat_le value 3) (bit_at supported (value + 4) == 1) parts.0).0
all_amplitudes supported (value ∷ more) e (suc k) = all_amplitudes supported more (and_parts (is_amplitude supported value) (list_all (is_amplitude supported) more) e).1 k

module _ (bytes values : List ℕ) (first : ℕ) (b0 : slice_index bytes (first + 0) ≡ halves values 0) (b1 : slice_index bytes (first + 1) ≡ halves values 2)
    (b2 : slice_index bytes (first + 2) ≡ halves values 4) (b3 : slice_index bytes (first + 3) ≡ halves values 6) (small : (k : ℕ) → slice_index values k ≤ 15) where
  half_back : (i : ℕ) → i < 8 → half_of bytes first i ≡ slice_index values i
  half_back zero below = low_half (slice_index values 0) (slice_index values 1) (slice_index bytes (first + 0)) b0 (small 0)
  half_back (suc zero) below = high_half (slice_index values 0) (slice_index values 1) (slice_index bytes (first + 0)) b0 (small 1)
  half_back (suc (suc zero)) below = low_half (slice_index values 2) (slice_index values 3) (slice_index bytes (first + 1)) b1 (small 2)
  half_back (suc (suc (suc zero))) below = high_half (slice_index values 2) (slice_index values 3) (slice_index bytes (first + 1)) b1 (small 3)
  half_back (suc (suc (suc (suc zero)))) below = low_half (slice_index values 4) (slice_index values 5) (slice_index bytes (first + 2)) b2 (small 4)
  half_back (suc (suc (suc (suc (suc zero))))) below = high_half (slice_index values 4) (slice_index values 5) (slice_index bytes (first + 2)) b2 (small 5)
  half_back (suc (suc (suc (suc (suc (suc zero)))))) below = low_half (slice_index values 6) (slice_index values 7) (slice_index bytes (first + 3)) b3 (small 6)
  half_back (suc (suc (suc (suc (suc (suc (suc zero))))))) below = high_half (slice_index values 6) (slice_index values 7) (slice_index bytes (first + 3)) b3 (small 7)
  half_back (suc (suc (suc (suc (suc (suc (suc (suc n)))))))) below = absurd (omega (arith, below))

module _ (a b c d byte : ℕ) (is : byte ≡ a % 4 + b % 4 * 4 + c % 4 * 16 + d % 4 * 64) where
  first_quarter : a ≤ 3 → byte % 4 ≡ a
  first_quarter fits = omega (arith, is, fits)

  second_quarter : b ≤ 3 → byte / 4 % 4 ≡ b
  second_quarter fits = omega (arith, is, fits)

  third_quarter : c ≤ 3 → byte / 16 % 4 ≡ c
  third_quarter fits = omega (arith, is, fits)

  fourth_quarter : d ≤ 3 → byte / 64 ≡ d
  fourth_quarter fits = omega (arith, is, fits)

module _ (bytes values : List ℕ) (b1 : slice_index bytes 1 ≡ quarters values 0) (b2 : slice_index bytes 2 ≡ quarters values 4) (small : (k : ℕ) → slice_index values k ≤ 3) where
  quarter_back : (i : ℕ) → i < 8 → quarter_of bytes i ≡ slice_index values i
  quarter_back zero below = first_quarter (slice_index values 0) (slice_index values 1) (slice_index values 2) (slice_index values 3) (slice_index bytes 1) b1 (small 0)
  quarter_back (suc zero) below = second_quarter (slice_index values 0) (slice_index values 1) (slice_index values 2) (slice_index values 3) (slice_index bytes 1) b1 (small 1)
  quarter_back (suc (suc zero)) below = third_quarter (slice_index values 0) (slice_index values 1) (slice_index values 2) (slice_index values 3) (slice_index bytes 1) b1 (small 2)
  quarter_back (suc (suc (suc zero))) below = fourth_quarter (slice_index values 0) (slice_index values 1) (slice_index values 2) (slice_index values 3) (slice_index bytes 1) b1 (small 3)
  quarter_back (suc (suc (suc (suc zero)))) below = first_quarter (slice_index values 4) (slice_index values 5) (slice_index values 6) (slice_index values 7) (slice_index bytes 2) b2 (small 4)
  quarter_back (suc (suc (suc (suc (suc zero))))) below = second_quarter (slice_index values 4) (slice_index values 5) (slice_index values 6) (slice_index values 7) (slice_index bytes 2) b2 (small 5)
  quarter_back (suc (suc (suc (suc (suc (suc zero)))))) below = third_quarter (slice_index values 4) (slice_index values 5) (slice_index values 6) (slice_index values 7) (slice_index bytes 2) b2 (small 6)
  quarter_back (suc (suc (suc (suc (suc (suc (suc zero))))))) below = fourth_quarter (slice_index values 4) (slice_index values 5) (slice_index values 6) (slice_index values 7) (slice_index bytes 2) b2 (small 7)
  quarter_back (suc (suc (suc (suc (suc (suc (suc (suc n)))))))) below = absurd (omega (arith, below))

-- all that a module can't do was ruled out
record Passes (a b c d e : Bool) (whole bytes : List ℕ) : Type 0 where
  a_is : a ≡ true
  b_is : b ≡ true
  c_is : c ≡ true
  d_is : d ≡ true
  e_is : e ≡ true
  same : whole ≡ bytes

tested : Bool → Bool → Bool → Bool → Bool → List ℕ → Result (List ℕ) SettingFault
tested a b c d e whole = if a then (if b then (if c then (if d then (if e then Ok whole else Err Amplitude) else Err PostCursor) else Err PreCursor) else Err FixedInput) else Err Recall

passes : (a b c d e : Bool) (whole bytes : List ℕ) → tested a b c d e whole ≡ Ok bytes → Passes a b c d e whole bytes
unfolding tested
passes true true true true true whole bytes is = record { a_is = refl; b_is = refl; c_is = refl; d_is = refl; e_is = refl; same = cc }
passes true true true true false whole bytes is = absurd cc
passes true true true false e whole bytes is = absurd cc
passes true true false d e whole bytes is = absurd cc
passes true false c d e whole bytes is = absurd cc
passes false b c d e whole bytes is = absurd cc

staged_is : (targets : SignalTargets) (limits : SignalLimits) (bytes : List ℕ) → staged targets limits ≡ Ok bytes
    → Passes (are_within targets.recall 3) (are_within targets.fixed_input (limits.amplitudes_and_input % 16)) (are_within targets.pre_cursor (limits.cursors % 16))
    (are_within targets.post_cursor (limits.cursors / 16)) (list_all (is_amplitude limits.amplitudes_and_input) targets.amplitude) (bytes_of targets) bytes
unfolding tested
staged_is targets limits bytes is = passes (are_within targets.recall 3) (are_within targets.fixed_input (limits.amplitudes_and_input % 16)) (are_within targets.pre_cursor (limits.cursors % 16))
    (are_within targets.post_cursor (limits.cursors / 16)) (list_all (is_amplitude limits.amplitudes_and_input) targets.amplitude) (bytes_of targets) bytes is

up_to : (values : List ℕ) (most : ℕ) → are_within values most ≡ true → most ≤ 15 → (k : ℕ) → slice_index values k ≤ 15
up_to values most e few k = let at_most : slice_index values k ≤ most = all_below values most e k in omega (arith, at_most, few)

pub staged_shows : (targets : SignalTargets) (limits : SignalLimits) (bytes : List ℕ) → AreBytes limits → staged targets limits ≡ Ok bytes
    → (lane : ℕ) → 1 ≤ lane → lane ≤ 8 → settings_of bytes lane ≡ target_of targets lane
staged_shows targets limits bytes fit is lane from to = ap (λ (b : List ℕ). settings_of b lane) (sym p.same) ∙ whole
  where
    p : Passes (are_within targets.recall 3) (are_within targets.fixed_input (limits.amplitudes_and_input % 16)) (are_within targets.pre_cursor (limits.cursors % 16))
        (are_within targets.post_cursor (limits.cursors / 16)) (list_all (is_amplitude limits.amplitudes_and_input) targets.amplitude) (bytes_of targets) bytes
    p = staged_is targets limits bytes is

    below : lane - 1 < 8
    below = omega (arith, to)

    post_most : limits.cursors / 16 ≤ 15
    post_most = let fits : limits.cursors < 256 = fit.second in omega (arith, fits)

    amplitude_small : (k : ℕ) → slice_index targets.amplitude k ≤ 15
    amplitude_small k = let few : slice_index targets.amplitude k ≤ 3 = all_amplitudes limits.amplitudes_and_input targets.amplitude p.e_is k in omega (arith, few)

    recall : quarter_of (bytes_of targets) (lane - 1) ≡ slice_index targets.recall (lane - 1)
    recall = quarter_back (bytes_of targets) targets.recall refl refl (all_below targets.recall 3 p.a_is) (lane - 1) below

    fixed_input : half_of (bytes_of targets) 3 (lane - 1) ≡ slice_index targets.fixed_input (lane - 1)
    fixed_input = half_back (bytes_of targets) targets.fixed_input 3 refl refl refl refl (up_to targets.fixed_input (limits.amplitudes_and_input % 16) p.b_is (omega arith)) (lane - 1) below

    pre_cursor : half_of (bytes_of targets) 9 (lane - 1) ≡ slice_index targets.pre_cursor (lane - 1)
    pre_cursor = half_back (bytes_of targets) targets.pre_cursor 9 refl refl refl refl (up_to targets.pre_cursor (limits.cursors % 16) p.c_is (omega arith)) (lane - 1) below

    post_cursor : half_of (bytes_of targets) 13 (lane - 1) ≡ slice_index targets.post_cursor (lane - 1)
    post_cursor = half_back (bytes_of targets) targets.post_cursor 13 refl refl refl refl (up_to targets.post_cursor (limits.cursors / 16) p.d_is post_most) (lane - 1) below

    amplitude : half_of (bytes_of targets) 17 (lane - 1) ≡ slice_index targets.amplitude (lane - 1)
    amplitude = half_back (bytes_of targets) targets.amplitude 17 refl refl refl refl amplitude_small (lane - 1) below

    whole : settings_of (bytes_of targets) lane ≡ target_of targets lane
    whole = λ i. record {
      adaptive = bit_at targets.adaptive (lane - 1);
      recall = recall i;
      fixed_input = fixed_input i;
      recover_tx = bit_at targets.recover_tx (lane - 1);
      recover_rx = bit_at targets.recover_rx (lane - 1);
      pre_cursor = pre_cursor i;
      post_cursor = post_cursor i;
      amplitude = amplitude i;
    }
