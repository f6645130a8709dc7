-- What a link test has shown of each lane, as numbers. (docs/lanes.md, "Testing a link"; this project's own)
use Rattle.std.specs.Prelude.{ℕ, ◌==◌, ◌&&◌, ◌-ℤ◌, pos, Bool, true, false, List, length, map, if◌then◌else◌}
use Rattle.std.specs.List.{range_with_len}
use Rattle.lane_controls.specs.declared.link_test.LinkTest.{LinkTest}
use Rattle.lane_controls.specs.declared.result_set.LaneQuad.{LaneQuad}
use Rattle.lane_controls.specs.declared.result_set.LaneQuad.TheVariants.{Lower, Upper}
use Rattle.lane_controls.specs.declared.result_set.ResultSet.{ResultSet}
use Rattle.lane_controls.specs.declared.result_set.ResultSet.TheVariants.{ErrorRatio, Counters, SignalToNoise, GatedErrorRatio, GatedCounters}
use Rattle.lane_controls.specs.declared.result_set.Side.{Side}
use Rattle.lane_controls.specs.declared.result_set.Side.TheVariants.{Host, Media}
use Rattle.lane_controls.specs.declared.results.Counts.{Counts}
use Rattle.lane_controls.specs.declared.results.Endian.{Endian}
use Rattle.lane_controls.specs.declared.results.Endian.TheVariants.{Big}
use Rattle.lane_controls.specs.declared.results.LockLosses.{LockLosses}
use Rattle.lane_controls.specs.declared.results.Ratio.{Ratio}
use Rattle.lane_controls.specs.Results.{counts_of, lock_losses, number_at, place_of_noise, place_of_ratio, ratio_of}
use Rattle.lane_controls.specs.ResultSets.{quad_of}
use Rattle.saved_tests.specs.declared.link_results.LinkLane.{LinkLane}
use Rattle.saved_tests.specs.declared.link_results.LinkResults.{LinkResults as Shown}

abbrev pub unknown : LinkLane
unknown = record { errors = 0; bits = 0; mantissa = 0; noise = 0; power = pos 0; known = 0 }

abbrev pub with_ratio : Ratio → LinkLane
with_ratio ratio = record unknown { mantissa = ratio.mantissa; power = pos ratio.exponent -ℤ pos 24; known = 1 }

abbrev pub with_counts : Counts → LinkLane
with_counts counts = record unknown { errors = counts.errors; bits = counts.bits; known = 2 }

abbrev pub with_noise : ℕ → LinkLane
with_noise noise = record unknown { noise = noise; known = 4 }

abbrev pub ratio_in : List ℕ → Side → ℕ → LinkLane
ratio_in bytes side lane = with_ratio (ratio_of (number_at Big 2 (place_of_ratio side lane) bytes))

abbrev pub counts_in : List ℕ → ℕ → Endian → LinkLane
counts_in bytes lane order = with_counts (counts_of order lane bytes)

abbrev pub noise_in : List ℕ → Side → ℕ → Endian → LinkLane
noise_in bytes side lane order = with_noise (number_at order 2 (place_of_noise side lane) bytes)

abbrev pub same_side : Side → Side → Bool
same_side Host Host = true
same_side Host Media = false
same_side Media Host = false
same_side Media Media = true

abbrev pub same_quad : LaneQuad → LaneQuad → Bool
same_quad Lower Lower = true
same_quad Lower Upper = false
same_quad Upper Lower = false
same_quad Upper Upper = true

-- counters are those of four lanes of one side
abbrev pub is_counted : Side → LaneQuad → Side → ℕ → Bool
is_counted of quad side lane = same_quad quad (quad_of lane) && same_side of side

abbrev pub counters_in : List ℕ → Side → LaneQuad → Side → ℕ → Endian → LinkLane
counters_in bytes of quad side lane order = if is_counted of quad side lane then counts_in bytes lane order else unknown

abbrev pub lane_in : List ℕ → ResultSet → Side → ℕ → Endian → LinkLane
lane_in bytes ErrorRatio side lane order = ratio_in bytes side lane
lane_in bytes (Counters of quad) side lane order = counters_in bytes of quad side lane order
lane_in bytes (SignalToNoise of) side lane order = if same_side of side then noise_in bytes side lane order else unknown
lane_in bytes GatedErrorRatio side lane order = ratio_in bytes side lane
lane_in bytes (GatedCounters of quad) side lane order = counters_in bytes of quad side lane order

-- by the results of the plan, once 64 bytes of them were read
abbrev pub lane_of : LinkTest → Side → ℕ → Endian → LinkLane
lane_of test side lane order = if length test.results.items == 64 then lane_in test.results.items test.plan.results side lane order else unknown

abbrev pub lanes_of : LinkTest → Side → Endian → List LinkLane
lanes_of test side order = map (λ lane. lane_of test side lane order) (range_with_len 1 8)

abbrev pub number_of : Bool → ℕ
number_of flag = if flag then 1 else 0

abbrev pub shown_with : List LinkLane → List LinkLane → LockLosses → Shown
shown_with host media lost = record {
  host = host;
  media = media;
  lost_clock = number_of lost.reference_clock;
  host_generator = lost.host_generator;
  media_generator = lost.media_generator;
  host_checker = lost.host_checker;
  media_checker = lost.media_checker;
}

abbrev pub results_of : LinkTest → Endian → Shown
results_of test order = shown_with (lanes_of test Host order) (lanes_of test Media order) (lock_losses test.flags)
