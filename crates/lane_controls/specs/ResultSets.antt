-- The codes that select results on page 14h. (docs/lanes.md; OIF-CMIS-05.0, Module Performance Diagnostics Results, page 14h, byte
-- 128)
use Rattle.std.specs.Prelude.{ℕ, ◌+◌, nat_lt, if◌then◌else◌}
use Rattle.lane_controls.specs.declared.result_set.LaneQuad.{LaneQuad}
use Rattle.lane_controls.specs.declared.result_set.LaneQuad.TheVariants.{Lower, Upper}
use Rattle.lane_controls.specs.declared.result_set.ResultSet.{ResultSet}
use Rattle.lane_controls.specs.declared.result_set.ResultSet.TheVariants.{ErrorRatio, Counters, SignalToNoise, GatedErrorRatio, GatedCounters}
use Rattle.lane_controls.specs.declared.result_set.Side.{Side}
use Rattle.lane_controls.specs.declared.result_set.Side.TheVariants.{Host, Media}

abbrev pub code_of_counters : Side → LaneQuad → ℕ
code_of_counters Host Lower = 2
code_of_counters Host Upper = 3
code_of_counters Media Lower = 4
code_of_counters Media Upper = 5

-- those of the last gate time are 10h above those that run; signal to noise ratios of both sides show at once
abbrev pub code_of : ResultSet → ℕ
code_of ErrorRatio = 1
code_of (Counters side quad) = code_of_counters side quad
code_of (SignalToNoise side) = 6
code_of GatedErrorRatio = 17
code_of (GatedCounters side quad) = 16 + code_of_counters side quad

-- lanes 1 to 4, or 5 to 8
abbrev pub quad_of : ℕ → LaneQuad
quad_of lane = if nat_lt lane 5 then Lower else Upper
