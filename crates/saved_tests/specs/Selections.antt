-- Results by codes: those that select them, and one more where a code selects two of them. (docs/lanes.md; OIF-CMIS-05.0, Module
-- Performance Diagnostics Results, page 14h, byte 128)
use Rattle.std.specs.Prelude.{ℕ, ◌-◌, ◌%◌, ◌==◌, ◌&&◌, ◌||◌, nat_le, nat_lt, Bool, if◌then◌else◌}
use Rattle.lane_controls.specs.declared.result_set.LaneQuad.{LaneQuad}
use Rattle.lane_controls.specs.declared.result_set.LaneQuad.TheVariants.{Lower, Upper}
use Rattle.lane_controls.specs.declared.result_set.ResultSet.{ResultSet}
use Rattle.lane_controls.specs.declared.result_set.ResultSet.TheVariants.{ErrorRatio, Counters, SignalToNoise, GatedErrorRatio, GatedCounters}
use Rattle.lane_controls.specs.declared.result_set.Side.{Side}
use Rattle.lane_controls.specs.declared.result_set.Side.TheVariants.{Host, Media}
use Rattle.lane_controls.specs.ResultSets.{code_of}

abbrev pub is_selection : ℕ → Bool
is_selection code = (nat_le 1 code && nat_le code 7) || (nat_le 17 code && nat_le code 21)

-- 7 for signal to noise of media lanes, which shows with that of host lanes
abbrev pub code_for : ResultSet → ℕ
code_for ErrorRatio = code_of ErrorRatio
code_for (Counters side quad) = code_of (Counters side quad)
code_for (SignalToNoise Host) = 6
code_for (SignalToNoise Media) = 7
code_for GatedErrorRatio = code_of GatedErrorRatio
code_for (GatedCounters side quad) = code_of (GatedCounters side quad)

abbrev pub side_in : ℕ → Side
side_in counters = if nat_lt counters 4 then Host else Media

abbrev pub quad_in : ℕ → LaneQuad
quad_in counters = if counters % 2 == 0 then Lower else Upper

abbrev pub results_in : ℕ → ResultSet
results_in code =
    if code == 1 then ErrorRatio
    else (if nat_le 2 code && nat_le code 5 then Counters (side_in code) (quad_in code)
    else (if code == 6 then SignalToNoise Host
    else (if code == 7 then SignalToNoise Media
    else (if code == 17 then GatedErrorRatio
    else GatedCounters (side_in (code - 16)) (quad_in (code - 16))))))
