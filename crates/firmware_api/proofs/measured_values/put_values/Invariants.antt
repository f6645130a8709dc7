use Rattle.std.proofs.Common.{◌≡◌, ℕ, ◌+◌, ◌<◌, pos, get_or, length}
use Rattle.firmware_api.specs.MeasuredValues.{value_at}
use Rattle.firmware_api.proofs.measured_values.put_values.Given as goal

-- the values so far are those of their lanes
abbrev pub invariant-loop-before : goal.invariant-loop-before
invariant-loop-before l = record {
  len : length l.values ≡ 8;
  each : (k : ℕ) → k < l.before → get_or l.values k (pos 0) ≡ value_at l.image l.field l.power (k + 1);
}
