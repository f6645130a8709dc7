use Rattle.std.proofs.Common.{◌≡◌, ℕ, ◌+◌, ◌<◌, get_or, length}
use Rattle.control_sets.specs.ControlBytes.{control_byte}
use Rattle.control_sets.proofs.plan_bytes.bytes_of.Given as goal

-- the bytes so far are those of the lanes
abbrev pub invariant-loop-index : goal.invariant-loop-index
invariant-loop-index l = record {
  len : length l.byte-items ≡ 8;
  each : (k : ℕ) → k < l.index → get_or l.byte-items k 0 ≡ control_byte l.advert l.plan (k + 1);
}
