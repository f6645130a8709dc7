use Rattle.std.proofs.Common.{◌≡◌, drop}
use Rattle.control_sets.specs.ControlBytes.{control_byte}
use Rattle.control_sets.proofs.plan_bytes.control_byte.Given as goal

-- no path so far takes the lane
abbrev pub invariant-loop-path : goal.invariant-loop-path
invariant-loop-path l = control_byte l.advert l.plan l.lane ≡ control_byte l.advert (drop l.path-index l.path-items) l.lane
