use Rattle.std.proofs.Common.{◌≡◌, drop}
use Rattle.firmware_api.specs.Halves.{memory_of}
use Rattle.firmware_api.proofs.half.put_halves.Given as goal

-- the image has the halves from this place on
abbrev pub invariant-loop-place : goal.invariant-loop-place
invariant-loop-place g l = l.image ≡ memory_of (drop l.place l.halves)
