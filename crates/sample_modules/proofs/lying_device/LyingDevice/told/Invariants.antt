use Rattle.std.proofs.Common.{◌≡◌, length}
use Rattle.sample_modules.specs.Lies.{told}
use Rattle.sample_modules.proofs.lying_device.LyingDevice.told.Given as goal

-- the bytes so far
abbrev pub invariant-loop-place : goal.invariant-loop-place
invariant-loop-place l = record {
  items : l.bytes.items ≡ told l.self l.address l.place;
  len : length l.bytes.items ≡ l.place;
}
