use Rattle.std.proofs.Common.{◌≡◌, length}
use Rattle.simulated_statistics.specs.FreezingModules.{bytes_from}
use Rattle.simulated_statistics.proofs.module.bytes_from.Given as goal

-- the bytes so far
abbrev pub invariant-loop-index : goal.invariant-loop-index
invariant-loop-index l = record {
  items : l.bytes.items ≡ bytes_from l.selecting l.selection l.request l.address l.index l.half;
  len : length l.bytes.items ≡ l.index;
}
