use Rattle.std.proofs.Common.{◌≡◌, length}
use Rattle.paged_memory.specs.Windows.{bytes_from}
use Rattle.paged_memory.proofs.window.bytes_from.Given as goal

-- the bytes so far
abbrev pub invariant-loop-index : goal.invariant-loop-index
invariant-loop-index l = record {
  items : l.bytes.items ≡ bytes_from l.selecting l.selection l.address l.index l.half;
  len : length l.bytes.items ≡ l.index;
}
