use Rattle.std.proofs.Common.{◌≡◌, ◌++◌, take}
use Rattle.module_metrics.specs.Exposition.{escaped}
use Rattle.module_metrics.proofs.exposition.push_escaped.Given as goal

-- the bytes so far
abbrev pub invariant-loop-byte : goal.invariant-loop-byte
invariant-loop-byte l = l.text.items ≡ l.initial.text.items ++ escaped (take l.byte-index l.byte-items)
