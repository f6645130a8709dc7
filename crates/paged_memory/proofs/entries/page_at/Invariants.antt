use Rattle.std.proofs.Common.{◌≡◌, drop}
use Rattle.std.specs.FinMap.{find}
use Rattle.paged_memory.specs.KeyOrder.{key_cmp}
use Rattle.paged_memory.proofs.entries.page_at.Given as goal

-- no entry that was passed has the key
abbrev pub invariant-loop-place : goal.invariant-loop-place
invariant-loop-place l = find key_cmp l.key (drop l.place l.entries) ≡ find key_cmp l.key l.entries
