use Rattle.std.proofs.Common.{◌≡◌, ◌++◌, ℕ, List, take, drop}
use Rattle.std.specs.FinMap.{find}
use Rattle.std.specs.FinMap.Entries.{put}
use Rattle.paged_memory.specs.KeyOrder.{key_cmp}
use Rattle.paged_memory.proofs.entries.place_of.Given as goal

-- the key is above those that were passed
abbrev pub invariant-loop-place : goal.invariant-loop-place
invariant-loop-place l = record {
  found : find key_cmp l.key (drop l.place l.entries) ≡ find key_cmp l.key l.entries;
  placed : (page : List ℕ) → take l.place l.entries ++ put key_cmp l.key page (drop l.place l.entries) ≡ put key_cmp l.key page l.entries;
}
