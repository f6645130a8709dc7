-- How many pages the lanes of a bank are read from.
use Rattle.std.proofs.Common.{◌≤◌, ◌+◌, ℕ, Bool, true, false, List, cond, subst, sym, arith}
use Rattle.std.specs.FinMap as map
use Rattle.paged_memory.specs.declared.key.Key.{Key}
use Rattle.paged_memory.specs.Images.{Memory}
use Rattle.paged_memory.proofs.KeyLaws.{keys_total}

one_more : (has : Bool) (count : ℕ) → cond has count (count + 1) ≤ count + 1
one_more true count = omega arith
one_more false count = omega arith

pub insert_few : (memory : Memory) (key : Key) (bytes : List ℕ) → map.len (map.insert memory key bytes) ≤ map.len memory + 1
insert_few memory key bytes =
    subst (λ (count : ℕ). count ≤ map.len memory + 1) (sym (map.len-insert keys_total memory key bytes)) (one_more (map.contains_key memory key) (map.len memory))
