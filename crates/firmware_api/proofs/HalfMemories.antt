-- The memory of halves, one half after another from the last.
use Rattle.std.proofs.Common.{◌≡◌, ℕ, suc, ◌+◌, ◌-◌, ◌≤◌, ◌<◌, Bool, true, false, List, [], ◌∷◌, length, drop, get_or, ap, subst, arith, cond}
use Rattle.std.specs.FinMap as finmap
use Rattle.std.proofs.lemmas.List.{length-drop}
use Rattle.std.proofs.Math.Seq.{drop-cons, drop-length}
use Rattle.paged_memory.specs.KeyOrder.{key_cmp}
use Rattle.paged_memory.specs.Images.{Memory}
use Rattle.paged_memory.specs.declared.key.Key.{Key}
use Rattle.paged_memory.proofs.KeyLaws.{keys_total}
use Rattle.firmware_api.specs.declared.half.HalfBytes.{HalfBytes}
use Rattle.firmware_api.specs.Halves.{key_of, memory_of}

-- the half before this place is put last
pub memory_with : (halves : List HalfBytes) (place : ℕ) (d : HalfBytes) → 0 < place → place ≤ length halves →
    memory_of (drop (place - 1) halves) ≡ finmap.insert (memory_of (drop place halves)) (key_of (get_or halves (place - 1) d)) (get_or halves (place - 1) d).bytes
unfolding memory_of
memory_with halves place d some within =
    let after : suc (place - 1) ≡ place = omega (arith, some) in
    let more = drop-cons halves (place - 1) d (omega (arith, some, within)) in
    subst (λ (n : ℕ). memory_of (drop (place - 1) halves) ≡ finmap.insert (memory_of (drop n halves)) (key_of (get_or halves (place - 1) d)) (get_or halves (place - 1) d).bytes)
    after (ap memory_of more)

at_most : (known : Bool) (n k : ℕ) → n ≤ k → cond known n (n + 1) ≤ suc k
at_most true n k few = omega (arith, few)
at_most false n k few = omega (arith, few)

pub memory_has_few : (halves : List HalfBytes) → finmap.len (memory_of halves) ≤ length halves
unfolding memory_of
memory_has_few [] = rw (finmap.len-empty key_cmp (List ℕ)) (omega arith)
memory_has_few (half ∷ halves) =
    let memory : Memory = memory_of halves in
    rw (finmap.len-insert keys_total memory (key_of half) half.bytes) (at_most (finmap.contains_key memory (key_of half)) (finmap.len memory) (length halves) (memory_has_few halves))

pub no_halves : (halves : List HalfBytes) → memory_of (drop (length halves) halves) ≡ finmap.empty
unfolding memory_of
no_halves halves = ap memory_of (drop-length halves)

-- there is room for one half more
pub has_room : (halves : List HalfBytes) (place room : ℕ) → 0 < place → place ≤ length halves → length halves ≤ room → finmap.len (memory_of (drop place halves)) < room
has_room halves place room some within few =
    let most = memory_has_few (drop place halves) in
    omega (arith, some, within, few, most, length-drop place halves)

pub same_insert : {memory other : Memory} {key other_key : Key} {page other_page : List ℕ} → memory ≡ other → key ≡ other_key → page ≡ other_page →
    finmap.insert memory key page ≡ finmap.insert other other_key other_page
same_insert memories keys pages = λ i. finmap.insert (memories i) (keys i) (pages i)
