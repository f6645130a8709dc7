-- What changes make of the 128 bytes of a half. An address is that of the module (0 to 255). (This project's own.)
use Rattle.std.specs.Prelude.{ℕ, ◌+◌, List, [], ◌∷◌, Option, Some, None, replicate, slice_set, unwrap_or}
use Rattle.std.specs.FinMap as map
use Rattle.paged_memory.specs.declared.key.Key.{Key}
use Rattle.paged_memory.specs.Images.{Memory, place_in_half}

-- the half under a key, or zeros
abbrev pub half_of : Memory → Key → List ℕ
half_of memory key = unwrap_or (map.get memory key) (replicate 128 0)

-- with these bytes at their addresses, one after another
abbrev pub changed : List ℕ → List (ℕ × ℕ) → List ℕ
changed half [] = half
changed half ((address, byte) ∷ changes) = changed (slice_set half (place_in_half address) byte) changes

-- with these bytes from a place on
abbrev pub run_over : List ℕ → ℕ → List ℕ → List ℕ
run_over half place [] = half
run_over half place (byte ∷ bytes) = run_over (slice_set half place byte) (place + 1) bytes

-- with the half that another memory has under a key, if any
abbrev pub with_half : Memory → Key → Option (List ℕ) → Memory
with_half halves key None = halves
with_half halves key (Some half) = map.insert halves key half

-- with the halves of a memory under these keys
abbrev pub gathered : Memory → Memory → List Key → Memory
gathered memory halves [] = halves
gathered memory halves (key ∷ keys) = gathered memory (with_half halves key (map.get memory key)) keys
