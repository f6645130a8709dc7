-- A byte of which only some bits are changed. (docs/lanes.md; this project's own)
use Rattle.std.specs.Prelude.{◌≡◌, ℕ, ◌-◌, ◌<◌, ◌==◌, if◌then◌else◌}
use Rattle.std.specs.Int.{bit_at}
use Rattle.std.specs.Int.RustNames.{bit_or}
use Rattle.std.specs.Int.RustNames.{bit_and}

-- the bits of the mask are taken from others
unfoldable pub merged : ℕ → ℕ → ℕ → ℕ
merged mask bits byte = bit_or (bit_and byte (255 - mask)) (bit_and bits mask)

-- bit by bit
abbrev pub TakesBitsOfMask : ℕ → ℕ → ℕ → ℕ → Type 0
TakesBitsOfMask mask bits byte stored = (i : ℕ) → i < 8 → bit_at stored i ≡ (if bit_at mask i == 1 then bit_at bits i else bit_at byte i)
