-- Decimal numbers as texts spell them: digits without leading zeros, which is how std prints a number. (docs/formats.md,
-- "Lines"; this project's own)
use Rattle.std.specs.Prelude.{◌≡◌, ℕ, ◌<◌, ◌⊎◌, List, [], ◌∷◌, slice_index}

-- the digit 0 alone, or a first digit from 1 to 9
abbrev pub BeginsDecimal : List ℕ → Type 0
BeginsDecimal word = (word ≡ 48 ∷ []) ⊎ ((48 < slice_index word 0) × (slice_index word 0 < 58))
