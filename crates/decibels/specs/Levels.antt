-- The level of a power, in hundredths of a decibel above a tenth of a microwatt. (SFF-8472, "Internal Calibration": the unit in which
-- all modules measure optical power; the level is this project's own, rounded down)
use Rattle.std.specs.Prelude.{ℕ, zero, suc, ◌^◌, ◌≤◌, ◌==◌, nat_le, Bool, if◌then◌else◌, Option, None, Some}

-- Ten decibels are a factor of ten, so h hundredths of a decibel are a factor whose thousandth power is 10 ^ h.
abbrev pub Reaches : ℕ → ℕ → Type 0
Reaches power hundredths = 10 ^ hundredths ≤ power ^ 1000

-- the greatest number of hundredths that the power reaches
abbrev pub IsLevel : ℕ → ℕ → Type 0
IsLevel power level = Reaches power level × ((other : ℕ) → Reaches power other → other ≤ level)

-- the greatest number up to a bound that passes a test; 0 if none does
unfoldable pub greatest : (ℕ → Bool) → ℕ → ℕ
greatest test zero = 0
greatest test (suc n) = if test (suc n) then suc n else greatest test n

-- the level of a power of 16 bits, none of which reaches more than 5000 hundredths; no power has none
unfoldable pub level_of : ℕ → Option ℕ
level_of power = if power == 0 then None else Some (greatest (λ (hundredths : ℕ). nat_le (10 ^ hundredths) (power ^ 1000)) 5000)
