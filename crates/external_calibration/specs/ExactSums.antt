-- The number that an exact sum is. (This project's own)
use Rattle.std.specs.Prelude.{ℕ, ◌^◌, ◌*◌, ◌≤◌, ℤ, pos, ◌+ℤ◌, ◌*ℤ◌, ◌≤ℤ◌, ◌<ℤ◌, unsigned_abs}
use Rattle.external_calibration.specs.declared.exact_sum.ExactSum.{ExactSum}

-- in parts of 2^-149
abbrev pub value_of : ExactSum → ℤ
value_of sum = sum.high *ℤ pos (2 ^ 96) +ℤ sum.low

-- as small as the sum of so many products
pub record IsSmall (products : ℕ) (sum : ExactSum) : Type 0 where
  pub high : unsigned_abs sum.high ≤ products * 2 ^ 102
  pub low : pos 0 ≤ℤ sum.low
  pub below : sum.low <ℤ pos (products * 2 ^ 96)
