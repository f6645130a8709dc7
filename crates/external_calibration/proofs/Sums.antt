-- Sums: of numbers, and how large exact ones are.
use Rattle.std.proofs.Common.{◌≡◌, arith}
use Rattle.std.specs.Prelude.{ℕ, ◌≤◌, ℤ, ◌+ℤ◌}
use Rattle.std.proofs.lemmas.Int.{ints}
use Rattle.external_calibration.specs.declared.exact_sum.ExactSum.{ExactSum}
use Rattle.external_calibration.specs.ExactSums.{IsSmall}

-- what is as small as fewer products
pub small_of_fewer : (fewer products : ℕ) (sum : ExactSum) → fewer ≤ products → IsSmall fewer sum → IsSmall products sum
small_of_fewer fewer products sum few some = record {
  high = omega (arith, few, some.high);
  low = some.low;
  below = omega (arith, ints, few, some.below);
}

pub added : (a b c d : ℤ) → a ≡ c → b ≡ d → a +ℤ b ≡ c +ℤ d
added a b c d first second = λ i. first i +ℤ second i
