-- What holds of each of the eight lanes.
use Rattle.std.proofs.Common.{ℕ, zero, suc, arith}
use Rattle.field_tables.specs.LaneSets.{IsLane}

-- of eight lanes, each
pub each_of_eight : (P : ℕ → Type 0) → P 1 → P 2 → P 3 → P 4 → P 5 → P 6 → P 7 → P 8 → (lane : ℕ) → IsLane lane → P lane
each_of_eight P a b c d e f g h zero within = absurd (omega (arith, within.0))
each_of_eight P a b c d e f g h (suc zero) within = a
each_of_eight P a b c d e f g h (suc (suc zero)) within = b
each_of_eight P a b c d e f g h (suc (suc (suc zero))) within = c
each_of_eight P a b c d e f g h (suc (suc (suc (suc zero)))) within = d
each_of_eight P a b c d e f g h (suc (suc (suc (suc (suc zero))))) within = e
each_of_eight P a b c d e f g h (suc (suc (suc (suc (suc (suc zero)))))) within = f
each_of_eight P a b c d e f g h (suc (suc (suc (suc (suc (suc (suc zero))))))) within = g
each_of_eight P a b c d e f g h (suc (suc (suc (suc (suc (suc (suc (suc zero)))))))) within = h
each_of_eight P a b c d e f g h (suc (suc (suc (suc (suc (suc (suc (suc (suc n))))))))) within = absurd (omega (arith, within.1))
