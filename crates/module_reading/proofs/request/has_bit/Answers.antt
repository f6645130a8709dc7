use Rattle.std.proofs.Common.{◌≡◌, ℕ, ◌==◌, ap, sym}
use Rattle.std.specs.Int.{bit_at}
use Rattle.std.proofs.lemmas.Nat.Bits.{bit_at_above}
use Rattle.module_reading.proofs.request.has_bit.Goals as goal

-- a byte has eight bits
pub returns-else-number-lt8 : goal.returns-else-number-lt8
returns-else-number-lt8 c =
    let none : bit_at c.args.byte c.args.number ≡ 0 = bit_at_above c.args.byte 8 c.args.number c.ranges.byte.fits c.if-number-lt8.false in
    sym (ap (λ (n : ℕ). n == 1) none)
