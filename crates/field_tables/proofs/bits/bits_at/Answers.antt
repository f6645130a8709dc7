use Rattle.std.proofs.Common.{◌≡◌, ◌<◌, ◌≤◌, ℕ, ◌*◌, ◌-◌, ◌/◌, ◌%◌, ◌^◌, sym, ap, ◌∙◌, bit_and, one-mul, arith}
use Rattle.std.proofs.Math.Nat.{mod-eq_of_lt}
use Rattle.std.proofs.Math.Pow.{pow-lt}
use Rattle.std.proofs.lemmas.Nat.{and_mask}
use Rattle.field_tables.specs.Halves.{byte_in}
use Rattle.field_tables.proofs.PlaceNumbers.{number-bits_up}
use Rattle.field_tables.proofs.bits.bits_at.Goals as goal

masked : (x count : ℕ) → count ≤ 8 → bit_and x (1 * 2 ^ count % 65536 - 1) ≡ x % 2 ^ count
masked x count fits =
    let few : count < 16 = omega arith in
    let room : 2 ^ count < 65536 = pow-lt few in
    ap (λ (n : ℕ). bit_and x (n % 65536 - 1)) (one-mul (2 ^ count))
    ∙ ap (λ (n : ℕ). bit_and x (n - 1)) (mod-eq_of_lt room)
    ∙ and_mask x count

pub returns : goal.returns
returns c =
    let fits : c.args.count ≤ 8 = omega arith in
    let shown : c.from.result ≡ byte_in c.args.bytes.now c.args.address = cc in
    masked (c.from.result / 2 ^ c.args.low) c.args.count fits
    ∙ ap (λ (n : ℕ). n / 2 ^ c.args.low % 2 ^ c.args.count) shown
    ∙ sym (number-bits_up (byte_in c.args.bytes.now) c.args.address c.args.low c.args.count)
