use Rattle.std.proofs.Common.{◌≡◌, ℕ, suc, ◌-◌, ◌^◌, ◌==◌, ◌≤◌, ◌<◌, sym, ap, ◌∙◌, subst, arith, ℤ, pos, negsuc, ◌-ℤ◌, w16, w64, to_z, of_z, inl, inr, if◌then◌else◌}
use Rattle.std.proofs.lemmas.Bool.{cases_lt}
use Rattle.std.proofs.Math.Facts.{to_z-neg}
use Rattle.std.specs.Int.{bit_at}
use Rattle.std.proofs.lemmas.Int.{ints}
use Rattle.field_tables.specs.declared.layout.Sign.TheVariants.{Unsigned, Signed}
use Rattle.field_tables.specs.declared.layout.Sign.{Sign}
use Rattle.field_tables.specs.Halves.{byte_in}
use Rattle.field_tables.specs.RowPlaces.{IsInRange, IsWithin, place_of, width_by}
use Rattle.field_tables.proofs.PlaceWidths.{number-below}
use Rattle.field_tables.specs.Numbers.{number_in, signed_by}
use Rattle.field_tables.proofs.values.value_at.Goals as goal

low : (n : ℕ) → n < 32768 → to_z w16 n ≡ signed_by Signed n
low n below =
    let bit : 0 ≡ bit_at n 15 = omega arith in
    let same : to_z w16 n ≡ pos n = omega (arith, ints) in
    same ∙ ap (λ (b : ℕ). if b == 1 then pos n -ℤ pos 65536 else pos n) bit

high : (n : ℕ) → 32768 ≤ n → n < 65536 → to_z w16 n ≡ signed_by Signed n
high n above fits =
    let bit : 1 ≡ bit_at n 15 = omega arith in
    let k : ℕ = 65535 - n in
    let split : 65536 - suc k ≡ n = omega arith in
    let below : to_z w16 n ≡ negsuc k = ap (to_z w16) (sym split) ∙ to_z-neg w16 k (omega arith) in
    let less : to_z w16 n ≡ pos n -ℤ pos 65536 = omega (arith, ints, below) in
    less ∙ ap (λ (b : ℕ). if b == 1 then pos n -ℤ pos 65536 else pos n) bit

two_s_complement : (n : ℕ) → n < 65536 → to_z w16 n ≡ signed_by Signed n
two_s_complement n fits = elim (cases_lt n 32768) [ inl below ↦ low n below | inr above ↦ high n above fits ]

pub returns-in-Unsigned-clause-value : goal.returns-in-Unsigned-clause-value
returns-in-Unsigned-clause-value c =
    let number = number_in (byte_in c.args.bytes.now) (place_of c.args.row c.args.lane) in
    let kept : to_z w64 (of_z w64 c.from.result) ≡ c.from.result = omega (arith, ints) in
    kept ∙ c.from.ensures ∙ ap pos c.number_at-number.ensures ∙ ap (λ (sign : Sign). signed_by sign number) (sym c.in-Unsigned.is)

pub returns-in-Signed-clause-value : goal.returns-in-Signed-clause-value
returns-in-Signed-clause-value c =
    let number = number_in (byte_in c.args.bytes.now) (place_of c.args.row c.args.lane) in
    let kept : to_z w64 (of_z w64 c.from-in-Signed.result) ≡ to_z w16 c.number_at-number.result = omega (arith, ints, c.from-in-Signed.ensures, c.cast_signed.ensures) in
    kept ∙ two_s_complement c.number_at-number.result (c.number_at-number.type_inv) ∙ ap (signed_by Signed) c.number_at-number.ensures ∙ ap (λ (sign : Sign). signed_by sign number) (sym c.in-Signed.is)

unsigned_within : (n width : ℕ) → n < 2 ^ width → IsWithin Unsigned width (pos n)
unsigned_within n width below = (omega (arith, ints), omega (arith, ints))

signed_within : (n width : ℕ) → n < 65536 → IsWithin Signed width (to_z w16 n)
signed_within n width fits = (omega (arith, ints), omega (arith, ints))

pub returns-in-Unsigned-clause-range : goal.returns-in-Unsigned-clause-range
returns-in-Unsigned-clause-range c =
    let row = c.args.row in
    let number = c.number_at-number.result in
    let width = width_by row.layout row.bits in
    let below : number < 2 ^ width = number-below (byte_in c.args.bytes.now) row c.args.lane number c.number_at-number.ensures in
    let kept : pos number ≡ to_z w64 (of_z w64 c.from.result) = omega (arith, ints, c.from.ensures) in
    subst (λ (v : ℤ). IsInRange row v) kept (subst (λ (sign : Sign). IsWithin sign width (pos number)) (sym c.in-Unsigned.is) (unsigned_within number width below))

pub returns-in-Signed-clause-range : goal.returns-in-Signed-clause-range
returns-in-Signed-clause-range c =
    let row = c.args.row in
    let number = c.number_at-number.result in
    let width = width_by row.layout row.bits in
    let kept : to_z w16 number ≡ to_z w64 (of_z w64 c.from-in-Signed.result) = omega (arith, ints, c.from-in-Signed.ensures, c.cast_signed.ensures) in
    subst (λ (v : ℤ). IsInRange row v) kept (subst (λ (sign : Sign). IsWithin sign width (to_z w16 number)) (sym c.in-Signed.is) (signed_within number width c.number_at-number.type_inv))
