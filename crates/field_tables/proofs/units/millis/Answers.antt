use Rattle.std.proofs.Common.{◌≡◌, pos, negsuc, ◌*ℤ◌, ℤ, w64, to_z, of_z, subst, sym, ap, arith, ◌∙◌}
use Rattle.std.proofs.lemmas.Int.{ints}
use Rattle.field_tables.specs.Units.{IsFloor, floor_div}
use Rattle.field_tables.proofs.units.millis.Goals as goal

floor_div-floor : (z : ℤ) → IsFloor (floor_div z 256) z 256
floor_div-floor (pos a) = (omega (arith, ints), omega (arith, ints))
floor_div-floor (negsuc a) = (omega (arith, ints), omega (arith, ints))

pub returns-in-Temperature-clause-down : goal.returns-in-Temperature-clause-down
returns-in-Temperature-clause-down c unit =
    let z = c.args.value *ℤ pos 1000 in
    let whole : to_z w64 (of_z w64 (to_z w64 (of_z w64 c.args.value) *ℤ pos 1000)) ≡ z = omega (arith, ints) in
    let shown : to_z w64 (of_z w64 c.div_euclid.result) ≡ c.div_euclid.result = omega (arith, ints) in
    let kept : floor_div z 256 ≡ to_z w64 (of_z w64 c.div_euclid.result) = ap (λ (x : ℤ). floor_div x 256) (sym whole) ∙ sym c.div_euclid.ensures ∙ sym shown in
    subst (λ (q : ℤ). IsFloor q z 256) kept (floor_div-floor z)
