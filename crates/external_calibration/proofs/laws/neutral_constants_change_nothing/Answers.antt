use Rattle.std.proofs.Common.{◌≡◌, ◌∙◌, ap, arith}
use Rattle.std.specs.Prelude.{ℕ, ◌^◌, ℤ, pos, ◌*ℤ◌}
use Rattle.std.specs.Int.{int_pow}
use Rattle.std.proofs.Math.IntN.{zero-*ℤ}
use Rattle.std.proofs.lemmas.Int.{ints}
use Rattle.field_tables.specs.Units.{floor_div}
use Rattle.external_calibration.specs.declared.monitor.Monitor.TheVariants.{Temperature, Vcc, TxBias, TxPower, RxPower}
use Rattle.external_calibration.specs.Amounts.{amount_of, on_line, on_polynomial}
use Rattle.external_calibration.specs.Floats.{parts_of, size}
use Rattle.external_calibration.specs.Neutral.{NeutralConstantsChangeNothing, neutral, neutral_line}
use Rattle.external_calibration.proofs.Integers.{int_pow-one, mul_turns, same_149, same_256}
use Rattle.external_calibration.proofs.laws.neutral_constants_change_nothing.Goals as goal

line : (reading : ℤ) → on_line neutral_line reading ≡ reading *ℤ pos 256
line reading = omega (arith, ints)

-- by the slope of 1, so many thousandths for each step
steps : (reading : ℤ) (thousandths : ℕ) → floor_div (on_line neutral_line reading *ℤ pos thousandths) 256 ≡ reading *ℤ pos thousandths
steps reading thousandths =
    ap (λ z. floor_div (z *ℤ pos thousandths) 256) (line reading)
    ∙ (ap (λ z. floor_div z 256) (mul_turns reading (pos thousandths) 256) ∙ same_256 (reading *ℤ pos thousandths))

polynomial : (reading : ℤ) → on_polynomial neutral.rx_power reading ≡ reading *ℤ pos (2 ^ 149)
unfolding on_polynomial parts_of size
polynomial reading =
    let first : pos (2 ^ 149) *ℤ int_pow reading 1 ≡ pos (2 ^ 149) *ℤ reading = ap (λ z. pos (2 ^ 149) *ℤ z) (int_pow-one reading) in
    let none = λ (n : ℕ). zero-*ℤ (int_pow reading n) in
    omega (arith, ints, first, none 0, none 2, none 3, none 4)

neutral_amounts : NeutralConstantsChangeNothing
unfolding amount_of
neutral_amounts Temperature reading = ap (λ z. floor_div z 256) (steps reading 1000)
neutral_amounts Vcc reading = steps reading 100
neutral_amounts TxBias reading = steps reading 2
neutral_amounts TxPower reading = steps reading 100
neutral_amounts RxPower reading = ap (λ z. floor_div (z *ℤ pos 100) (2 ^ 149)) (polynomial reading)
    ∙ (ap (λ z. floor_div z (2 ^ 149)) (mul_turns reading (pos 100) (2 ^ 149)) ∙ same_149 (reading *ℤ pos 100))

pub returns : goal.returns
returns c = neutral_amounts
