-- What a word amounts to is shown as a number.
use Rattle.std.proofs.Common.{◌≡◌, ◌∙◌, ℕ, ◌/◌, ◌%◌, ◌<◌, ◌≤◌, ◌==◌, true, ℤ, pos, ◌*ℤ◌, ◌-ℤ◌, neg_ℤ, nat_lt, int_le, unsigned_abs, sym, arith}
use Rattle.std.proofs.lemmas.Bool.{and_from, cond_both, false≢true, le-leb, lt-ltb}
use Rattle.std.proofs.lemmas.Int.{ints, unsigned_abs-mul}
use Rattle.std.specs.Int.{bit_at}
use Rattle.field_tables.specs.declared.layout.Sign.TheVariants.{Signed}
use Rattle.field_tables.specs.Numbers.{signed_by}
use Rattle.observables.specs.declared.quantity.Quantity.TheVariants as quantities
use Rattle.observables.specs.Amounts.{float_amount}
use Rattle.observable_reports.specs.AmountTexts.{is_float, is_small, rounded_of, scientific_of}
use Rattle.observable_reports.specs.WrittenAmounts.{EachWordIsANumber, IsNumber}

-- ---- floats

least : (n : ℕ) → int_le (neg_ℤ (pos 24)) (pos n -ℤ pos 24) ≡ true
least n = grind (arith, ints)

most : (n : ℕ) → n < 32 → int_le (pos n -ℤ pos 24) (pos 7) ≡ true
most n below = grind (arith, ints)

float_is : (word : ℕ) → word < 65536 → is_float (float_amount word) ≡ true
float_is word below =
    and_from _ _ (le-leb 0 (word % 2048) (omega arith))
    (and_from _ _ (lt-ltb (word % 2048) 2048 (omega arith)) (and_from _ _ (least (word / 2048)) (most (word / 2048) (omega arith))))

float_number : (word : ℕ) → word < 65536 → IsNumber (scientific_of (float_amount word))
float_number word below = cond_both (is_float (float_amount word)) _ _ IsNumber (λ _. tt) (λ not. absurd (false≢true (sym not ∙ float_is word below)))

-- ---- shares

shared : (mantissa : ℤ) (divisor : ℕ) → is_small (record { mantissa = mantissa; exponent = pos 0; divisor = divisor }) ≡ true
    → IsNumber (rounded_of (record { mantissa = mantissa; exponent = pos 0; divisor = divisor }))
shared mantissa divisor small = cond_both (is_small (record { mantissa = mantissa; exponent = pos 0; divisor = divisor })) _ _ IsNumber (λ _. tt)
    (λ not. absurd (false≢true (sym not ∙ small)))

-- a hundred times a number of steps
small_hundreds : (steps : ℤ) → unsigned_abs steps ≤ 65536 → nat_lt (unsigned_abs (steps *ℤ pos 100)) 1000000000000 ≡ true
small_hundreds steps few = lt-ltb (unsigned_abs (steps *ℤ pos 100)) 1000000000000 (omega (arith, few, unsigned_abs-mul steps (pos 100)))

few_signed : (word : ℕ) → word < 65536 → unsigned_abs (signed_by Signed word) ≤ 65536
few_signed word below = cond_both (bit_at word 15 == 1) _ _ (λ (z : ℤ). unsigned_abs z ≤ 65536) (λ _. grind (arith, ints)) (λ _. omega (arith, below))

signed_share : (word : ℕ) → word < 65536 → IsNumber (rounded_of (record { mantissa = signed_by Signed word *ℤ pos 100; exponent = pos 0; divisor = 32767 }))
signed_share word below = shared (signed_by Signed word *ℤ pos 100) 32767 (small_hundreds (signed_by Signed word) (few_signed word below))

share : (word : ℕ) → word < 65536 → IsNumber (rounded_of (record { mantissa = pos word *ℤ pos 100; exponent = pos 0; divisor = 65535 }))
share word below = shared (pos word *ℤ pos 100) 65535 (small_hundreds (pos word) (omega (arith, below)))

pub each_is_a_number : EachWordIsANumber
each_is_a_number quantities.LaserAge word below = tt
each_is_a_number quantities.TecCurrentShare word below = signed_share word below
each_is_a_number quantities.LaserFrequencyError word below = tt
each_is_a_number quantities.LaserTemperature word below = tt
each_is_a_number quantities.SignalToNoise word below = tt
each_is_a_number quantities.LevelTransition word below = tt
each_is_a_number quantities.PreFecBer word below = float_number word below
each_is_a_number quantities.ErroredFrames word below = float_number word below
each_is_a_number quantities.ModulatorBiasXI word below = share word below
each_is_a_number quantities.ModulatorBiasXQ word below = share word below
each_is_a_number quantities.ModulatorBiasYI word below = share word below
each_is_a_number quantities.ModulatorBiasYQ word below = share word below
each_is_a_number quantities.ModulatorBiasXPhase word below = share word below
each_is_a_number quantities.ModulatorBiasYPhase word below = share word below
each_is_a_number quantities.DispersionShortLink word below = tt
each_is_a_number quantities.DispersionLongLink word below = tt
each_is_a_number quantities.GroupDelay word below = tt
each_is_a_number quantities.SecondOrderPmd word below = tt
each_is_a_number quantities.PolarizationLoss word below = tt
each_is_a_number quantities.OpticalSignalToNoise word below = tt
each_is_a_number quantities.ElectricalSignalToNoise word below = tt
each_is_a_number quantities.CarrierFrequencyOffset word below = tt
each_is_a_number quantities.ErrorVector word below = share word below
each_is_a_number quantities.TransmittedLevel word below = tt
each_is_a_number quantities.ReceivedTotalLevel word below = tt
each_is_a_number quantities.ReceivedSignalLevel word below = tt
each_is_a_number quantities.PolarizationChange word below = tt
each_is_a_number quantities.ModulationErrorRatio word below = tt
each_is_a_number quantities.Temperature word below = tt
each_is_a_number quantities.SupplyVoltage word below = tt
each_is_a_number quantities.SecondSupplyVoltage word below = tt
each_is_a_number quantities.TransmittedPower word below = tt
each_is_a_number quantities.ReceivedPower word below = tt
each_is_a_number quantities.LaserBias word below = tt
each_is_a_number quantities.TecCurrent word below = tt
