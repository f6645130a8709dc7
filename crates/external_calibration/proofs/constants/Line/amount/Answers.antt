use Rattle.std.proofs.Common.{◌≡◌, ◌∙◌, ap, sym, arith, to_z, of_z, w32, w64}
use Rattle.std.specs.Int.{int_div_euclid}
use Rattle.std.specs.Prelude.{pos, ◌*ℤ◌}
use Rattle.std.proofs.lemmas.Int.{to_z-of_z}
use Rattle.field_tables.specs.declared.units.Unit.{Unit}
use Rattle.field_tables.specs.Units.{floor_div}
use Rattle.external_calibration.specs.Amounts.{on_line, thousandths}
use Rattle.external_calibration.proofs.Integers.{rounds_by_256}
use Rattle.external_calibration.proofs.Lines.{scaled, scaled_fits}
use Rattle.external_calibration.proofs.constants.Line.amount.Goals as goal

pub overflow_mul-count : goal.overflow_mul-count
overflow_mul-count c = scaled_fits c.count-count.result 1000 c.count-count.ensures.small (omega arith)

pub returns-in-Temperature : goal.returns-in-Temperature
returns-in-Temperature c =
    let parts : c.div_euclid.result ≡ int_div_euclid (to_z w64 (of_z w64 (to_z w64 (of_z w64 c.count-count.result) *ℤ pos 1000))) (pos 65536) = cc in
    scaled c.count-count.result c.div_euclid.result 1000 65536 c.count-count.ensures.small (omega arith) parts
    ∙ (ap (λ z. floor_div (z *ℤ pos 1000) 65536) (c.count-count.ensures.value ∙ ap (on_line c.args.self) (to_z-of_z w32 c.args.reading c.ranges.reading)) ∙ rounds_by_256 (on_line c.args.self c.args.reading *ℤ pos 1000)
    ∙ sym (ap (λ (unit : Unit). thousandths unit 8 (on_line c.args.self c.args.reading)) c.in-Temperature.is))

pub overflow_mul-count-in-Voltage : goal.overflow_mul-count-in-Voltage
overflow_mul-count-in-Voltage c = scaled_fits c.count-count.result 100 c.count-count.ensures.small (omega arith)

pub returns-in-Voltage : goal.returns-in-Voltage
returns-in-Voltage c =
    let parts : c.div_euclid-in-Voltage.result ≡ int_div_euclid (to_z w64 (of_z w64 (to_z w64 (of_z w64 c.count-count.result) *ℤ pos 100))) (pos 256) = cc in
    scaled c.count-count.result c.div_euclid-in-Voltage.result 100 256 c.count-count.ensures.small (omega arith) parts
    ∙ (ap (λ z. floor_div (z *ℤ pos 100) 256) (c.count-count.ensures.value ∙ ap (on_line c.args.self) (to_z-of_z w32 c.args.reading c.ranges.reading))
    ∙ sym (ap (λ (unit : Unit). thousandths unit 8 (on_line c.args.self c.args.reading)) c.in-Voltage.is))

pub overflow_mul-count-in-OpticalPower : goal.overflow_mul-count-in-OpticalPower
overflow_mul-count-in-OpticalPower c = scaled_fits c.count-count.result 100 c.count-count.ensures.small (omega arith)

pub returns-in-OpticalPower : goal.returns-in-OpticalPower
returns-in-OpticalPower c =
    let parts : c.div_euclid-in-OpticalPower.result ≡ int_div_euclid (to_z w64 (of_z w64 (to_z w64 (of_z w64 c.count-count.result) *ℤ pos 100))) (pos 256) = cc in
    scaled c.count-count.result c.div_euclid-in-OpticalPower.result 100 256 c.count-count.ensures.small (omega arith) parts
    ∙ (ap (λ z. floor_div (z *ℤ pos 100) 256) (c.count-count.ensures.value ∙ ap (on_line c.args.self) (to_z-of_z w32 c.args.reading c.ranges.reading))
    ∙ sym (ap (λ (unit : Unit). thousandths unit 8 (on_line c.args.self c.args.reading)) c.in-OpticalPower.is))

pub overflow_mul-count-in-Bias : goal.overflow_mul-count-in-Bias
overflow_mul-count-in-Bias c = scaled_fits c.count-count.result 2 c.count-count.ensures.small (omega arith)

pub returns-in-Bias : goal.returns-in-Bias
returns-in-Bias c =
    let parts : c.div_euclid-in-Bias.result ≡ int_div_euclid (to_z w64 (of_z w64 (to_z w64 (of_z w64 c.count-count.result) *ℤ pos 2))) (pos 256) = cc in
    scaled c.count-count.result c.div_euclid-in-Bias.result 2 256 c.count-count.ensures.small (omega arith) parts
    ∙ (ap (λ z. floor_div (z *ℤ pos 2) 256) (c.count-count.ensures.value ∙ ap (on_line c.args.self) (to_z-of_z w32 c.args.reading c.ranges.reading))
    ∙ sym (ap (λ (unit : Unit). thousandths unit 8 (on_line c.args.self c.args.reading)) c.in-Bias.is))

pub overflow_mul-count-in-ModulePower : goal.overflow_mul-count-in-ModulePower
overflow_mul-count-in-ModulePower c = scaled_fits c.count-count.result 250 c.count-count.ensures.small (omega arith)

pub returns-in-ModulePower : goal.returns-in-ModulePower
returns-in-ModulePower c =
    let parts : c.div_euclid-in-ModulePower.result ≡ int_div_euclid (to_z w64 (of_z w64 (to_z w64 (of_z w64 c.count-count.result) *ℤ pos 250))) (pos 256) = cc in
    scaled c.count-count.result c.div_euclid-in-ModulePower.result 250 256 c.count-count.ensures.small (omega arith) parts
    ∙ (ap (λ z. floor_div (z *ℤ pos 250) 256) (c.count-count.ensures.value ∙ ap (on_line c.args.self) (to_z-of_z w32 c.args.reading c.ranges.reading))
    ∙ sym (ap (λ (unit : Unit). thousandths unit 8 (on_line c.args.self c.args.reading)) c.in-ModulePower.is))
