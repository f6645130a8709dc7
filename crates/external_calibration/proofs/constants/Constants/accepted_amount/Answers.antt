use Rattle.std.proofs.Common.{◌≡◌, ◌∙◌, ap, sym, to_z, of_z, w32, w64}
use Rattle.std.specs.Prelude.{ℤ}
use Rattle.std.proofs.lemmas.Int.{to_z-of_z}
use Rattle.field_tables.specs.declared.units.Unit.TheVariants as units
use Rattle.external_calibration.specs.declared.monitor.Monitor.{Monitor}
use Rattle.external_calibration.specs.Amounts.{amount_of, on_line, on_polynomial, thousandths}
use Rattle.external_calibration.proofs.constants.Constants.accepted_amount.Goals as goal

pub returns-in-Temperature : goal.returns-in-Temperature
unfolding amount_of
returns-in-Temperature c =
    let told : c.amount.result ≡ thousandths units.Temperature 8 (on_line c.args.self.now.temperature (to_z w32 (of_z w32 c.args.reading))) = cc in
    to_z-of_z w64 c.amount.result (record { sfits = c.amount.type_inv })
    ∙ (told
    ∙ (ap (λ (r : ℤ). thousandths units.Temperature 8 (on_line c.args.self.now.temperature r)) (to_z-of_z w32 c.args.reading c.ranges.reading)
    ∙ sym (ap (λ (monitor : Monitor). amount_of c.args.self.now monitor c.args.reading) c.in-Temperature.is)))

pub returns-in-Vcc : goal.returns-in-Vcc
unfolding amount_of
returns-in-Vcc c =
    let told : c.amount-in-Vcc.result ≡ thousandths units.Voltage 8 (on_line c.args.self.now.vcc (to_z w32 (of_z w32 c.args.reading))) = cc in
    to_z-of_z w64 c.amount-in-Vcc.result (record { sfits = c.amount-in-Vcc.type_inv })
    ∙ (told
    ∙ (ap (λ (r : ℤ). thousandths units.Voltage 8 (on_line c.args.self.now.vcc r)) (to_z-of_z w32 c.args.reading c.ranges.reading)
    ∙ sym (ap (λ (monitor : Monitor). amount_of c.args.self.now monitor c.args.reading) c.in-Vcc.is)))

pub returns-in-TxBias : goal.returns-in-TxBias
unfolding amount_of
returns-in-TxBias c =
    let told : c.amount-in-TxBias.result ≡ thousandths units.Bias 8 (on_line c.args.self.now.tx_bias (to_z w32 (of_z w32 c.args.reading))) = cc in
    to_z-of_z w64 c.amount-in-TxBias.result (record { sfits = c.amount-in-TxBias.type_inv })
    ∙ (told
    ∙ (ap (λ (r : ℤ). thousandths units.Bias 8 (on_line c.args.self.now.tx_bias r)) (to_z-of_z w32 c.args.reading c.ranges.reading)
    ∙ sym (ap (λ (monitor : Monitor). amount_of c.args.self.now monitor c.args.reading) c.in-TxBias.is)))

pub returns-in-TxPower : goal.returns-in-TxPower
unfolding amount_of
returns-in-TxPower c =
    let told : c.amount-in-TxPower.result ≡ thousandths units.OpticalPower 8 (on_line c.args.self.now.tx_power (to_z w32 (of_z w32 c.args.reading))) = cc in
    to_z-of_z w64 c.amount-in-TxPower.result (record { sfits = c.amount-in-TxPower.type_inv })
    ∙ (told
    ∙ (ap (λ (r : ℤ). thousandths units.OpticalPower 8 (on_line c.args.self.now.tx_power r)) (to_z-of_z w32 c.args.reading c.ranges.reading)
    ∙ sym (ap (λ (monitor : Monitor). amount_of c.args.self.now monitor c.args.reading) c.in-TxPower.is)))

pub returns-in-RxPower : goal.returns-in-RxPower
unfolding amount_of
returns-in-RxPower c =
    to_z-of_z w64 c.received_power.result (record { sfits = c.received_power.type_inv })
    ∙ (c.received_power.ensures
    ∙ (ap (λ (r : ℤ). thousandths units.OpticalPower 149 (on_polynomial c.args.self.now.rx_power r)) (to_z-of_z w32 c.args.reading c.ranges.reading)
    ∙ sym (ap (λ (monitor : Monitor). amount_of c.args.self.now monitor c.args.reading) c.in-RxPower.is)))
