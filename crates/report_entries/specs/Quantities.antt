-- The names of what a module measures. (docs/formats.md, "monitors"; OIF-CMIS-05.0, "Module-Level
-- Monitor Values" and "Lane-Specific Monitors"; SFF-8636, "Free Side Device Monitors" and "Channel Monitors"; SFF-8472,
-- "Real Time Diagnostic and Control Registers")
use Rattle.std.specs.Prelude.{ℕ, List, codes}
use Rattle.report_entries.specs.declared.quantity.Quantity.{Quantity}
use Rattle.report_entries.specs.declared.quantity.Quantity.TheVariants.{Temperature, Vcc, TxPower, TxBias, RxPower}

unfoldable pub name_of : Quantity → List ℕ
name_of Temperature = codes "temperature"
name_of Vcc = codes "vcc"
name_of TxPower = codes "tx-power"
name_of TxBias = codes "tx-bias"
name_of RxPower = codes "rx-power"
