-- What a module measures, line by line. (docs/formats.md, "monitors"; OIF-CMIS-05.0, "Module-Level Monitor Values" of lower memory,
-- "Supported Monitors Advertisement" of page 01h, the monitor thresholds of page 02h and "Lane-Specific Monitors" of page 11h; SFF-8636,
-- "Free Side Device Monitors", "Channel Monitors" and their thresholds; SFF-8472, "Real Time Diagnostic and Control Registers" and "Alarm
-- and Warning Thresholds")
use Rattle.std.specs.Prelude.{List, [], ◌∷◌, None, Some, codes}
use Rattle.field_tables.specs.declared.field.Field.TheVariants as fields
use Rattle.field_tables.specs.declared.table.cmis.CmisField.TheVariants as cmis
use Rattle.field_tables.specs.declared.table.sff8636.Sff8636Field.TheVariants as sff8636
use Rattle.field_tables.specs.declared.table.sff8472.Sff8472Field.TheVariants as sff8472
use Rattle.field_tables.specs.declared.field.Sum.TheVariants as sums
use Rattle.field_tables.specs.declared.field.CmisSum.TheVariants as cmis_sums
use Rattle.field_tables.specs.declared.field.Sff8472Sum.TheVariants as sff8472_sums
use Rattle.report_entries.specs.Rows.{Row, Instead, Amount, Lanes, Limits, Right, Nothing, Wording, always, if_paged}

-- the module says that it measures none, or multiplies bias by a reserved code
abbrev bias_words : List Instead
bias_words = Wording (fields.Cmis cmis.TxBiasMonitor) 0 (codes "unsupported") ∷ Wording (fields.Cmis cmis.BiasMultiplier) 3 (codes "reserved") ∷ []

abbrev bias_blanks : List Instead
bias_blanks = Nothing (fields.Cmis cmis.TxBiasMonitor) 0 ∷ Nothing (fields.Cmis cmis.BiasMultiplier) 3 ∷ []

unfoldable pub cmis_rows : List Row
cmis_rows =
    always (codes "temperature") (Amount (fields.Cmis cmis.Temperature))
    ∷ if_paged (codes "temperature-limits") (Limits (fields.Cmis cmis.TempLimits) None) []
    ∷ always (codes "vcc") (Amount (fields.Cmis cmis.Vcc))
    ∷ if_paged (codes "vcc-limits") (Limits (fields.Cmis cmis.VccLimits) None) []
    ∷ if_paged (codes "tx-power") (Lanes (fields.Cmis cmis.TxPower) None) (Wording (fields.Cmis cmis.TxPowerMonitor) 0 (codes "unsupported") ∷ [])
    ∷ if_paged (codes "tx-power-limits") (Limits (fields.Cmis cmis.TxPowerLimits) None) (Nothing (fields.Cmis cmis.TxPowerMonitor) 0 ∷ [])
    ∷ if_paged (codes "tx-bias") (Lanes (fields.Cmis cmis.TxBias) (Some (fields.Cmis cmis.BiasMultiplier))) bias_words
    ∷ if_paged (codes "tx-bias-limits") (Limits (fields.Cmis cmis.TxBiasLimits) (Some (fields.Cmis cmis.BiasMultiplier))) bias_blanks
    ∷ if_paged (codes "rx-power") (Lanes (fields.Cmis cmis.RxPower) None) (Wording (fields.Cmis cmis.RxPowerMonitor) 0 (codes "unsupported") ∷ [])
    ∷ if_paged (codes "rx-power-limits") (Limits (fields.Cmis cmis.RxPowerLimits) None) (Nothing (fields.Cmis cmis.RxPowerMonitor) 0 ∷ [])
    ∷ if_paged (codes "sum-02h") (Right (sums.Cmis cmis_sums.Sum02)) []
    ∷ []

unfoldable pub qsfp_rows : List Row
qsfp_rows =
    always (codes "temperature") (Amount (fields.Sff8636 sff8636.Temperature))
    ∷ if_paged (codes "temperature-limits") (Limits (fields.Sff8636 sff8636.TempLimits) None) []
    ∷ always (codes "vcc") (Amount (fields.Sff8636 sff8636.Vcc))
    ∷ if_paged (codes "vcc-limits") (Limits (fields.Sff8636 sff8636.VccLimits) None) []
    ∷ always (codes "tx-power") (Lanes (fields.Sff8636 sff8636.TxPower) None)
    ∷ if_paged (codes "tx-power-limits") (Limits (fields.Sff8636 sff8636.TxPowerLimits) None) []
    ∷ always (codes "tx-bias") (Lanes (fields.Sff8636 sff8636.TxBias) None)
    ∷ if_paged (codes "tx-bias-limits") (Limits (fields.Sff8636 sff8636.TxBiasLimits) None) []
    ∷ always (codes "rx-power") (Lanes (fields.Sff8636 sff8636.RxPower) None)
    ∷ if_paged (codes "rx-power-limits") (Limits (fields.Sff8636 sff8636.RxPowerLimits) None) []
    ∷ []

unfoldable pub sfp_rows : List Row
sfp_rows =
    always (codes "temperature") (Amount (fields.Sff8472 sff8472.Temperature))
    ∷ always (codes "temperature-limits") (Limits (fields.Sff8472 sff8472.TempLimits) None)
    ∷ always (codes "vcc") (Amount (fields.Sff8472 sff8472.Vcc))
    ∷ always (codes "vcc-limits") (Limits (fields.Sff8472 sff8472.VccLimits) None)
    ∷ always (codes "tx-power") (Lanes (fields.Sff8472 sff8472.TxPower) None)
    ∷ always (codes "tx-power-limits") (Limits (fields.Sff8472 sff8472.TxPowerLimits) None)
    ∷ always (codes "tx-bias") (Lanes (fields.Sff8472 sff8472.TxBias) None)
    ∷ always (codes "tx-bias-limits") (Limits (fields.Sff8472 sff8472.TxBiasLimits) None)
    ∷ always (codes "rx-power") (Lanes (fields.Sff8472 sff8472.RxPower) None)
    ∷ always (codes "rx-power-limits") (Limits (fields.Sff8472 sff8472.RxPowerLimits) None)
    ∷ always (codes "sum-a2") (Right (sums.Sff8472 sff8472_sums.SumDmi))
    ∷ []
