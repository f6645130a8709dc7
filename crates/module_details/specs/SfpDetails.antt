-- What a module of SFF-8472 says of itself. (SFF-8472, "Serial ID: Data Fields" and "Real Time Diagnostic and Control
-- Registers")
use Rattle.std.specs.Prelude.{[], ◌∷◌, List, codes, None}
use Rattle.code_names.specs.declared.table.Table.TheVariants as tables
use Rattle.external_calibration.specs.declared.monitor.Monitor.TheVariants as monitors
use Rattle.field_tables.specs.declared.field.Field.TheVariants as fields
use Rattle.field_tables.specs.declared.table.sff8472.Sff8472Field.TheVariants as sff8472
use Rattle.field_tables.specs.declared.field.TextField.TheVariants as texts
use Rattle.field_tables.specs.declared.field.SffText.TheVariants as sff_texts
use Rattle.report_entries.specs.declared.printed_unit.PrintedUnit.TheVariants as units
use Rattle.module_details.specs.declared.item.Case.TheVariants.{Neither, Within}
use Rattle.module_details.specs.Rows.{Row, Amount, BitRate, Calibrates, Either, Measured, MeasuredLevel, MeasuredMilliwatts, Named, Names, Oui, PairIfAny, Steps, StepsIfAny, Text, Word, Yes, always, if_paged, of_lanes, of_value, unless}

-- what it is
unfoldable pub identity_rows : List Row
identity_rows =
    always (codes "family") (Word (codes "SFF-8472"))
    ∷ always (codes "identifier") (Named tables.Identifiers (fields.Sff8472 sff8472.Identifier))
    ∷ always (codes "extended-identifier") (Named tables.Sff8472ExtendedIdentifiers (fields.Sff8472 sff8472.ExtendedIdentifier))
    ∷ always (codes "revision") (Named tables.Sff8472Revisions (fields.Sff8472 sff8472.Revision))
    ∷ always (codes "connector") (Named tables.Connectors (fields.Sff8472 sff8472.Connector))
    ∷ always (codes "vendor") (Text (texts.Sff8472 sff_texts.Vendor))
    ∷ always (codes "oui") (Oui (fields.Sff8472 sff8472.Oui))
    ∷ always (codes "part") (Text (texts.Sff8472 sff_texts.Part))
    ∷ always (codes "part-revision") (Text (texts.Sff8472 sff_texts.PartRevision))
    ∷ always (codes "serial") (Text (texts.Sff8472 sff_texts.Serial))
    ∷ always (codes "date") (Text (texts.Sff8472 sff_texts.Date))
    ∷ always (codes "encoding") (Named tables.Sff8472Encodings (fields.Sff8472 sff8472.Encoding))
    ∷ always (codes "bit-rate") (BitRate (fields.Sff8472 sff8472.BitRate) (fields.Sff8472 sff8472.BitRateMargins))
    ∷ unless (Within (fields.Sff8472 sff8472.BitRate) 1 255 255 ∷ []) (always (codes "bit-rate-margin-max") (StepsIfAny (fields.Sff8472 sff8472.BitRateMargins) 1000 units.Percent))
    ∷ of_value 2 (always (codes "bit-rate-margin-min") (StepsIfAny (fields.Sff8472 sff8472.BitRateMargins) 1000 units.Percent))
    ∷ always (codes "rate-select-type") (Named tables.Sff8472RateSelects (fields.Sff8472 sff8472.RateSelectType))
    ∷ always (codes "length-smf") (StepsIfAny (fields.Sff8472 sff8472.Lengths) 1000 units.Kilometre)
    ∷ of_value 2 (always (codes "length-smf-in-100-m") (StepsIfAny (fields.Sff8472 sff8472.Lengths) 100 units.Kilometre))
    ∷ of_value 3 (always (codes "length-om2") (StepsIfAny (fields.Sff8472 sff8472.Lengths) 10000 units.Metre))
    ∷ of_value 4 (always (codes "length-om1") (StepsIfAny (fields.Sff8472 sff8472.Lengths) 10000 units.Metre))
    ∷ unless (Neither (fields.Sff8472 sff8472.FcTechnology) 3 4 ∷ []) (of_value 5 (always (codes "length") (StepsIfAny (fields.Sff8472 sff8472.Lengths) 1000 units.Metre)))
    ∷ unless (Within (fields.Sff8472 sff8472.FcTechnology) 3 1 1 ∷ Within (fields.Sff8472 sff8472.FcTechnology) 4 1 1 ∷ []) (of_value 5 (always (codes "length-om4") (StepsIfAny (fields.Sff8472 sff8472.Lengths) 10000 units.Metre)))
    ∷ of_value 6 (always (codes "length-om3") (StepsIfAny (fields.Sff8472 sff8472.Lengths) 10000 units.Metre))
    ∷ unless (Within (fields.Sff8472 sff8472.FcTechnology) 3 1 1 ∷ Within (fields.Sff8472 sff8472.FcTechnology) 4 1 1 ∷ []) (always (codes "wavelength") (PairIfAny (fields.Sff8472 sff8472.WavelengthOrCable) 1000 units.Nanometre))
    ∷ unless (Within (fields.Sff8472 sff8472.FcTechnology) 3 0 0 ∷ []) (always (codes "passive-cable-compliance") (Named tables.SfpPassiveCables (fields.Sff8472 sff8472.WavelengthOrCable)))
    ∷ unless (Within (fields.Sff8472 sff8472.FcTechnology) 4 0 0 ∷ []) (always (codes "active-cable-compliance") (Named tables.SfpActiveCables (fields.Sff8472 sff8472.WavelengthOrCable)))
    ∷ []

-- which specifications it complies with
unfoldable pub compliance_rows : List Row
compliance_rows =
    always (codes "ethernet") (Names tables.Sff8472Compliance (fields.Sff8472 sff8472.TenGigabitEthernet) 0)
    ∷ always (codes "sonet") (Names tables.Sff8472Compliance (fields.Sff8472 sff8472.Sonet) 8)
    ∷ always (codes "sonet-more") (Names tables.Sff8472Compliance (fields.Sff8472 sff8472.SonetMore) 16)
    ∷ always (codes "gigabit-ethernet") (Names tables.Sff8472Compliance (fields.Sff8472 sff8472.Ethernet) 24)
    ∷ always (codes "fc-length") (Names tables.Sff8472Compliance (fields.Sff8472 sff8472.FcLength) 32)
    ∷ always (codes "fc-technology") (Names tables.Sff8472Compliance (fields.Sff8472 sff8472.FcTechnology) 40)
    ∷ always (codes "fc-media") (Names tables.Sff8472Compliance (fields.Sff8472 sff8472.FcMedia) 48)
    ∷ always (codes "fc-speed") (Names tables.Sff8472Compliance (fields.Sff8472 sff8472.FcSpeed) 56)
    ∷ always (codes "fc-speed-more") (Names tables.Sff8472Compliance (fields.Sff8472 sff8472.FcSpeedMore) 64)
    ∷ always (codes "extended-compliance") (Named tables.ExtendedCompliance (fields.Sff8472 sff8472.ExtendedCompliance))
    ∷ []

-- which controls and flags it has
unfoldable pub options_rows : List Row
options_rows =
    always (codes "linear-receiver") (Yes (fields.Sff8472 sff8472.Options))
    ∷ of_value 2 (always (codes "power-level-2") (Yes (fields.Sff8472 sff8472.Options)))
    ∷ of_value 3 (always (codes "cooled") (Yes (fields.Sff8472 sff8472.Options)))
    ∷ of_value 4 (always (codes "cdr") (Yes (fields.Sff8472 sff8472.Options)))
    ∷ of_value 5 (always (codes "paging") (Yes (fields.Sff8472 sff8472.Options)))
    ∷ of_value 6 (always (codes "power-level-3") (Yes (fields.Sff8472 sff8472.Options)))
    ∷ always (codes "rx-los-flag") (Yes (fields.Sff8472 sff8472.OptionsMore))
    ∷ of_value 2 (always (codes "rx-los-inverted") (Yes (fields.Sff8472 sff8472.OptionsMore)))
    ∷ of_value 3 (always (codes "tx-fault-flag") (Yes (fields.Sff8472 sff8472.OptionsMore)))
    ∷ of_value 4 (always (codes "tx-disable-control") (Yes (fields.Sff8472 sff8472.OptionsMore)))
    ∷ of_value 5 (always (codes "rate-select") (Yes (fields.Sff8472 sff8472.OptionsMore)))
    ∷ of_value 6 (always (codes "tunable") (Yes (fields.Sff8472 sff8472.OptionsMore)))
    ∷ of_value 7 (always (codes "decision-threshold") (Yes (fields.Sff8472 sff8472.OptionsMore)))
    ∷ always (codes "diagnostics") (Yes (fields.Sff8472 sff8472.DiagPresent))
    ∷ unless (Within (fields.Sff8472 sff8472.DiagPresent) 1 0 0 ∷ []) (always (codes "internally-calibrated") (Yes (fields.Sff8472 sff8472.Internal)))
    ∷ unless (Within (fields.Sff8472 sff8472.DiagPresent) 1 0 0 ∷ []) (always (codes "externally-calibrated") (Yes (fields.Sff8472 sff8472.External)))
    ∷ unless (Within (fields.Sff8472 sff8472.DiagPresent) 1 0 0 ∷ []) (always (codes "rx-power-type") (Either (fields.Sff8472 sff8472.RxPowerIsAverage) (codes "average") (codes "OMA")))
    ∷ always (codes "soft-rate-select-control") (Yes (fields.Sff8472 sff8472.EnhancedOptions))
    ∷ of_value 2 (always (codes "application-select") (Yes (fields.Sff8472 sff8472.EnhancedOptions)))
    ∷ of_value 3 (always (codes "soft-rate-select") (Yes (fields.Sff8472 sff8472.EnhancedOptions)))
    ∷ of_value 4 (always (codes "soft-rx-los") (Yes (fields.Sff8472 sff8472.EnhancedOptions)))
    ∷ of_value 5 (always (codes "soft-tx-fault") (Yes (fields.Sff8472 sff8472.EnhancedOptions)))
    ∷ of_value 6 (always (codes "soft-tx-disable") (Yes (fields.Sff8472 sff8472.EnhancedOptions)))
    ∷ of_value 7 (always (codes "alarms") (Yes (fields.Sff8472 sff8472.EnhancedOptions)))
    ∷ []

-- how it is
unfoldable pub status_rows : List Row
status_rows =
    if_paged (always (codes "data-not-ready") (Yes (fields.Sff8472 sff8472.DataNotReady)))
    ∷ if_paged (always (codes "rate-select-0-set") (Yes (fields.Sff8472 sff8472.Status)))
    ∷ if_paged (of_value 2 (always (codes "rate-select-0") (Yes (fields.Sff8472 sff8472.Status))))
    ∷ if_paged (of_value 3 (always (codes "rate-select-1") (Yes (fields.Sff8472 sff8472.Status))))
    ∷ if_paged (of_value 4 (always (codes "tx-disable-set") (Yes (fields.Sff8472 sff8472.Status))))
    ∷ if_paged (of_value 5 (always (codes "tx-disabled") (Yes (fields.Sff8472 sff8472.Status))))
    ∷ if_paged (always (codes "rate-select-1-set") (Yes (fields.Sff8472 sff8472.RateSelect1Set)))
    ∷ if_paged (always (codes "power-level-set") (Yes (fields.Sff8472 sff8472.PowerLevel)))
    ∷ if_paged (of_value 2 (always (codes "power-level-higher") (Yes (fields.Sff8472 sff8472.PowerLevel))))
    ∷ if_paged (always (codes "temperature") (Measured monitors.Temperature (fields.Sff8472 sff8472.Temperature)))
    ∷ if_paged (always (codes "vcc") (Measured monitors.Vcc (fields.Sff8472 sff8472.Vcc)))
    ∷ unless (Within (fields.Sff8472 sff8472.Options) 3 0 0 ∷ []) (if_paged (always (codes "laser-temperature") (Amount (fields.Sff8472 sff8472.LaserTemperature) None)))
    ∷ unless (Within (fields.Sff8472 sff8472.Options) 3 0 0 ∷ []) (if_paged (always (codes "tec-current") (Steps (fields.Sff8472 sff8472.TecCurrent) 100 units.Milliampere)))
    ∷ if_paged (of_lanes 1 (always (codes "tx-power") (MeasuredLevel monitors.TxPower (fields.Sff8472 sff8472.TxPower))))
    ∷ if_paged (of_lanes 1 (always (codes "tx-power-mw") (MeasuredMilliwatts monitors.TxPower (fields.Sff8472 sff8472.TxPower))))
    ∷ if_paged (of_lanes 1 (always (codes "tx-bias") (Measured monitors.TxBias (fields.Sff8472 sff8472.TxBias))))
    ∷ if_paged (of_lanes 1 (always (codes "rx-power") (MeasuredLevel monitors.RxPower (fields.Sff8472 sff8472.RxPower))))
    ∷ if_paged (of_lanes 1 (always (codes "rx-power-mw") (MeasuredMilliwatts monitors.RxPower (fields.Sff8472 sff8472.RxPower))))
    ∷ []

-- what it measures and its limits, if the host has to calibrate them
unfoldable pub calibrated_rows : List Row
calibrated_rows =
    unless (Within (fields.Sff8472 sff8472.External) 1 0 0 ∷ []) (if_paged (always (codes "rx-power-constants-usable") (Calibrates monitors.RxPower)))
    ∷ unless (Within (fields.Sff8472 sff8472.External) 1 0 0 ∷ []) (if_paged (of_lanes 1 (always (codes "calibrated-tx-power") (Measured monitors.TxPower (fields.Sff8472 sff8472.TxPower)))))
    ∷ unless (Within (fields.Sff8472 sff8472.External) 1 0 0 ∷ []) (if_paged (of_lanes 1 (always (codes "calibrated-rx-power") (Measured monitors.RxPower (fields.Sff8472 sff8472.RxPower)))))
    ∷ unless (Within (fields.Sff8472 sff8472.External) 1 0 0 ∷ Within (fields.Sff8472 sff8472.EnhancedOptions) 7 0 0 ∷ []) (if_paged (always (codes "temperature-high-alarm-limit") (Measured monitors.Temperature (fields.Sff8472 sff8472.TempLimits))))
    ∷ unless (Within (fields.Sff8472 sff8472.External) 1 0 0 ∷ Within (fields.Sff8472 sff8472.EnhancedOptions) 7 0 0 ∷ []) (of_value 2 (if_paged (always (codes "temperature-low-alarm-limit") (Measured monitors.Temperature (fields.Sff8472 sff8472.TempLimits)))))
    ∷ unless (Within (fields.Sff8472 sff8472.External) 1 0 0 ∷ Within (fields.Sff8472 sff8472.EnhancedOptions) 7 0 0 ∷ []) (of_value 3 (if_paged (always (codes "temperature-high-warning-limit") (Measured monitors.Temperature (fields.Sff8472 sff8472.TempLimits)))))
    ∷ unless (Within (fields.Sff8472 sff8472.External) 1 0 0 ∷ Within (fields.Sff8472 sff8472.EnhancedOptions) 7 0 0 ∷ []) (of_value 4 (if_paged (always (codes "temperature-low-warning-limit") (Measured monitors.Temperature (fields.Sff8472 sff8472.TempLimits)))))
    ∷ unless (Within (fields.Sff8472 sff8472.External) 1 0 0 ∷ Within (fields.Sff8472 sff8472.EnhancedOptions) 7 0 0 ∷ []) (if_paged (always (codes "vcc-high-alarm-limit") (Measured monitors.Vcc (fields.Sff8472 sff8472.VccLimits))))
    ∷ unless (Within (fields.Sff8472 sff8472.External) 1 0 0 ∷ Within (fields.Sff8472 sff8472.EnhancedOptions) 7 0 0 ∷ []) (of_value 2 (if_paged (always (codes "vcc-low-alarm-limit") (Measured monitors.Vcc (fields.Sff8472 sff8472.VccLimits)))))
    ∷ unless (Within (fields.Sff8472 sff8472.External) 1 0 0 ∷ Within (fields.Sff8472 sff8472.EnhancedOptions) 7 0 0 ∷ []) (of_value 3 (if_paged (always (codes "vcc-high-warning-limit") (Measured monitors.Vcc (fields.Sff8472 sff8472.VccLimits)))))
    ∷ unless (Within (fields.Sff8472 sff8472.External) 1 0 0 ∷ Within (fields.Sff8472 sff8472.EnhancedOptions) 7 0 0 ∷ []) (of_value 4 (if_paged (always (codes "vcc-low-warning-limit") (Measured monitors.Vcc (fields.Sff8472 sff8472.VccLimits)))))
    ∷ unless (Within (fields.Sff8472 sff8472.External) 1 0 0 ∷ Within (fields.Sff8472 sff8472.EnhancedOptions) 7 0 0 ∷ []) (if_paged (always (codes "tx-bias-high-alarm-limit") (Measured monitors.TxBias (fields.Sff8472 sff8472.TxBiasLimits))))
    ∷ unless (Within (fields.Sff8472 sff8472.External) 1 0 0 ∷ Within (fields.Sff8472 sff8472.EnhancedOptions) 7 0 0 ∷ []) (of_value 2 (if_paged (always (codes "tx-bias-low-alarm-limit") (Measured monitors.TxBias (fields.Sff8472 sff8472.TxBiasLimits)))))
    ∷ unless (Within (fields.Sff8472 sff8472.External) 1 0 0 ∷ Within (fields.Sff8472 sff8472.EnhancedOptions) 7 0 0 ∷ []) (of_value 3 (if_paged (always (codes "tx-bias-high-warning-limit") (Measured monitors.TxBias (fields.Sff8472 sff8472.TxBiasLimits)))))
    ∷ unless (Within (fields.Sff8472 sff8472.External) 1 0 0 ∷ Within (fields.Sff8472 sff8472.EnhancedOptions) 7 0 0 ∷ []) (of_value 4 (if_paged (always (codes "tx-bias-low-warning-limit") (Measured monitors.TxBias (fields.Sff8472 sff8472.TxBiasLimits)))))
    ∷ unless (Within (fields.Sff8472 sff8472.External) 1 0 0 ∷ Within (fields.Sff8472 sff8472.EnhancedOptions) 7 0 0 ∷ []) (if_paged (always (codes "tx-power-high-alarm-limit") (Measured monitors.TxPower (fields.Sff8472 sff8472.TxPowerLimits))))
    ∷ unless (Within (fields.Sff8472 sff8472.External) 1 0 0 ∷ Within (fields.Sff8472 sff8472.EnhancedOptions) 7 0 0 ∷ []) (of_value 2 (if_paged (always (codes "tx-power-low-alarm-limit") (Measured monitors.TxPower (fields.Sff8472 sff8472.TxPowerLimits)))))
    ∷ unless (Within (fields.Sff8472 sff8472.External) 1 0 0 ∷ Within (fields.Sff8472 sff8472.EnhancedOptions) 7 0 0 ∷ []) (of_value 3 (if_paged (always (codes "tx-power-high-warning-limit") (Measured monitors.TxPower (fields.Sff8472 sff8472.TxPowerLimits)))))
    ∷ unless (Within (fields.Sff8472 sff8472.External) 1 0 0 ∷ Within (fields.Sff8472 sff8472.EnhancedOptions) 7 0 0 ∷ []) (of_value 4 (if_paged (always (codes "tx-power-low-warning-limit") (Measured monitors.TxPower (fields.Sff8472 sff8472.TxPowerLimits)))))
    ∷ unless (Within (fields.Sff8472 sff8472.External) 1 0 0 ∷ Within (fields.Sff8472 sff8472.EnhancedOptions) 7 0 0 ∷ []) (if_paged (always (codes "rx-power-high-alarm-limit") (Measured monitors.RxPower (fields.Sff8472 sff8472.RxPowerLimits))))
    ∷ unless (Within (fields.Sff8472 sff8472.External) 1 0 0 ∷ Within (fields.Sff8472 sff8472.EnhancedOptions) 7 0 0 ∷ []) (of_value 2 (if_paged (always (codes "rx-power-low-alarm-limit") (Measured monitors.RxPower (fields.Sff8472 sff8472.RxPowerLimits)))))
    ∷ unless (Within (fields.Sff8472 sff8472.External) 1 0 0 ∷ Within (fields.Sff8472 sff8472.EnhancedOptions) 7 0 0 ∷ []) (of_value 3 (if_paged (always (codes "rx-power-high-warning-limit") (Measured monitors.RxPower (fields.Sff8472 sff8472.RxPowerLimits)))))
    ∷ unless (Within (fields.Sff8472 sff8472.External) 1 0 0 ∷ Within (fields.Sff8472 sff8472.EnhancedOptions) 7 0 0 ∷ []) (of_value 4 (if_paged (always (codes "rx-power-low-warning-limit") (Measured monitors.RxPower (fields.Sff8472 sff8472.RxPowerLimits)))))
    ∷ []

-- all of them
abbrev pub tables_of_rows : List (List Row)
tables_of_rows = identity_rows ∷ compliance_rows ∷ options_rows ∷ status_rows ∷ calibrated_rows ∷ []
