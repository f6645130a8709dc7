-- What a CMIS module says of itself. (OIF-CMIS-05.0, "Lower Memory", "Administrative Information (Page 00h)", "Advertising
-- (Page 01h)" and "Lane Status and Data Path Status (Page 11h)")
use Rattle.std.specs.Prelude.{[], ◌∷◌, List, codes, None, Some}
use Rattle.code_names.specs.declared.table.Table.TheVariants as tables
use Rattle.field_tables.specs.declared.field.Field.TheVariants as fields
use Rattle.field_tables.specs.declared.table.cmis.CmisField.TheVariants as cmis
use Rattle.field_tables.specs.declared.field.TextField.TheVariants as texts
use Rattle.field_tables.specs.declared.field.CmisText.TheVariants as cmis_texts
use Rattle.report_entries.specs.declared.printed_unit.PrintedUnit.TheVariants as units
use Rattle.module_details.specs.declared.item.Case.{Case}
use Rattle.module_details.specs.declared.item.Case.TheVariants.{Outside, Within}
use Rattle.module_details.specs.Rows.{Row, Amount, Celsius, ConfigStatus, Either, FirstLane, Level, Milliwatts, ModuleState, Named, Number, Oui, PathState, Percent, Revision, Steps, StepsIfAny, Temperature, TenthsIfAny, Text, Version, Word, Yes, always, if_paged, of_lanes, of_value, unless}

-- a module of CMIS 3, of which it isn't sure what these bytes mean
abbrev is_cmis_3 : Case
is_cmis_3 = Within (fields.Cmis cmis.Revision) 1 0x30 0x3F

-- what it is
unfoldable pub identity_rows : List Row
identity_rows =
    always (codes "family") (Word (codes "CMIS"))
    ∷ always (codes "identifier") (Named tables.Identifiers (fields.Cmis cmis.Identifier))
    ∷ always (codes "revision") (Revision (fields.Cmis cmis.Revision))
    ∷ always (codes "memory") (Either (fields.Cmis cmis.FlatMemory) (codes "flat") (codes "paged"))
    ∷ always (codes "media-type") (Named tables.MediaTypes (fields.Cmis cmis.MediaType))
    ∷ always (codes "connector") (Named tables.Connectors (fields.Cmis cmis.Connector))
    ∷ always (codes "vendor") (Text (texts.Cmis cmis_texts.Vendor))
    ∷ always (codes "oui") (Oui (fields.Cmis cmis.Oui))
    ∷ always (codes "part") (Text (texts.Cmis cmis_texts.Part))
    ∷ always (codes "part-revision") (Text (texts.Cmis cmis_texts.PartRevision))
    ∷ always (codes "serial") (Text (texts.Cmis cmis_texts.Serial))
    ∷ always (codes "date") (Text (texts.Cmis cmis_texts.Date))
    ∷ always (codes "clei") (Text (texts.Cmis cmis_texts.Clei))
    ∷ always (codes "power-class") (Number (fields.Cmis cmis.PowerClass) 1)
    ∷ always (codes "max-power") (Amount (fields.Cmis cmis.MaxPower) None)
    ∷ always (codes "length") (TenthsIfAny (fields.Cmis cmis.LengthBase) (fields.Cmis cmis.LengthMultiplier) units.Metre)
    ∷ always (codes "technology") (Named tables.MediaTechnologies (fields.Cmis cmis.Technology))
    ∷ unless (Outside (fields.Cmis cmis.Technology) 1 10 15 ∷ []) (always (codes "attenuation-at-5000-mhz") (StepsIfAny (fields.Cmis cmis.Attenuation) 1000 units.Decibel))
    ∷ unless (Outside (fields.Cmis cmis.Technology) 1 10 15 ∷ []) (of_value 2 (always (codes "attenuation-at-7000-mhz") (StepsIfAny (fields.Cmis cmis.Attenuation) 1000 units.Decibel)))
    ∷ unless (Outside (fields.Cmis cmis.Technology) 1 10 15 ∷ []) (of_value 3 (always (codes "attenuation-at-12900-mhz") (StepsIfAny (fields.Cmis cmis.Attenuation) 1000 units.Decibel)))
    ∷ unless (Outside (fields.Cmis cmis.Technology) 1 10 15 ∷ []) (of_value 4 (always (codes "attenuation-at-25800-mhz") (StepsIfAny (fields.Cmis cmis.Attenuation) 1000 units.Decibel)))
    ∷ unless (is_cmis_3 ∷ []) (always (codes "firmware") (Version (fields.Cmis cmis.ActiveFirmware)))
    ∷ []

-- what it is like
unfoldable pub characteristics_rows : List Row
characteristics_rows =
    unless (is_cmis_3 ∷ []) (if_paged (always (codes "inactive-firmware") (Version (fields.Cmis cmis.InactiveFirmware))))
    ∷ if_paged (always (codes "hardware") (Version (fields.Cmis cmis.Hardware)))
    ∷ unless (Outside (fields.Cmis cmis.LengthSmfMultiplier) 1 0 1 ∷ []) (if_paged (always (codes "length-smf") (TenthsIfAny (fields.Cmis cmis.LengthSmf) (fields.Cmis cmis.LengthSmfMultiplier) units.Kilometre)))
    ∷ if_paged (always (codes "length-om5") (StepsIfAny (fields.Cmis cmis.Lengths) 2000 units.Metre))
    ∷ if_paged (of_value 2 (always (codes "length-om4") (StepsIfAny (fields.Cmis cmis.Lengths) 2000 units.Metre)))
    ∷ if_paged (of_value 3 (always (codes "length-om3") (StepsIfAny (fields.Cmis cmis.Lengths) 2000 units.Metre)))
    ∷ if_paged (of_value 4 (always (codes "length-om2") (StepsIfAny (fields.Cmis cmis.Lengths) 1000 units.Metre)))
    ∷ unless (Within (fields.Cmis cmis.Technology) 1 10 15 ∷ []) (if_paged (always (codes "wavelength") (StepsIfAny (fields.Cmis cmis.Wavelength) 50 units.Nanometre)))
    ∷ unless (Within (fields.Cmis cmis.Technology) 1 10 15 ∷ []) (if_paged (always (codes "wavelength-tolerance") (StepsIfAny (fields.Cmis cmis.WavelengthTolerance) 5 units.Nanometre)))
    ∷ if_paged (always (codes "cooled") (Yes (fields.Cmis cmis.Cooled)))
    ∷ if_paged (always (codes "detector") (Either (fields.Cmis cmis.DetectorIsApd) (codes "APD") (codes "PIN")))
    ∷ if_paged (always (codes "rx-power-type") (Either (fields.Cmis cmis.RxPowerIsAverage) (codes "average") (codes "OMA")))
    ∷ unless (Within (fields.Cmis cmis.TempRange) 1 0 0 ∷ []) (if_paged (always (codes "case-temperature-max") (Celsius (fields.Cmis cmis.TempRange))))
    ∷ unless (Within (fields.Cmis cmis.TempRange) 1 0 0 ∷ []) (if_paged (of_value 2 (always (codes "case-temperature-min") (Celsius (fields.Cmis cmis.TempRange)))))
    ∷ unless (is_cmis_3 ∷ []) (if_paged (always (codes "max-duration-module-pwr-up") (Named tables.Durations (fields.Cmis cmis.MaxDurationModulePwrUp))))
    ∷ unless (is_cmis_3 ∷ []) (if_paged (always (codes "max-duration-module-pwr-dn") (Named tables.Durations (fields.Cmis cmis.MaxDurationModulePwrDn))))
    ∷ if_paged (always (codes "max-duration-dp-init") (Named tables.Durations (fields.Cmis cmis.MaxDurationDPInit)))
    ∷ if_paged (always (codes "max-duration-dp-deinit") (Named tables.Durations (fields.Cmis cmis.MaxDurationDPDeinit)))
    ∷ unless (is_cmis_3 ∷ []) (if_paged (always (codes "max-duration-dp-tx-turn-on") (Named tables.Durations (fields.Cmis cmis.MaxDurationDPTxTurnOn))))
    ∷ unless (is_cmis_3 ∷ []) (if_paged (always (codes "max-duration-dp-tx-turn-off") (Named tables.Durations (fields.Cmis cmis.MaxDurationDPTxTurnOff))))
    ∷ []

-- which controls and flags it has
unfoldable pub controls_rows : List Row
controls_rows =
    if_paged (always (codes "tunable") (Yes (fields.Cmis cmis.LaserControls)))
    ∷ if_paged (of_value 2 (always (codes "wavelength-control") (Yes (fields.Cmis cmis.LaserControls))))
    ∷ if_paged (always (codes "tx-squelch") (Named tables.SquelchMethods (fields.Cmis cmis.TxSquelchMethod)))
    ∷ if_paged (always (codes "tx-polarity-flip") (Yes (fields.Cmis cmis.TxControls)))
    ∷ if_paged (of_value 2 (always (codes "tx-disable-control") (Yes (fields.Cmis cmis.TxControls))))
    ∷ if_paged (of_value 3 (always (codes "tx-squelch-disable") (Yes (fields.Cmis cmis.TxControls))))
    ∷ if_paged (of_value 4 (always (codes "tx-forced-squelch") (Yes (fields.Cmis cmis.TxControls))))
    ∷ if_paged (always (codes "rx-polarity-flip") (Yes (fields.Cmis cmis.RxControls)))
    ∷ if_paged (of_value 2 (always (codes "rx-disable-control") (Yes (fields.Cmis cmis.RxControls))))
    ∷ if_paged (of_value 3 (always (codes "rx-squelch-disable") (Yes (fields.Cmis cmis.RxControls))))
    ∷ if_paged (always (codes "tx-fault-flag") (Yes (fields.Cmis cmis.TxFlags)))
    ∷ if_paged (of_value 2 (always (codes "tx-los-flag") (Yes (fields.Cmis cmis.TxFlags))))
    ∷ if_paged (of_value 3 (always (codes "tx-lol-flag") (Yes (fields.Cmis cmis.TxFlags))))
    ∷ if_paged (of_value 4 (always (codes "tx-eq-fail-flag") (Yes (fields.Cmis cmis.TxFlags))))
    ∷ if_paged (always (codes "rx-los-flag") (Yes (fields.Cmis cmis.RxFlags)))
    ∷ if_paged (of_value 2 (always (codes "rx-lol-flag") (Yes (fields.Cmis cmis.RxFlags))))
    ∷ if_paged (always (codes "tx-cdr") (Yes (fields.Cmis cmis.TxSignalControls)))
    ∷ if_paged (of_value 2 (always (codes "tx-cdr-control") (Yes (fields.Cmis cmis.TxSignalControls))))
    ∷ if_paged (of_value 3 (always (codes "tx-eq-fixed") (Yes (fields.Cmis cmis.TxSignalControls))))
    ∷ if_paged (of_value 4 (always (codes "tx-eq-adaptive") (Yes (fields.Cmis cmis.TxSignalControls))))
    ∷ if_paged (of_value 5 (always (codes "tx-eq-freeze") (Yes (fields.Cmis cmis.TxSignalControls))))
    ∷ if_paged (always (codes "rx-cdr") (Yes (fields.Cmis cmis.RxSignalControls)))
    ∷ if_paged (of_value 2 (always (codes "rx-cdr-control") (Yes (fields.Cmis cmis.RxSignalControls))))
    ∷ if_paged (of_value 3 (always (codes "rx-amplitude-control") (Yes (fields.Cmis cmis.RxSignalControls))))
    ∷ if_paged (always (codes "rx-eq-control") (Named tables.OutputEqualizers (fields.Cmis cmis.RxEqControl)))
    ∷ []

-- how it is
unfoldable pub status_rows : List Row
status_rows =
    always (codes "state") (ModuleState (fields.Cmis cmis.ModuleState))
    ∷ unless (Outside (fields.Cmis cmis.ModuleState) 1 5 5 ∷ is_cmis_3 ∷ []) (always (codes "fault-cause") (Named tables.ModuleFaults (fields.Cmis cmis.FaultCause)))
    ∷ always (codes "low-power-allow-hw") (Yes (fields.Cmis cmis.LowPwrAllowHW))
    ∷ always (codes "low-power-request-sw") (Yes (fields.Cmis cmis.LowPwrRequestSW))
    ∷ always (codes "software-reset") (Yes (fields.Cmis cmis.SoftwareReset))
    ∷ unless (Within (fields.Cmis cmis.ModuleMonitors) 1 0 0 ∷ []) (if_paged (always (codes "temperature") (Amount (fields.Cmis cmis.Temperature) None)))
    ∷ unless (Within (fields.Cmis cmis.ModuleMonitors) 2 0 0 ∷ []) (if_paged (always (codes "vcc") (Amount (fields.Cmis cmis.Vcc) None)))
    ∷ unless (Within (fields.Cmis cmis.ModuleMonitors) 3 0 0 ∷ Within (fields.Cmis cmis.AuxKinds) 1 0 0 ∷ []) (if_paged (always (codes "aux-1-tec-current") (Percent (fields.Cmis cmis.Aux1))))
    ∷ unless (Within (fields.Cmis cmis.ModuleMonitors) 4 0 0 ∷ Within (fields.Cmis cmis.AuxKinds) 2 0 0 ∷ []) (if_paged (always (codes "aux-2-tec-current") (Percent (fields.Cmis cmis.Aux2))))
    ∷ unless (Within (fields.Cmis cmis.ModuleMonitors) 4 0 0 ∷ Within (fields.Cmis cmis.AuxKinds) 2 1 1 ∷ []) (if_paged (always (codes "aux-2-laser-temperature") (Temperature (fields.Cmis cmis.Aux2))))
    ∷ unless (Within (fields.Cmis cmis.ModuleMonitors) 5 0 0 ∷ Within (fields.Cmis cmis.AuxKinds) 3 1 1 ∷ []) (if_paged (always (codes "aux-3-laser-temperature") (Temperature (fields.Cmis cmis.Aux3))))
    ∷ unless (Within (fields.Cmis cmis.ModuleMonitors) 5 0 0 ∷ Within (fields.Cmis cmis.AuxKinds) 3 0 0 ∷ []) (if_paged (always (codes "aux-3-vcc") (Steps (fields.Cmis cmis.Aux3) 100 units.Millivolt)))
    ∷ []

-- how its lanes are
unfoldable pub lanes_rows : List Row
lanes_rows =
    if_paged (of_lanes 8 (always (codes "path-state") (PathState (fields.Cmis cmis.PathStates))))
    ∷ if_paged (of_lanes 8 (always (codes "config-status") (ConfigStatus (fields.Cmis cmis.ConfigStatus))))
    ∷ if_paged (of_lanes 8 (always (codes "application") (Number (fields.Cmis cmis.ActiveAppSel) 0)))
    ∷ if_paged (of_lanes 8 (always (codes "path-from") (FirstLane (fields.Cmis cmis.ActiveAppSel) (fields.Cmis cmis.ActivePathId))))
    ∷ unless (is_cmis_3 ∷ []) (if_paged (of_lanes 8 (always (codes "tx-output") (Yes (fields.Cmis cmis.TxOutputStatus)))))
    ∷ unless (is_cmis_3 ∷ []) (if_paged (of_lanes 8 (always (codes "rx-output") (Yes (fields.Cmis cmis.RxOutputStatus)))))
    ∷ unless (Within (fields.Cmis cmis.TxPowerMonitor) 1 0 0 ∷ []) (if_paged (of_lanes 8 (always (codes "tx-power") (Level (fields.Cmis cmis.TxPower)))))
    ∷ unless (Within (fields.Cmis cmis.TxPowerMonitor) 1 0 0 ∷ []) (if_paged (of_lanes 8 (always (codes "tx-power-mw") (Milliwatts (fields.Cmis cmis.TxPower)))))
    ∷ unless (Within (fields.Cmis cmis.TxBiasMonitor) 1 0 0 ∷ Within (fields.Cmis cmis.BiasMultiplier) 1 3 3 ∷ []) (if_paged (of_lanes 8 (always (codes "tx-bias") (Amount (fields.Cmis cmis.TxBias) (Some (fields.Cmis cmis.BiasMultiplier))))))
    ∷ unless (Within (fields.Cmis cmis.RxPowerMonitor) 1 0 0 ∷ []) (if_paged (of_lanes 8 (always (codes "rx-power") (Level (fields.Cmis cmis.RxPower)))))
    ∷ unless (Within (fields.Cmis cmis.RxPowerMonitor) 1 0 0 ∷ []) (if_paged (of_lanes 8 (always (codes "rx-power-mw") (Milliwatts (fields.Cmis cmis.RxPower)))))
    ∷ []

-- all of them
abbrev pub tables_of_rows : List (List Row)
tables_of_rows = identity_rows ∷ characteristics_rows ∷ controls_rows ∷ status_rows ∷ lanes_rows ∷ []
