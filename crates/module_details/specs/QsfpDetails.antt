-- What a module of SFF-8636 says of itself. (SFF-8636, "Lower Page 00h" and "Upper Page 00h")
use Rattle.std.specs.Prelude.{[], ◌∷◌, List, codes, None}
use Rattle.code_names.specs.declared.table.Table.TheVariants as tables
use Rattle.field_tables.specs.declared.field.Field.TheVariants as fields
use Rattle.field_tables.specs.declared.table.sff8636.Sff8636Field.TheVariants as sff8636
use Rattle.field_tables.specs.declared.field.TextField.TheVariants as texts
use Rattle.field_tables.specs.declared.field.SffText.TheVariants as sff_texts
use Rattle.report_entries.specs.declared.printed_unit.PrintedUnit.TheVariants as units
use Rattle.module_details.specs.declared.item.Case.TheVariants.{LacksSince, Outside, Within}
use Rattle.module_details.specs.Rows.{Row, Amount, BitRate, ClassPower, Either, Level, Milliwatts, Named, Names, Oui, PairIfAny, PowerClass, StepsIfAny, Text, Word, Yes, always, of_lanes, of_value, unless}

-- what it is
unfoldable pub identity_rows : List Row
identity_rows =
    always (codes "family") (Word (codes "SFF-8636"))
    ∷ always (codes "identifier") (Named tables.Identifiers (fields.Sff8636 sff8636.Identifier))
    ∷ always (codes "revision") (Named tables.Sff8636Revisions (fields.Sff8636 sff8636.Revision))
    ∷ always (codes "memory") (Either (fields.Sff8636 sff8636.FlatMemory) (codes "flat") (codes "paged"))
    ∷ always (codes "connector") (Named tables.Connectors (fields.Sff8636 sff8636.Connector))
    ∷ always (codes "vendor") (Text (texts.Sff8636 sff_texts.Vendor))
    ∷ always (codes "oui") (Oui (fields.Sff8636 sff8636.Oui))
    ∷ always (codes "part") (Text (texts.Sff8636 sff_texts.Part))
    ∷ always (codes "part-revision") (Text (texts.Sff8636 sff_texts.PartRevision))
    ∷ always (codes "serial") (Text (texts.Sff8636 sff_texts.Serial))
    ∷ always (codes "date") (Text (texts.Sff8636 sff_texts.Date))
    ∷ always (codes "power-class") PowerClass
    ∷ always (codes "max-power") ClassPower
    ∷ always (codes "encoding") (Named tables.Sff8636Encodings (fields.Sff8636 sff8636.Encoding))
    ∷ always (codes "bit-rate") (BitRate (fields.Sff8636 sff8636.BitRate) (fields.Sff8636 sff8636.BitRateMore))
    ∷ always (codes "rate-select-type") (Named tables.Sff8636RateSelects (fields.Sff8636 sff8636.RateSelectType))
    ∷ always (codes "length-smf") (StepsIfAny (fields.Sff8636 sff8636.Lengths) 1000 units.Kilometre)
    ∷ of_value 2 (always (codes "length-om3") (StepsIfAny (fields.Sff8636 sff8636.Lengths) 2000 units.Metre))
    ∷ of_value 3 (always (codes "length-om2") (StepsIfAny (fields.Sff8636 sff8636.Lengths) 1000 units.Metre))
    ∷ of_value 4 (always (codes "length-om1") (StepsIfAny (fields.Sff8636 sff8636.Lengths) 1000 units.Metre))
    ∷ unless (Within (fields.Sff8636 sff8636.Technology) 1 0 0 ∷ []) (of_value 5 (always (codes "length") (StepsIfAny (fields.Sff8636 sff8636.Lengths) 1000 units.Metre)))
    ∷ unless (Outside (fields.Sff8636 sff8636.Technology) 1 0 0 ∷ []) (of_value 5 (always (codes "length-om4") (StepsIfAny (fields.Sff8636 sff8636.Lengths) 2000 units.Metre)))
    ∷ always (codes "technology") (Named tables.MediaTechnologies (fields.Sff8636 sff8636.Technology))
    ∷ unless (Within (fields.Sff8636 sff8636.Technology) 1 10 15 ∷ []) (always (codes "wavelength") (PairIfAny (fields.Sff8636 sff8636.WavelengthOrAttenuation) 50 units.Nanometre))
    ∷ unless (Within (fields.Sff8636 sff8636.Technology) 1 10 15 ∷ []) (of_value 3 (always (codes "wavelength-tolerance") (PairIfAny (fields.Sff8636 sff8636.WavelengthOrAttenuation) 5 units.Nanometre)))
    ∷ unless (Outside (fields.Sff8636 sff8636.Technology) 1 10 15 ∷ []) (always (codes "attenuation-at-2500-mhz") (StepsIfAny (fields.Sff8636 sff8636.WavelengthOrAttenuation) 1000 units.Decibel))
    ∷ unless (Outside (fields.Sff8636 sff8636.Technology) 1 10 15 ∷ []) (of_value 2 (always (codes "attenuation-at-5000-mhz") (StepsIfAny (fields.Sff8636 sff8636.WavelengthOrAttenuation) 1000 units.Decibel)))
    ∷ unless (Outside (fields.Sff8636 sff8636.Technology) 1 10 15 ∷ []) (of_value 3 (always (codes "attenuation-at-7000-mhz") (StepsIfAny (fields.Sff8636 sff8636.WavelengthOrAttenuation) 1000 units.Decibel)))
    ∷ unless (Outside (fields.Sff8636 sff8636.Technology) 1 10 15 ∷ []) (of_value 4 (always (codes "attenuation-at-12900-mhz") (StepsIfAny (fields.Sff8636 sff8636.WavelengthOrAttenuation) 1000 units.Decibel)))
    ∷ always (codes "case-temperature-max") (StepsIfAny (fields.Sff8636 sff8636.TempMax) 1000 units.Celsius)
    ∷ []

-- which specifications it complies with
unfoldable pub compliance_rows : List Row
compliance_rows =
    always (codes "ethernet") (Names tables.Sff8636Compliance (fields.Sff8636 sff8636.Ethernet) 0)
    ∷ always (codes "sonet") (Names tables.Sff8636Compliance (fields.Sff8636 sff8636.Sonet) 8)
    ∷ always (codes "sas") (Names tables.Sff8636Compliance (fields.Sff8636 sff8636.Sas) 16)
    ∷ always (codes "gigabit-ethernet") (Names tables.Sff8636Compliance (fields.Sff8636 sff8636.GigabitEthernet) 24)
    ∷ always (codes "fc-length") (Names tables.Sff8636Compliance (fields.Sff8636 sff8636.FcLength) 32)
    ∷ always (codes "fc-technology") (Names tables.Sff8636Compliance (fields.Sff8636 sff8636.FcTechnology) 40)
    ∷ always (codes "fc-media") (Names tables.Sff8636Compliance (fields.Sff8636 sff8636.FcMedia) 48)
    ∷ always (codes "fc-speed") (Names tables.Sff8636Compliance (fields.Sff8636 sff8636.FcSpeed) 56)
    ∷ always (codes "infiniband") (Names tables.InfinibandSpeeds (fields.Sff8636 sff8636.Infiniband) 0)
    ∷ always (codes "extended-compliance") (Named tables.ExtendedCompliance (fields.Sff8636 sff8636.ExtendedCompliance))
    ∷ []

-- which controls and flags it has
unfoldable pub options_rows : List Row
options_rows =
    always (codes "tunable") (Yes (fields.Sff8636 sff8636.Transmitter))
    ∷ of_value 2 (always (codes "detector") (Either (fields.Sff8636 sff8636.Transmitter) (codes "APD") (codes "PIN")))
    ∷ of_value 3 (always (codes "cooled") (Yes (fields.Sff8636 sff8636.Transmitter)))
    ∷ of_value 4 (always (codes "wavelength-control") (Yes (fields.Sff8636 sff8636.Transmitter)))
    ∷ always (codes "tx-cdr") (Yes (fields.Sff8636 sff8636.TxCdr))
    ∷ always (codes "rx-cdr") (Yes (fields.Sff8636 sff8636.RxCdr))
    ∷ always (codes "clei-present") (Yes (fields.Sff8636 sff8636.CleiPresent))
    ∷ always (codes "rx-amplitude-control") (Yes (fields.Sff8636 sff8636.Equalizers))
    ∷ of_value 2 (always (codes "rx-emphasis-control") (Yes (fields.Sff8636 sff8636.Equalizers)))
    ∷ of_value 3 (always (codes "tx-eq-fixed") (Yes (fields.Sff8636 sff8636.Equalizers)))
    ∷ of_value 4 (always (codes "tx-eq-adaptive") (Yes (fields.Sff8636 sff8636.Equalizers)))
    ∷ of_value 5 (always (codes "tx-eq-freeze") (Yes (fields.Sff8636 sff8636.Equalizers)))
    ∷ unless (Within (fields.Sff8636 sff8636.Options) 1 0 0 ∷ []) (of_value 2 (always (codes "tx-squelch-method") (Either (fields.Sff8636 sff8636.OptionsMore) (codes "average power") (codes "OMA"))))
    ∷ of_value 2 (always (codes "tx-squelch-disable") (Yes (fields.Sff8636 sff8636.Options)))
    ∷ of_value 3 (always (codes "rx-disable-control") (Yes (fields.Sff8636 sff8636.Options)))
    ∷ of_value 4 (always (codes "rx-squelch-disable") (Yes (fields.Sff8636 sff8636.Options)))
    ∷ of_value 5 (always (codes "rx-lol-flag") (Yes (fields.Sff8636 sff8636.Options)))
    ∷ of_value 6 (always (codes "tx-lol-flag") (Yes (fields.Sff8636 sff8636.Options)))
    ∷ of_value 7 (always (codes "rx-cdr-control") (Yes (fields.Sff8636 sff8636.Options)))
    ∷ of_value 8 (always (codes "tx-cdr-control") (Yes (fields.Sff8636 sff8636.Options)))
    ∷ always (codes "tx-los-flag") (Yes (fields.Sff8636 sff8636.OptionsMore))
    ∷ of_value 3 (always (codes "tx-fault-flag") (Yes (fields.Sff8636 sff8636.OptionsMore)))
    ∷ of_value 4 (always (codes "tx-disable-control") (Yes (fields.Sff8636 sff8636.OptionsMore)))
    ∷ of_value 5 (always (codes "rate-select") (Yes (fields.Sff8636 sff8636.OptionsMore)))
    ∷ of_value 6 (always (codes "page-01h") (Yes (fields.Sff8636 sff8636.OptionsMore)))
    ∷ of_value 7 (always (codes "page-02h") (Yes (fields.Sff8636 sff8636.OptionsMore)))
    ∷ always (codes "application-select") (Yes (fields.Sff8636 sff8636.EnhancedOptions))
    ∷ of_value 2 (always (codes "rate-select-extended") (Yes (fields.Sff8636 sff8636.EnhancedOptions)))
    ∷ of_value 3 (always (codes "initialization-flag") (Yes (fields.Sff8636 sff8636.EnhancedOptions)))
    ∷ of_value 2 (always (codes "rx-power-type") (Either (fields.Sff8636 sff8636.Monitors) (codes "average") (codes "OMA")))
    ∷ []

-- how it is
unfoldable pub status_rows : List Row
status_rows =
    always (codes "data-not-ready") (Yes (fields.Sff8636 sff8636.DataNotReady))
    ∷ always (codes "software-reset") (Yes (fields.Sff8636 sff8636.SoftwareReset))
    ∷ always (codes "power-override") (Yes (fields.Sff8636 sff8636.PowerControls))
    ∷ of_value 2 (always (codes "power-set") (Yes (fields.Sff8636 sff8636.PowerControls)))
    ∷ of_value 3 (always (codes "power-classes-5-to-7-enabled") (Yes (fields.Sff8636 sff8636.PowerControls)))
    ∷ of_value 4 (always (codes "power-class-8-enabled") (Yes (fields.Sff8636 sff8636.PowerControls)))
    ∷ unless (LacksSince (fields.Sff8636 sff8636.Monitors) 4 (fields.Sff8636 sff8636.Revision) 8 ∷ Within (fields.Sff8636 sff8636.Technology) 1 10 11 ∷ []) (always (codes "temperature") (Amount (fields.Sff8636 sff8636.Temperature) None))
    ∷ unless (LacksSince (fields.Sff8636 sff8636.Monitors) 3 (fields.Sff8636 sff8636.Revision) 8 ∷ Within (fields.Sff8636 sff8636.Technology) 1 10 11 ∷ []) (always (codes "vcc") (Amount (fields.Sff8636 sff8636.Vcc) None))
    ∷ of_lanes 4 (always (codes "tx-disabled") (Yes (fields.Sff8636 sff8636.TxDisable)))
    ∷ unless (Within (fields.Sff8636 sff8636.TxCdr) 1 0 0 ∷ []) (of_lanes 4 (always (codes "tx-cdr-on") (Yes (fields.Sff8636 sff8636.TxCdrOn))))
    ∷ unless (Within (fields.Sff8636 sff8636.RxCdr) 1 0 0 ∷ []) (of_lanes 4 (always (codes "rx-cdr-on") (Yes (fields.Sff8636 sff8636.RxCdrOn))))
    ∷ unless (Within (fields.Sff8636 sff8636.Monitors) 1 0 0 ∷ []) (of_lanes 4 (always (codes "tx-power") (Level (fields.Sff8636 sff8636.TxPower))))
    ∷ unless (Within (fields.Sff8636 sff8636.Monitors) 1 0 0 ∷ []) (of_lanes 4 (always (codes "tx-power-mw") (Milliwatts (fields.Sff8636 sff8636.TxPower))))
    ∷ unless (Within (fields.Sff8636 sff8636.Technology) 1 10 11 ∷ []) (of_lanes 4 (always (codes "tx-bias") (Amount (fields.Sff8636 sff8636.TxBias) None)))
    ∷ unless (Within (fields.Sff8636 sff8636.Technology) 1 10 11 ∷ []) (of_lanes 4 (always (codes "rx-power") (Level (fields.Sff8636 sff8636.RxPower))))
    ∷ unless (Within (fields.Sff8636 sff8636.Technology) 1 10 11 ∷ []) (of_lanes 4 (always (codes "rx-power-mw") (Milliwatts (fields.Sff8636 sff8636.RxPower))))
    ∷ []

-- all of them
abbrev pub tables_of_rows : List (List Row)
tables_of_rows = identity_rows ∷ compliance_rows ∷ options_rows ∷ status_rows ∷ []
