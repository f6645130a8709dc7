-- The memory map of SFF-8472: the row of each field. (docs/fields.md, "Fields"; SFF-8472, "Memory Organization")
use Rattle.field_tables.specs.declared.table.sff8472.Sff8472Field.{Sff8472Field}
use Rattle.field_tables.specs.declared.table.sff8472.Sff8472Field.TheVariants as fields
use Rattle.field_tables.specs.RowLines.{Some, None, A0, A2, Lower, Single, Every, Bits, Down, Byte, Word, Range, Row, Unsigned, Signed, Temperature, Voltage, OpticalPower, Bias, line}

-- device, half and page, offset, bits, layout, number of values, sign, unit
abbrev pub row_of : Sff8472Field → Row
row_of fields.Identifier = line A0 Lower 0x00 0 Byte Single 1 Unsigned None
row_of fields.ExtendedIdentifier = line A0 Lower 0x00 1 Byte Single 1 Unsigned None
row_of fields.Connector = line A0 Lower 0x00 2 Byte Single 1 Unsigned None
row_of fields.TenGigabitEthernet = line A0 Lower 0x00 3 (Range 0 0) Bits 8 Unsigned None
row_of fields.Sonet = line A0 Lower 0x00 4 (Range 0 0) Bits 8 Unsigned None
row_of fields.SonetMore = line A0 Lower 0x00 5 (Range 0 0) Bits 8 Unsigned None
row_of fields.Ethernet = line A0 Lower 0x00 6 (Range 0 0) Bits 8 Unsigned None
row_of fields.FcLength = line A0 Lower 0x00 7 (Range 0 0) Bits 8 Unsigned None
row_of fields.FcTechnology = line A0 Lower 0x00 8 (Range 0 0) Bits 8 Unsigned None
row_of fields.FcMedia = line A0 Lower 0x00 9 (Range 0 0) Bits 8 Unsigned None
row_of fields.FcSpeed = line A0 Lower 0x00 10 (Range 0 0) Bits 8 Unsigned None
row_of fields.Encoding = line A0 Lower 0x00 11 Byte Single 1 Unsigned None
row_of fields.BitRate = line A0 Lower 0x00 12 Byte Single 1 Unsigned None
row_of fields.RateSelectType = line A0 Lower 0x00 13 Byte Single 1 Unsigned None
row_of fields.Lengths = line A0 Lower 0x00 14 Byte (Every 1) 6 Unsigned None
row_of fields.ExtendedCompliance = line A0 Lower 0x00 36 Byte Single 1 Unsigned None
row_of fields.Oui = line A0 Lower 0x00 37 Byte (Every 1) 3 Unsigned None
row_of fields.WavelengthOrCable = line A0 Lower 0x00 60 Byte (Every 1) 2 Unsigned None
row_of fields.FcSpeedMore = line A0 Lower 0x00 62 (Range 0 0) Bits 8 Unsigned None
row_of fields.Options = line A0 Lower 0x00 64 (Range 0 0) Bits 6 Unsigned None
row_of fields.OptionsMore = line A0 Lower 0x00 65 (Range 1 1) Bits 7 Unsigned None
row_of fields.BitRateMargins = line A0 Lower 0x00 66 Byte (Every 1) 2 Unsigned None
row_of fields.DiagPresent = line A0 Lower 0x00 92 (Range 6 6) Single 1 Unsigned None
row_of fields.Internal = line A0 Lower 0x00 92 (Range 5 5) Single 1 Unsigned None
row_of fields.External = line A0 Lower 0x00 92 (Range 4 4) Single 1 Unsigned None
row_of fields.RxPowerIsAverage = line A0 Lower 0x00 92 (Range 3 3) Single 1 Unsigned None
row_of fields.AddressChange = line A0 Lower 0x00 92 (Range 2 2) Single 1 Unsigned None
row_of fields.EnhancedOptions = line A0 Lower 0x00 93 (Range 1 1) Bits 7 Unsigned None
row_of fields.Revision = line A0 Lower 0x00 94 Byte Single 1 Unsigned None
row_of fields.TempLimits = line A2 Lower 0x00 0 Word (Every 2) 4 Signed (Some Temperature)
row_of fields.VccLimits = line A2 Lower 0x00 8 Word (Every 2) 4 Unsigned (Some Voltage)
row_of fields.TxBiasLimits = line A2 Lower 0x00 16 Word (Every 2) 4 Unsigned (Some Bias)
row_of fields.TxPowerLimits = line A2 Lower 0x00 24 Word (Every 2) 4 Unsigned (Some OpticalPower)
row_of fields.RxPowerLimits = line A2 Lower 0x00 32 Word (Every 2) 4 Unsigned (Some OpticalPower)
row_of fields.RxPowerCoefficients = line A2 Lower 0x00 56 Word (Every 2) 10 Unsigned None
row_of fields.Slopes = line A2 Lower 0x00 76 Word (Every 4) 4 Unsigned None
row_of fields.Offsets = line A2 Lower 0x00 78 Word (Every 4) 4 Signed None
row_of fields.Temperature = line A2 Lower 0x00 96 Word Single 1 Signed (Some Temperature)
row_of fields.Vcc = line A2 Lower 0x00 98 Word Single 1 Unsigned (Some Voltage)
row_of fields.TxBias = line A2 Lower 0x00 100 Word Single 1 Unsigned (Some Bias)
row_of fields.TxPower = line A2 Lower 0x00 102 Word Single 1 Unsigned (Some OpticalPower)
row_of fields.RxPower = line A2 Lower 0x00 104 Word Single 1 Unsigned (Some OpticalPower)
row_of fields.LaserTemperature = line A2 Lower 0x00 106 Word Single 1 Signed (Some Temperature)
row_of fields.TecCurrent = line A2 Lower 0x00 108 Word Single 1 Signed None
row_of fields.Status = line A2 Lower 0x00 110 (Range 3 3) Bits 5 Unsigned None
row_of fields.TxFault = line A2 Lower 0x00 110 (Range 2 2) Single 1 Unsigned None
row_of fields.RxLos = line A2 Lower 0x00 110 (Range 1 1) Single 1 Unsigned None
row_of fields.DataNotReady = line A2 Lower 0x00 110 (Range 0 0) Single 1 Unsigned None
row_of fields.Alarms = line A2 Lower 0x00 112 (Range 7 7) Down 8 Unsigned None
row_of fields.RxAlarms = line A2 Lower 0x00 113 (Range 7 7) Down 2 Unsigned None
row_of fields.Warnings = line A2 Lower 0x00 116 (Range 7 7) Down 8 Unsigned None
row_of fields.RxWarnings = line A2 Lower 0x00 117 (Range 7 7) Down 2 Unsigned None
row_of fields.RateSelect1Set = line A2 Lower 0x00 118 (Range 3 3) Single 1 Unsigned None
row_of fields.PowerLevel = line A2 Lower 0x00 118 (Range 0 0) Bits 2 Unsigned None
