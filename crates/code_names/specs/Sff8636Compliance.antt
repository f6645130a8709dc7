-- Which specifications a module complies with, by the bits of bytes 131 to 138, from bit 0 of byte 131. (SFF-8636,
-- Specification Compliance)
use Rattle.std.specs.Prelude.{List, [], ◌∷◌, codes}
use Rattle.code_names.specs.Rows.{Row, name, reserved_from}

unfoldable pub sff8636_compliance_names : List Row
sff8636_compliance_names =
    name 0x00 (codes "40G active cable (XLPPI)")
    ∷ name 0x01 (codes "40GBASE-LR4")
    ∷ name 0x02 (codes "40GBASE-SR4")
    ∷ name 0x03 (codes "40GBASE-CR4")
    ∷ name 0x04 (codes "10GBASE-SR")
    ∷ name 0x05 (codes "10GBASE-LR")
    ∷ name 0x06 (codes "10GBASE-LRM")
    ∷ name 0x07 (codes "Extended")
    ∷ name 0x08 (codes "OC-48 short reach")
    ∷ name 0x09 (codes "OC-48 intermediate reach")
    ∷ name 0x0A (codes "OC-48 long reach")
    ∷ name 0x0B (codes "40G OTN (OTU3B/OTU3C)")
    ∷ reserved_from 0x0C 0x13
    ∷ name 0x14 (codes "SAS 3.0G")
    ∷ name 0x15 (codes "SAS 6.0G")
    ∷ name 0x16 (codes "SAS 12.0G")
    ∷ name 0x17 (codes "SAS 24.0G")
    ∷ name 0x18 (codes "1000BASE-SX")
    ∷ name 0x19 (codes "1000BASE-LX")
    ∷ name 0x1A (codes "1000BASE-CX")
    ∷ name 0x1B (codes "1000BASE-T")
    ∷ reserved_from 0x1C 0x1F
    ∷ name 0x20 (codes "Electrical inter-enclosure (EL)")
    ∷ name 0x21 (codes "Longwave laser (LC)")
    ∷ reserved_from 0x22 0x22
    ∷ name 0x23 (codes "Medium distance (M)")
    ∷ name 0x24 (codes "Long distance (L)")
    ∷ name 0x25 (codes "Intermediate distance (I)")
    ∷ name 0x26 (codes "Short distance (S)")
    ∷ name 0x27 (codes "Very long distance (V)")
    ∷ reserved_from 0x28 0x2B
    ∷ name 0x2C (codes "Longwave laser (LL)")
    ∷ name 0x2D (codes "Shortwave laser with OFC (SL)")
    ∷ name 0x2E (codes "Shortwave laser without OFC (SN)")
    ∷ name 0x2F (codes "Electrical intra-enclosure (EL)")
    ∷ name 0x30 (codes "Single mode (SM)")
    ∷ name 0x31 (codes "Multimode 50 um (OM3)")
    ∷ name 0x32 (codes "Multimode 50 um (M5)")
    ∷ name 0x33 (codes "Multimode 62.5 um (M6)")
    ∷ name 0x34 (codes "Video coax (TV)")
    ∷ name 0x35 (codes "Miniature coax (MI)")
    ∷ name 0x36 (codes "Twisted pair (TP)")
    ∷ name 0x37 (codes "Twin axial pair (TW)")
    ∷ name 0x38 (codes "100 MBps")
    ∷ name 0x39 (codes "Extended")
    ∷ name 0x3A (codes "200 MBps")
    ∷ name 0x3B (codes "3200 MBps")
    ∷ name 0x3C (codes "400 MBps")
    ∷ name 0x3D (codes "1600 MBps")
    ∷ name 0x3E (codes "800 MBps")
    ∷ name 0x3F (codes "1200 MBps")
    ∷ []
