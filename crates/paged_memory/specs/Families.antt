-- The families of modules, which their identifiers tell. (docs/formats.md, "Modules that are read"; SFF-8024, "Identifier
-- Values")
use Rattle.std.specs.Prelude.{ℕ, ◌==◌, ◌&&◌, ◌||◌, nat_le, Bool, true, false, Option, Some, None, if◌then◌else◌}
use Rattle.paged_memory.specs.declared.family.Family.{Family}
use Rattle.paged_memory.specs.declared.family.Family.TheVariants as families

-- QSFP-DD, OSFP, and QSFP+ or later with CMIS
abbrev is_reported_cmis : ℕ → Bool
is_reported_cmis identifier = identifier == 0x18 || identifier == 0x19 || identifier == 0x1E

-- DSFP; SFP-DD, SFP+ and later, OSFP-XD, OIF-ELSFP and CDFP, each with CMIS: their details alone are told
abbrev pub is_other_cmis : ℕ → Bool
is_other_cmis identifier = identifier == 0x1B || (nat_le 0x1F identifier && nat_le identifier 0x25)

-- by whose standard a module with this identifier is managed, if it is one of these: SFF-8636 has QSFP, QSFP+ and QSFP28; SFF-8472 SFP
unfoldable pub managed_by : ℕ → Option Family
managed_by identifier =
    if is_reported_cmis identifier || is_other_cmis identifier then Some families.Cmis
    else if identifier == 0x0C || identifier == 0x0D || identifier == 0x11 then Some families.Sff8636
    else if identifier == 0x03 then Some families.Sff8472
    else None

-- the same, if plans and all reports may speak of the module
unfoldable pub family_by : ℕ → Option Family
family_by identifier = if is_other_cmis identifier then None else managed_by identifier

abbrev pub is_family : Family → Option Family → Bool
is_family families.Cmis (Some families.Cmis) = true
is_family families.Sff8636 (Some families.Sff8636) = true
is_family families.Sff8472 (Some families.Sff8472) = true
is_family family other = false

-- a module with this identifier is of the family
abbrev pub is_of : Family → ℕ → Bool
is_of family identifier = is_family family (family_by identifier)
