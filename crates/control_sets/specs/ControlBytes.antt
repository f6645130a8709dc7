-- The control byte of a host lane, and those of a plan. (docs/planning.md, "Control bytes"; OIF-CMIS-05.0, chapter 8
-- "Module Management Memory Map", "Data Path Configuration", DPConfigLane of Staged Control Set 0)
use Rattle.std.specs.Prelude.{◌≡◌, ℕ, ◌+◌, ◌-◌, ◌*◌, List, Option, Some, None, find, map}
use Rattle.std.specs.List.{range_with_len}
use Rattle.std.specs.FinSet as set
use Rattle.field_tables.specs.declared.field.Field.TheVariants as fields
use Rattle.field_tables.specs.declared.table.cmis.CmisField.TheVariants as cmis
use Rattle.field_tables.specs.FieldValues.{number_in_byte}
use Rattle.applications.specs.Advertised.{Advertised}
use Rattle.plan_certificate.specs.declared.path.Path.{Path}
use Rattle.plan_certificate.specs.Paths.{host_lanes}
use Rattle.control_sets.specs.declared.control_byte.ControlByte.{ControlByte}

-- AppSelCode and DataPathID, in a control set of either kind; ExplicitControl is not looked at
abbrev pub control_of : ℕ → ControlByte
control_of byte = record { app_sel_code = number_in_byte (fields.Cmis cmis.StagedAppSel) byte; data_path_id = number_in_byte (fields.Cmis cmis.StagedPathId) byte }

-- the bits of a control byte of the Active Control Set are those of a staged one
abbrev pub IsOfEitherSet : ℕ → Type 0
IsOfEitherSet byte =
    (number_in_byte (fields.Cmis cmis.ActiveAppSel) byte ≡ (control_of byte).app_sel_code)
    × (number_in_byte (fields.Cmis cmis.ActivePathId) byte ≡ (control_of byte).data_path_id)
    × (number_in_byte (fields.Cmis cmis.ActiveExplicit) byte ≡ number_in_byte (fields.Cmis cmis.StagedExplicit) byte)

-- the byte that says this, ExplicitControl 0
abbrev pub byte_saying : ControlByte → ℕ
byte_saying control = 16 * control.app_sel_code + 2 * control.data_path_id

-- what the lanes of a path are told
abbrev pub control_in : Path → ControlByte
control_in path = record { app_sel_code = path.app; data_path_id = path.host - 1 }

-- the path that takes a host lane
abbrev pub path_on : Advertised → List Path → ℕ → Option Path
path_on advert paths lane = find (λ path. set.contains (host_lanes advert path) lane) paths

-- 0 for a lane in no path
abbrev pub byte_on : Option Path → ℕ
byte_on (Some path) = byte_saying (control_in path)
byte_on None = 0

unfoldable pub control_byte : Advertised → List Path → ℕ → ℕ
control_byte advert paths lane = byte_on (path_on advert paths lane)

-- those of host lanes 1 to 8
unfoldable pub control_bytes : Advertised → List Path → List ℕ
control_bytes advert paths = map (control_byte advert paths) (range_with_len 1 8)
