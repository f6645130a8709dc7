-- What a module advertises: its Applications, and the media lanes that it does not support; and what its Active Control Set has.
-- (docs/fields.md, "Applications"; OIF-CMIS-05.0, chapter 8 "Module Management Memory Map", "Applications Advertising" and "Media
-- Lane Information". Whether a module pairs first lanes is in no register, so that it is taken to do so is this project's own; so is
-- that lane counts of 0 are only taken as implied, and the Active Control Set only looked at, if that is asked for)
use Rattle.std.specs.Prelude.{◌≡◌, ℕ, Bool, false, if◌then◌else◌, List, length, map}
use Rattle.std.specs.List.{range_with_len}
use Rattle.paged_memory.specs.Images.{Memory}
use Rattle.field_tables.specs.declared.field.Field.TheVariants as fields
use Rattle.field_tables.specs.declared.table.cmis.CmisField.TheVariants as cmis
use Rattle.field_tables.specs.LaneSets.{Lanes, lanes_in}
use Rattle.field_tables.specs.Readings.{number}
use Rattle.applications.specs.declared.active.ActiveSet.{ActiveSet}
use Rattle.applications.specs.declared.app.App.{App}
use Rattle.applications.specs.declared.conventions.Conventions.{Conventions}
use Rattle.applications.specs.ActiveSets.{active_in, nothing_active}
use Rattle.applications.specs.CountsById.{counted}
use Rattle.applications.specs.Descriptors.{apps_of}

pub record Advertised : Type 0 where
  pub apps : List App
  pub unsupported : Lanes
  -- whether a path's first host lane and first media lane have the same place among the Application's first lanes
  pub paired : Bool
  -- what the Active Control Set has, if that is asked for, else nothing
  pub active : ActiveSet

-- the Applications are numbered 1, 2, 3 and so on
abbrev pub InOrder : List App → Type 0
InOrder apps = map (λ (app : App). app.number) apps ≡ range_with_len 1 (length apps)

abbrev pub advertised_by : Memory → Advertised
advertised_by memory = record { apps = apps_of memory; unsupported = lanes_in (number memory (fields.Cmis cmis.UnsupportedMedia)); paired = false; active = nothing_active }

-- the same of a module that pairs first lanes, or does not
abbrev pub with_pairing : Bool → Advertised → Advertised
with_pairing paired advert = record advert { paired = paired }

-- the same with the lane counts that the interface IDs imply where an Application's own are 0, of a module of this media type
abbrev pub with_counts_by_id : ℕ → Advertised → Advertised
with_counts_by_id media_type advert = record advert { apps = map (counted media_type) advert.apps }

-- the same, or what is advertised as it stands
abbrev pub with_counts : Bool → ℕ → Advertised → Advertised
with_counts by_id media_type advert = if by_id then with_counts_by_id media_type advert else advert

-- what the module advertises to a host that reads it by these conventions
abbrev pub advertised_under : Conventions → Memory → Advertised
advertised_under conventions memory =
    record (with_pairing conventions.paired (with_counts conventions.counts_by_id (number memory (fields.Cmis cmis.MediaType)) (advertised_by memory))) {
      active = if conventions.now then active_in memory else nothing_active;
    }
