-- What a module advertises, as C sees it. (docs/firmware.md, "Applications"; this project's own)
use Rattle.std.specs.Prelude.{ℕ, List, Option, Some, None, length, map, slice_get}
use Rattle.std.specs.List.{range_with_len}
use Rattle.field_tables.specs.LaneSets.{byte_of}
use Rattle.applications.specs.Advertised.{Advertised}
use Rattle.applications.specs.declared.app.App.{App}
use Rattle.firmware_api.specs.declared.advertisement.Advertisement.{Advertisement}
use Rattle.firmware_api.specs.declared.advertisement.Application.{Application}

abbrev pub application_of : App → Application
application_of app = record {
  number = app.number;
  host_id = app.host_id;
  media_id = app.media_id;
  host_lanes = app.host_lanes;
  media_lanes = app.media_lanes;
  host_starts = byte_of app.host_starts;
  media_starts = byte_of app.media_starts;
}

-- what stands after the last Application
abbrev pub no_application : Application
no_application = record {
  number = 0;
  host_id = 0;
  media_id = 0;
  host_lanes = 0;
  media_lanes = 0;
  host_starts = 0;
  media_starts = 0;
}

abbrev pub application_in : Option App → Application
application_in (Some app) = application_of app
application_in None = no_application

-- the one before which so many stand
abbrev pub application_at : List App → ℕ → Application
application_at apps place = application_in (slice_get apps place)

-- AppSelCodes are 1 to 15
unfoldable pub applications_of : List App → List Application
applications_of apps = map (application_at apps) (range_with_len 0 15)

abbrev pub advertisement_of : Advertised → Advertisement
advertisement_of advert = record {
  count = length advert.apps;
  unsupported = byte_of advert.unsupported;
  applications = applications_of advert.apps;
}
