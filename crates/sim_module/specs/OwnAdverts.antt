-- What a simulated module goes by itself, of what it advertises. (docs/module.md, "The start"; OIF-CMIS-05.0, chapter 8 "Module
-- Management Memory Map", "Applications Advertising": a lane count of 0 is implied by the interface ID)
use Rattle.std.specs.Prelude.{true, false}
use Rattle.paged_memory.specs.Images.{Memory}
use Rattle.applications.specs.Advertised.{Advertised, advertised_under}

-- it knows its lane counts, and takes a path's media lanes as they come
abbrev pub own_advert : Memory → Advertised
own_advert memory = advertised_under (record { paired = false; counts_by_id = true; now = false }) memory
