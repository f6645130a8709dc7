-- Kept paths that a module has not in its Active Control Set. Provisioning leaves their lanes alone, so it can't end in success.
-- (docs/bus.md, "Kept lanes"; docs/formats.md, "Standard error"; this project's own)
use Rattle.std.specs.Prelude.{ℕ, Bool, ◌-◌, ◌==◌, not, find, slice_index, List, ◌++◌, codes, Option}
use Rattle.std.specs.Fmt.{decimal}
use Rattle.std.specs.List.{list_all, range_with_len}
use Rattle.applications.specs.Advertised.{Advertised}
use Rattle.plan_certificate.specs.declared.path.Path.{Path}
use Rattle.plan_certificate.specs.Paths.{app_of}
use Rattle.control_sets.specs.ControlBytes.{control_bytes}

-- a host lane has the same byte in both
abbrev pub is_same_at : List ℕ → List ℕ → ℕ → Bool
is_same_at control active lane = slice_index control (lane - 1) == slice_index active (lane - 1)

-- each host lane of a path has
unfoldable pub is_in_set : Advertised → List ℕ → List ℕ → Path → Bool
is_in_set advert control active path = list_all (is_same_at control active) (range_with_len path.host (app_of advert path).host_lanes)

-- the first kept path of which a lane has not the control byte that the path asks for
abbrev pub first_inactive : Advertised → List Path → List ℕ → Option Path
first_inactive advert kept active = find (λ path. not (is_in_set advert (control_bytes advert kept) active path)) kept

-- what is said of it
unfoldable pub inactive_text : Path → List ℕ
inactive_text path =
    codes "cmisctl: keep " ++ decimal path.app ++ codes " " ++ decimal path.host ++ codes " " ++ decimal path.media
    ++ codes ": this data path is not in the Active Control Set of the image, so provisioning takes down lanes that are up and then ends in a fault: keep only data paths that are active (docs/bus.md)\n"
