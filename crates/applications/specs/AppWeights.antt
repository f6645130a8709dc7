-- What data paths weigh: the sum of what weights say of its Application's HostInterfaceID, MediaInterfaceID and number, by which
-- AppSelCode names it, and if the path is among the active ones, of staying. (docs/planning.md, "Data paths" and "What stays";
-- OIF-CMIS-05.0, chapter 8 "Module Management Memory Map", "Applications Advertising"; that these are added is this project's own)
use Rattle.std.specs.Prelude.{◌≡◌, ℕ, ◌+◌, ◌-◌, ◌*◌, ◌≤◌, ◌==◌, ◌&&◌, Bool, false, nat_lt, if◌then◌else◌, List, find, length, map, slice_index, Option}
use Rattle.std.specs.List.{All, range_with_len}
use Rattle.std.specs.Option.{option_map_or}
use Rattle.applications.specs.declared.app.App.{App}
use Rattle.applications.specs.ActiveSets.{is_active}
use Rattle.applications.specs.Advertised.{Advertised}
use Rattle.applications.specs.Weights.{ListedWeights, weight_at}

pub record PathWeights : Type 0 where
  -- of an Application's paths, by its number from 0 to 15
  pub by_app : List ℕ
  -- by host lane, the number of the Application of which an active path begins there, 0 if none does
  pub active : List ℕ
  -- what such a path weighs more
  pub stay : ℕ

pub record ArePathWeights (weights : PathWeights) : Type 0 where
  pub apps : length weights.by_app ≡ 16
  pub light : All (λ weight. weight ≤ 3 * 4294967295) weights.by_app
  pub lanes : length weights.active ≡ 8
  pub stay : weights.stay ≤ 4294967295

-- what staying adds to a path of the Application with this number from a host lane on
abbrev pub stay_at : PathWeights → ℕ → ℕ → ℕ
stay_at weights number host = if nat_lt 0 number && slice_index weights.active (host - 1) == number then weights.stay else 0

-- what such a path weighs
unfoldable pub weight_from : PathWeights → ℕ → ℕ → ℕ
weight_from weights number host = weight_at weights.by_app number + stay_at weights number host

-- the sum of what names the Application
abbrev pub app_weight : ListedWeights → App → ℕ
app_weight weights app =
    weight_at weights.by_host app.host_id + weight_at weights.by_media app.media_id + weight_at weights.by_app app.number

-- the Application with this number
abbrev pub app_with : Advertised → ℕ → Option App
app_with advert number = find (λ (app : App). app.number == number) advert.apps

-- what it weighs, 0 if the module advertises none
unfoldable pub weight_of_number : Advertised → ListedWeights → ℕ → ℕ
weight_of_number advert weights number = option_map_or (app_weight weights) (app_with advert number) 0

-- its path from a host lane on is among the active ones
abbrev pub is_active_from : Advertised → ℕ → ℕ → Bool
is_active_from advert number host = option_map_or (λ app. is_active advert.active app host) (app_with advert number) false

-- the number of the Application of which an active path begins at a host lane: it can only be that of the lane's AppSelCode
unfoldable pub active_app : Advertised → ℕ → ℕ
active_app advert host =
    let number = slice_index advert.active.app_sel_codes (host - 1) in
    if is_active_from advert number host then number else 0

abbrev pub app_weights : Advertised → ListedWeights → PathWeights
app_weights advert weights = record {
  by_app = map (weight_of_number advert weights) (range_with_len 0 16);
  active = map (active_app advert) (range_with_len 1 8);
  stay = weights.stay;
}
