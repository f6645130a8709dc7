-- What a module can carry by the lane counts of its descriptors, it can carry too if the interface IDs imply the others.
use Rattle.std.proofs.Common.{◌≡◌, ℕ, suc, ◌+◌, ◌-◌, ◌<◌, ◌&&◌, Bool, true, false, cond, List, [], ◌∷◌, Option, Some, None, find, length, map, option_map, get_or, slice_index, sum_by, refl, sym, ap, ◌∙◌, arith}
use Rattle.std.specs.List.{range_with_len}
use Rattle.std.specs.Option.{option_map_or, unwrap_or}
use Rattle.std.proofs.lemmas.Bool.{and_parts}
use Rattle.std.proofs.lemmas.Bool.Decides.{nat_tests}
use Rattle.std.proofs.lemmas.List.Sums.{sum_by-cons}
use Rattle.field_tables.specs.LaneSets.{is_disjoint, run_of}
use Rattle.applications.specs.declared.active.ActiveSet.{ActiveSet}
use Rattle.applications.specs.declared.app.App.{App}
use Rattle.applications.specs.Advertised.{Advertised, with_counts_by_id}
use Rattle.applications.specs.CountsById.{count_by, counted}
use Rattle.applications.specs.Usable.{is_lane_count, is_usable}
use Rattle.applications.specs.ActiveSets.{is_active, nothing_active}
use Rattle.applications.specs.AppWeights.{app_weight, app_weights, is_active_from, stay_at, weight_from, weight_of_number}
use Rattle.applications.specs.Weights.{ListedWeights, weight_at}
use Rattle.interface_lanes.specs.LanesById.{host_lanes_by_id, media_lanes_by_id}
use Rattle.plan_certificate.specs.declared.path.Path.{Path}
use Rattle.plan_certificate.specs.Paths.{app_of, has_number, is_allowed, is_paired, is_run, no_app, path_weight}
use Rattle.plan_certificate.specs.Plans.{are_apart, IsAdmissible, plan_weight}
use Rattle.plan_certificate.proofs.ActivePaths.{host_within, none_active, same_stay, stay_of}

-- ---- Applications

count_stays : (implied : Option ℕ) (count : ℕ) → is_lane_count count ≡ true → count_by implied count ≡ count
count_stays implied count is = grind (arith, nat_tests)

usable_stays : (media_type : ℕ) (app : App) → is_usable app ≡ true → counted media_type app ≡ app
usable_stays media_type app usable =
    let parts = and_parts (is_lane_count app.host_lanes) (is_lane_count app.media_lanes) usable in
    let host = count_stays (host_lanes_by_id app.host_id) app.host_lanes parts.0 in
    let media = count_stays (media_lanes_by_id media_type app.media_id) app.media_lanes parts.1 in
    λ i. record {
      number = app.number;
      host_id = app.host_id;
      media_id = app.media_id;
      host_lanes = host i;
      media_lanes = media i;
      host_starts = app.host_starts;
      media_starts = app.media_starts;
    }

found : (media_type : ℕ) (path : Path) (apps : List App) → find (has_number path) (map (counted media_type) apps) ≡ option_map (counted media_type) (find (has_number path) apps)
found media_type path [] = refl
found media_type path (app ∷ apps) =
    elim (has_number path app) as (λ b. cond b (Some (counted media_type app)) (find (has_number path) (map (counted media_type) apps)) ≡ option_map (counted media_type) (cond b (Some app) (find (has_number path) apps))) [ true ↦ refl | false ↦ found media_type path apps ]

stays : (media_type : ℕ) (found : Option App) → is_usable (unwrap_or found no_app) ≡ true → unwrap_or (option_map (counted media_type) found) no_app ≡ unwrap_or found no_app
stays media_type None usable = refl
stays media_type (Some app) usable = usable_stays media_type app usable

usable : (advert : Advertised) (path : Path) → is_allowed advert path ≡ true → is_usable (app_of advert path) ≡ true
unfolding is_allowed
usable advert path can = grind (arith, nat_tests)

same_app : (media_type : ℕ) (advert : Advertised) (path : Path) → is_allowed advert path ≡ true → app_of (with_counts_by_id media_type advert) path ≡ app_of advert path
unfolding app_of
same_app media_type advert path can =
    ap (λ (o : Option App). unwrap_or o no_app) (found media_type path advert.apps)
    ∙ stays media_type (find (has_number path) advert.apps) (usable advert path can)

-- ---- plans

abbrev allows : Advertised → Path → App → Bool
allows advert path app =
    is_usable app
    && is_run app.host_starts path.host app.host_lanes
    && is_run app.media_starts path.media app.media_lanes
    && is_disjoint (run_of path.media app.media_lanes) advert.unsupported
    && is_paired advert app path.host path.media

still_allowed : (media_type : ℕ) (advert : Advertised) (path : Path) → is_allowed advert path ≡ true → is_allowed (with_counts_by_id media_type advert) path ≡ true
unfolding is_allowed
still_allowed media_type advert path can = ap (allows advert path) (same_app media_type advert path can) ∙ can

abbrev apart_by : Path → Path → App → App → Bool
apart_by path other app another =
    is_disjoint (run_of path.host app.host_lanes) (run_of other.host another.host_lanes) && is_disjoint (run_of path.media app.media_lanes) (run_of other.media another.media_lanes)

still_apart : (media_type : ℕ) (advert : Advertised) (path other : Path) → is_allowed advert path ≡ true → is_allowed advert other ≡ true
    → are_apart advert path other ≡ true → are_apart (with_counts_by_id media_type advert) path other ≡ true
unfolding are_apart
still_apart media_type advert path other can may apart =
    let first = same_app media_type advert path can in
    let second = same_app media_type advert other may in
    (λ i. apart_by path other (first i) (second i)) ∙ apart

pub still_admissible : (media_type : ℕ) (advert : Advertised) (paths : List Path) → IsAdmissible advert paths → IsAdmissible (with_counts_by_id media_type advert) paths
still_admissible media_type advert paths is = record {
  allowed = λ k d below. still_allowed media_type advert (get_or paths k d) (is.allowed k d below);
  apart =
      λ i j d less below.
      still_apart media_type advert (get_or paths i d) (get_or paths j d) (is.allowed i d (omega (arith, less, below))) (is.allowed j d below) (is.apart i j d less below);
}

-- ---- weights

same_weight : (media_type : ℕ) (weights : ListedWeights) (found : Option App) → option_map_or (app_weight weights) (option_map (counted media_type) found) 0 ≡ option_map_or (app_weight weights) found 0
same_weight media_type weights None = refl
same_weight media_type weights (Some app) = refl

number_weighs : (media_type : ℕ) (advert : Advertised) (weights : ListedWeights) (number : ℕ) → weight_of_number (with_counts_by_id media_type advert) weights number ≡ weight_of_number advert weights number
unfolding weight_of_number
number_weighs media_type advert weights number =
    let path : Path = record { app = number; host = 0; media = 0 } in
    ap (λ (o : Option App). option_map_or (app_weight weights) o 0) (found media_type path advert.apps)
    ∙ same_weight media_type weights (find (has_number path) advert.apps)

apps_weigh : (media_type : ℕ) (advert : Advertised) (weights : ListedWeights) (number : ℕ)
    → weight_at (app_weights (with_counts_by_id media_type advert) weights).by_app number ≡ weight_at (app_weights advert weights).by_app number
apps_weigh media_type advert weights number = λ i. weight_at (map (λ n. number_weighs media_type advert weights n i) (range_with_len 0 16)) number

sums_are_same : (f g : Path → ℕ) (paths : List Path) → ((k : ℕ) (d : Path) → k < length paths → f (get_or paths k d) ≡ g (get_or paths k d)) → sum_by f paths ≡ sum_by g paths
sums_are_same f g [] same = refl
sums_are_same f g (path ∷ paths) same =
    let first = same 0 path (omega arith) in
    let rest = sums_are_same f g paths (λ k d below. same (suc k) d (omega arith)) in
    sum_by-cons f path paths ∙ (λ i. first i + rest i) ∙ sym (sum_by-cons g path paths)

-- ---- active paths

same_active : (media_type host : ℕ) (active : ActiveSet) (found : Option App) → is_usable (unwrap_or found no_app) ≡ true
    → option_map_or (λ app. is_active active app host) (option_map (counted media_type) found) false ≡ option_map_or (λ app. is_active active app host) found false
same_active media_type host active None usable = refl
same_active media_type host active (Some app) usable = ap (λ (a : App). is_active active a host) (usable_stays media_type app usable)

still_active : (media_type : ℕ) (advert : Advertised) (path : Path) → is_allowed advert path ≡ true → is_active_from (with_counts_by_id media_type advert) path.app path.host ≡ is_active_from advert path.app path.host
unfolding app_of
still_active media_type advert path can =
    ap (λ (o : Option App). option_map_or (λ app. is_active advert.active app path.host) o false) (found media_type path advert.apps)
    ∙ same_active media_type path.host advert.active (find (has_number path) advert.apps) (usable advert path can)

still_stays : (media_type : ℕ) (advert : Advertised) (weights : ListedWeights) (path : Path) → is_allowed advert path ≡ true
    → stay_at (app_weights (with_counts_by_id media_type advert) weights) path.app path.host ≡ stay_at (app_weights advert weights) path.app path.host
still_stays media_type advert weights path can =
    let within = host_within advert path can in
    stay_of (with_counts_by_id media_type advert) weights path.app path.host within
    ∙ ap (λ (b : Bool). cond b weights.stay 0) (same_stay path.app (slice_index advert.active.app_sel_codes (path.host - 1))
    (λ (number : ℕ). is_active_from (with_counts_by_id media_type advert) number path.host) (λ (number : ℕ). is_active_from advert number path.host) (still_active media_type advert path can))
    ∙ sym (stay_of advert weights path.app path.host within)

path_weighs : (media_type : ℕ) (advert : Advertised) (weights : ListedWeights) (path : Path) → is_allowed advert path ≡ true
    → path_weight (app_weights (with_counts_by_id media_type advert) weights) path ≡ path_weight (app_weights advert weights) path
unfolding weight_from
path_weighs media_type advert weights path can =
    let app = apps_weigh media_type advert weights path.app in
    let stay = still_stays media_type advert weights path can in
    λ i. app i + stay i

pub still_weighs : (media_type : ℕ) (advert : Advertised) (weights : ListedWeights) (paths : List Path) → IsAdmissible advert paths →
    plan_weight (app_weights (with_counts_by_id media_type advert) weights) paths ≡ plan_weight (app_weights advert weights) paths
still_weighs media_type advert weights paths is =
    sums_are_same (path_weight (app_weights (with_counts_by_id media_type advert) weights)) (path_weight (app_weights advert weights)) paths
    (λ k d below. path_weighs media_type advert weights (get_or paths k d) (is.allowed k d below))

-- ---- no active paths

any_path_weighs : (media_type : ℕ) (advert : Advertised) (weights : ListedWeights) (path : Path) → advert.active ≡ nothing_active
    → path_weight (app_weights (with_counts_by_id media_type advert) weights) path ≡ path_weight (app_weights advert weights) path
unfolding weight_from
any_path_weighs media_type advert weights path nothing =
    let app = apps_weigh media_type advert weights path.app in
    let active = none_active (with_counts_by_id media_type advert) nothing ∙ sym (none_active advert nothing) in
    λ i. app i + stay_at (record { by_app = []; active = active i; stay = weights.stay }) path.app path.host

pub any_weighs : (media_type : ℕ) (advert : Advertised) (weights : ListedWeights) (paths : List Path) → advert.active ≡ nothing_active →
    plan_weight (app_weights (with_counts_by_id media_type advert) weights) paths ≡ plan_weight (app_weights advert weights) paths
any_weighs media_type advert weights paths nothing =
    sums_are_same (path_weight (app_weights (with_counts_by_id media_type advert) weights)) (path_weight (app_weights advert weights)) paths
    (λ k d below. any_path_weighs media_type advert weights (get_or paths k d) nothing)
