-- What a path weighs more if it is among the active ones.
use Rattle.std.proofs.Common.{◌≡◌, ℕ, zero, suc, ◌+◌, ◌-◌, ◌<◌, ◌≤◌, ◌==◌, ◌&&◌, Bool, true, false, nat_lt, cond, List, [], ◌∷◌, Option, Some, None, find, map, replicate, get_or, slice_index, refl, sym, subst, ap, ◌∙◌, inl, inr, arith}
use Rattle.std.specs.List.{list_all, range_with_len}
use Rattle.std.specs.Option.{option_map_or, unwrap_or}
use Rattle.std.proofs.lemmas.Bool.{and_parts, cases_Bool, eqb-true}
use Rattle.std.proofs.lemmas.Bool.Decides.{nat_tests}
use Rattle.std.proofs.lemmas.List.FromFn.{get_or-map-range_with_len}
use Rattle.applications.specs.declared.active.ActiveSet.{ActiveSet}
use Rattle.applications.specs.declared.app.App.{App}
use Rattle.applications.specs.ActiveSets.{is_active, is_lane_of, nothing_active}
use Rattle.applications.specs.Advertised.{Advertised}
use Rattle.applications.specs.AppWeights.{active_app, app_weight, app_weights, is_active_from, stay_at, weight_from, weight_of_number}
use Rattle.applications.specs.Weights.{ListedWeights, weight_at}
use Rattle.plan_certificate.specs.declared.path.Path.{Path}
use Rattle.plan_certificate.specs.Paths.{app_of, has_number, is_allowed, no_app, path_weight}
use Rattle.plan_certificate.proofs.Heaviest.{allowed, app_found}

pub record HostWithin (host : ℕ) : Type 0 where
  pub from : 1 ≤ host
  pub to : host ≤ 8

pub host_within : (advert : Advertised) (path : Path) → is_allowed advert path ≡ true → HostWithin path.host
host_within advert path can =
    let lanes = allowed advert path can in
    record { from = lanes.host_from; to = omega (arith, lanes.host_to, lanes.host_some) }

-- the AppSelCode of a host lane
abbrev code_at : Advertised → ℕ → ℕ
code_at advert host = slice_index advert.active.app_sel_codes (host - 1)

-- whether a path stays, by which Applications' paths are active from its host lane on
abbrev stays_by : ℕ → ℕ → (ℕ → Bool) → Bool
stays_by number code is_active_of = nat_lt 0 number && cond (is_active_of code) code 0 == number

pub stay_of : (advert : Advertised) (weights : ListedWeights) (number host : ℕ) → HostWithin host
    → stay_at (app_weights advert weights) number host ≡ cond (stays_by number (code_at advert host) (λ n. is_active_from advert n host)) weights.stay 0
unfolding active_app
stay_of advert weights number host within =
    ap (λ (n : ℕ). cond (nat_lt 0 number && n == number) weights.stay 0)
    (get_or-map-range_with_len (active_app advert) 1 8 (host - 1) host 0 (omega (arith, within.from, within.to)) (omega (arith, within.from)))

stays_none : (b : Bool) (code number : ℕ) → (code == number) ≡ false → (nat_lt 0 number && cond b code 0 == number) ≡ false
stays_none true code number other = grind (arith, nat_tests)
stays_none false code number other = grind (arith, nat_tests)

stays_not : (code number : ℕ) → (nat_lt 0 number && 0 == number) ≡ false
stays_not code number = grind (arith, nat_tests)

-- only what is active of the Application itself counts
pub same_stay : (number code : ℕ) (one other : ℕ → Bool) → one number ≡ other number → stays_by number code one ≡ stays_by number code other
same_stay number code one other same =
    elim (cases_Bool (code == number)) [
      | inl is ↦ subst (λ (c : ℕ). stays_by number c one ≡ stays_by number c other) (sym (eqb-true code number is)) (ap (λ (b : Bool). nat_lt 0 number && cond b number 0 == number) same)
      | inr not ↦ stays_none (one code) code number not ∙ sym (stays_none (other code) code number not)
    ]

-- ---- no active paths

nothing_at : (n place : ℕ) → ◌≡◌ {A = ℕ} (get_or (replicate n 0) place 0) 0
nothing_at zero place = refl
nothing_at (suc n) zero = refl
nothing_at (suc n) (suc place) = nothing_at n place

nothing_if : (b : Bool) (code : ℕ) → code ≡ 0 → cond b code 0 ≡ 0
nothing_if true code none = none
nothing_if false code none = refl

no_app_active : (advert : Advertised) → advert.active ≡ nothing_active → (host : ℕ) → active_app advert host ≡ 0
unfolding active_app
no_app_active advert nothing host =
    nothing_if (is_active_from advert (code_at advert host) host) (code_at advert host)
    (ap (λ (active : ActiveSet). slice_index active.app_sel_codes (host - 1)) nothing ∙ nothing_at 8 (host - 1))

pub none_active : (advert : Advertised) → advert.active ≡ nothing_active → map (active_app advert) (range_with_len 1 8) ≡ map (λ host. 0) (range_with_len 1 8)
none_active advert nothing = λ i. map (λ host. no_app_active advert nothing host i) (range_with_len 1 8)

-- ---- what a path weighs

first_of_all : (test : ℕ → Bool) (first count : ℕ) → 1 ≤ count → list_all test (range_with_len first count) ≡ true → test first ≡ true
first_of_all test first zero some all = absurd (omega arith)
first_of_all test first (suc count) some all = (and_parts (test first) (list_all test (range_with_len (first + 1) count)) all).0

first_lane : (active : ActiveSet) (app : App) (host : ℕ) → 1 ≤ app.host_lanes → is_active active app host ≡ true → slice_index active.app_sel_codes (host - 1) ≡ app.number
unfolding is_active
first_lane active app host some is =
    let here = first_of_all (is_lane_of active app host) host app.host_lanes some is in
    eqb-true (slice_index active.app_sel_codes (host - 1)) app.number
    (and_parts (slice_index active.app_sel_codes (host - 1) == app.number) (slice_index active.data_path_ids (host - 1) + 1 == host) here).0

found_is : (test : App → Bool) (apps : List App) (app : App) → find test apps ≡ Some app → test app ≡ true
found_is test [] app is = absurd (cc)
found_is test (one ∷ apps) app is =
    elim (cases_Bool (test one)) [
      | inl holds ↦
          let same : ◌≡◌ {A = Option App} (Some one) (Some app) = sym (ap (λ (b : Bool). cond b (Some one) (find test apps)) holds) ∙ is in
          let one_is : one ≡ app = cc in
          subst (λ (a : App). test a ≡ true) one_is holds
      | inr fails ↦ found_is test apps app (sym (ap (λ (b : Bool). cond b (Some one) (find test apps)) fails) ∙ is)
    ]

stays_if : (number code : ℕ) (active : Bool) (one : ℕ → Bool) → 0 < number → one number ≡ active → (active ≡ true → code ≡ number) → stays_by number code one ≡ active
stays_if number code true one some is at =
    subst (λ (c : ℕ). stays_by number c one ≡ true) (sym (at refl)) (ap (λ (b : Bool). nat_lt 0 number && cond b number 0 == number) is ∙ grind (arith, nat_tests))
stays_if number code false one some is at = same_stay number code one (λ n. false) is ∙ stays_not code number

pub weighs_more : (advert : Advertised) (weights : ListedWeights) (path : Path) → is_allowed advert path ≡ true → 0 < path.app → path.app < 16
    → path_weight (app_weights advert weights) path ≡ app_weight weights (app_of advert path) + cond (is_active advert.active (app_of advert path) path.host) weights.stay 0
unfolding weight_from weight_of_number app_of
weighs_more advert weights path can some below =
    let found = app_found advert path (find (has_number path) advert.apps) refl can in
    let app = found.0 in
    let app_is : app_of advert path ≡ app = ap (λ (o : Option App). unwrap_or o no_app) found.1 in
    let lanes : 1 ≤ app.host_lanes = subst (λ (a : App). 1 ≤ a.host_lanes) app_is (allowed advert path can).host_some in
    let number : app.number ≡ path.app = eqb-true app.number path.app (found_is (has_number path) advert.apps app found.1) in
    let weighs = get_or-map-range_with_len (weight_of_number advert weights) 0 16 path.app path.app 0 below (omega arith) ∙ ap (λ (o : Option App). option_map_or (app_weight weights) o 0) found.1 in
    let active : is_active_from advert path.app path.host ≡ is_active advert.active app path.host = ap (λ (o : Option App). option_map_or (λ a. is_active advert.active a path.host) o false) found.1 in
    let stays = stays_if path.app (code_at advert path.host) (is_active advert.active app path.host) (λ n. is_active_from advert n path.host) some active (λ is. first_lane advert.active app path.host lanes is ∙ number) in
    let stay = stay_of advert weights path.app path.host (host_within advert path can) ∙ ap (λ (b : Bool). cond b weights.stay 0) stays in
    subst (λ (a : App). path_weight (app_weights advert weights) path ≡ app_weight weights a + cond (is_active advert.active a path.host) weights.stay 0) (sym app_is) (λ i. weighs i + stay i)
