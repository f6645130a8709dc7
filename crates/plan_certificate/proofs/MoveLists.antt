-- The moves of a list of paths, as the list grows, and how far they lead.
use Rattle.std.proofs.Common.{◌≡◌, ℕ, suc, ◌+◌, ◌-◌, ◌<◌, ◌≤◌, ◌*◌, Bool, true, false, List, [], ◌∷◌, ◌++◌, length, map, filter, take, get_or, cond, refl, sym, subst, ap, ◌∙◌, append-nil, inl, inr, arith}
use Rattle.std.proofs.Math.Seq.{take-suc}
use Rattle.std.proofs.lemmas.Bool.{cases_Bool}
use Rattle.std.proofs.lemmas.List.{map-append}
use Rattle.std.proofs.lemmas.List.Concat.{flat_map-append}
use Rattle.std.proofs.lemmas.List.Elements.{filter-append}
use Rattle.std.proofs.lemmas.List.FromFn.{map-range_with_len_more}
use Rattle.std.specs.List.{AllByRecursion, flat_map, range_with_len}
use Rattle.applications.specs.declared.app.App.{App}
use Rattle.applications.specs.Advertised.{Advertised}
use Rattle.applications.specs.AppWeights.{PathWeights, weight_from}
use Rattle.plan_certificate.specs.declared.path.Path.{Path}
use Rattle.plan_certificate.specs.Paths.{is_allowed}
use Rattle.plan_certificate.specs.KeptPaths.{is_eligible}
use Rattle.plan_certificate.specs.States.{paths_at, paths_of_app}
use Rattle.plan_certificate.specs.Moves.{LeadsOn, move_of, moves_at, moves_of}
use Rattle.plan_certificate.proofs.Heaviest.{allowed}
use Rattle.plan_certificate.proofs.KeptPaths.{eligible_allowed}
use Rattle.plan_certificate.proofs.Lists.{all_of_flat_map, all_of_map}

pub moves_of_both : (advert : Advertised) (weights : PathWeights) (kept paths more : List Path) → moves_of advert weights kept (paths ++ more) ≡ moves_of advert weights kept paths ++ moves_of advert weights kept more
unfolding moves_of
moves_of_both advert weights kept paths more =
    ap (map (move_of advert weights)) (filter-append (is_eligible advert kept) paths more) ∙ map-append (move_of advert weights) (filter (is_eligible advert kept) paths) (filter (is_eligible advert kept) more)

pub move_of_one : (advert : Advertised) (weights : PathWeights) (kept : List Path) (path : Path) → is_eligible advert kept path ≡ true → moves_of advert weights kept (path ∷ []) ≡ move_of advert weights path ∷ []
unfolding moves_of
move_of_one advert weights kept path can = ap (λ (b : Bool). map (move_of advert weights) (cond b (path ∷ []) [])) can

pub no_move_of_one : (advert : Advertised) (weights : PathWeights) (kept : List Path) (path : Path) → is_eligible advert kept path ≡ false → moves_of advert weights kept (path ∷ []) ≡ []
unfolding moves_of
no_move_of_one advert weights kept path barred = ap (λ (b : Bool). map (move_of advert weights) (cond b (path ∷ []) [])) barred

-- the paths of an Application at so many media lanes
abbrev pub paths_at_media : ℕ → ℕ → ℕ → List Path
paths_at_media host app count = map (λ (media : ℕ). record { app = app; host = host; media = media }) (range_with_len 1 count)

pub media_more : (host app count : ℕ) → paths_at_media host app (count + 1) ≡ paths_at_media host app count ++ record { app = app; host = host; media = count + 1 } ∷ []
media_more host app count = map-range_with_len_more (λ (media : ℕ). record { app = app; host = host; media = media }) 1 count (count + 1) (omega arith)

pub apps_more : {Y : Type 0} (f : App → List Y) (apps : List App) (k : ℕ) (d : App) → k < length apps → flat_map f (take (k + 1) apps) ≡ flat_map f (take k apps) ++ f (get_or apps k d)
apps_more f apps k d below =
    let one : k + 1 ≡ suc k = omega arith in
    ap (λ (n : ℕ). flat_map f (take n apps)) one
    ∙ ap (flat_map f) (take-suc apps k d below)
    ∙ flat_map-append f (take k apps) (get_or apps k d ∷ [])
    ∙ ap (λ ys. flat_map f (take k apps) ++ ys) (append-nil (f (get_or apps k d)))

-- ---- how far they lead

abbrev pub BeginsAt : ℕ → Path → Type 0
BeginsAt host path = path.host ≡ host

pub each_begins : (advert : Advertised) (host : ℕ) → AllByRecursion (BeginsAt host) (paths_at advert host)
each_begins advert host =
    all_of_flat_map (BeginsAt host) (λ (app : App). paths_of_app host app.number) advert.apps
    (λ app. all_of_map (BeginsAt host) (λ (media : ℕ). record { app = app.number; host = host; media = media }) (range_with_len 1 8) (λ media. refl))

leads_on : (advert : Advertised) (weights : PathWeights) (small : (number host : ℕ) → weight_from weights number host ≤ 4 * 4294967295) (host : ℕ) (path : Path) → path.host ≡ host → is_allowed advert path ≡ true → LeadsOn (host - 1) (move_of advert weights path)
leads_on advert weights small host path begins can =
    let lanes = allowed advert path can in
    record { further = lanes.host_some; within = omega (arith, begins, lanes.host_from, lanes.host_to); light = small path.app path.host }

of_paths_lead_on : (advert : Advertised) (weights : PathWeights) (small : (number host : ℕ) → weight_from weights number host ≤ 4 * 4294967295) (kept : List Path) (host : ℕ) (paths : List Path) → AllByRecursion (BeginsAt host) paths → AllByRecursion (LeadsOn (host - 1)) (moves_of advert weights kept paths)
unfolding moves_of
of_paths_lead_on advert weights small kept host [] begin = tt
of_paths_lead_on advert weights small kept host (path ∷ paths) begin =
    let rest = of_paths_lead_on advert weights small kept host paths begin.1 in
    let Made : Bool → Type 0 = λ b. AllByRecursion (LeadsOn (host - 1)) (map (move_of advert weights) (cond b (path ∷ filter (is_eligible advert kept) paths) (filter (is_eligible advert kept) paths))) in
    elim (cases_Bool (is_eligible advert kept path)) [
      | inl can ↦ subst Made (sym can) (leads_on advert weights small host path begin.0 (eligible_allowed advert kept path can), rest)
      | inr barred ↦ subst Made (sym barred) rest
    ]

pub moves_lead_on : (advert : Advertised) (weights : PathWeights) (small : (number host : ℕ) → weight_from weights number host ≤ 4 * 4294967295) (kept : List Path) (host : ℕ) → AllByRecursion (LeadsOn (host - 1)) (moves_at advert weights kept host)
moves_lead_on advert weights small kept host = of_paths_lead_on advert weights small kept host (paths_at advert host) (each_begins advert host)
