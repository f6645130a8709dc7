-- The paths that begin at a host lane, and so their moves, stand by rising Application and media lane.
use Rattle.std.proofs.Common.{◌≡◌, ℕ, zero, suc, ◌+◌, ◌≤◌, List, [], ◌∷◌, length, map, filter, refl, sym, inl, inr, arith}
use Rattle.std.specs.List.{AllByRecursion, AllPairs, flat_map, range_with_len}
use Rattle.std.proofs.lemmas.List.Kept.{AllPairs-filter}
use Rattle.applications.specs.declared.app.App.{App}
use Rattle.applications.specs.Advertised.{Advertised, InOrder}
use Rattle.applications.specs.AppWeights.{PathWeights}
use Rattle.plan_certificate.specs.declared.path.Path.{Path}
use Rattle.plan_certificate.specs.declared.moves.Move.{Move}
use Rattle.plan_certificate.specs.Paths.{IsLower}
use Rattle.plan_certificate.specs.KeptPaths.{is_eligible}
use Rattle.plan_certificate.specs.States.{paths_at, paths_of_app}
use Rattle.plan_certificate.specs.Moves.{move_of, moves_at, moves_of}
use Rattle.plan_certificate.proofs.Lists.{all_of_append, each_pair, map_each}
use Rattle.plan_certificate.proofs.Ranks.{Ranked, pairs_from_ranked, ranked_append, ranked_from_pairs, ranked_map}

-- ---- one Application's

abbrev path_at : ℕ → ℕ → ℕ → Path
path_at host app media = record { app = app; host = host; media = media }

abbrev of_app : ℕ → ℕ → ℕ → ℕ → List Path
of_app host app first count = map (path_at host app) (range_with_len first count)

record AreOfApp (host app first count : ℕ) : Type 0 where
  pub ranked : Ranked IsLower (of_app host app first count)
  pub from : AllByRecursion (λ path. first ≤ path.media) (of_app host app first count)
  pub all : AllByRecursion (λ path. path.app ≡ app) (of_app host app first count)

are_of_app : (host app first count : ℕ) → AreOfApp host app first count
are_of_app host app first zero = record { ranked = tt; from = tt; all = tt }
are_of_app host app first (suc count) =
    let rest = are_of_app host app (first + 1) count in
    let paths = of_app host app (first + 1) count in
    record {
      ranked = (each_pair (λ path. first + 1 ≤ path.media) (λ path. path.app ≡ app) (IsLower (path_at host app first)) paths (λ path after same. inr (sym same, omega (arith, after))) rest.from rest.all, rest.ranked);
      from = (omega arith, map_each (λ path. first + 1 ≤ path.media) (λ path. first ≤ path.media) paths (λ path after. omega (arith, after)) rest.from);
      all = (refl, rest.all);
    }

-- ---- all Applications'

abbrev of_apps : ℕ → List App → List Path
of_apps host apps = flat_map (λ (app : App). paths_of_app host app.number) apps

record AreOfApps (host first : ℕ) (apps : List App) : Type 0 where
  pub ranked : Ranked IsLower (of_apps host apps)
  pub from : AllByRecursion (λ path. first ≤ path.app) (of_apps host apps)

are_of_apps : (host first : ℕ) (apps : List App) → map (λ (app : App). app.number) apps ≡ range_with_len first (length apps) → AreOfApps host first apps
are_of_apps host first [] order = record { ranked = tt; from = tt }
are_of_apps host first (app ∷ apps) order =
    let number : app.number ≡ first = cc in
    let others : map (λ (a : App). a.number) apps ≡ range_with_len (first + 1) (length apps) = cc in
    let rest = are_of_apps host (first + 1) apps others in
    let own = are_of_app host app.number 1 8 in
    let ones = of_app host app.number 1 8 in
    record {
      ranked = ranked_append IsLower (λ path. first + 1 ≤ path.app) ones (of_apps host apps) own.ranked rest.ranked
          (map_each (λ path. path.app ≡ app.number) (λ path. (y : Path) → first + 1 ≤ y.app → IsLower path y) ones (λ path same y after. inl (omega (arith, number, same, after))) own.all)
          rest.from;
      from = all_of_append (λ path. first ≤ path.app) ones (of_apps host apps)
          (map_each (λ path. path.app ≡ app.number) (λ path. first ≤ path.app) ones (λ path same. omega (arith, number, same)) own.all)
          (map_each (λ path. first + 1 ≤ path.app) (λ path. first ≤ path.app) (of_apps host apps) (λ path after. omega (arith, after)) rest.from);
    }

-- ---- their moves

abbrev IsLowerMove : Move → Move → Type 0
IsLowerMove one later = IsLower one.path later.path

pub moves_rise : (advert : Advertised) (weights : PathWeights) (kept : List Path) (host : ℕ) → InOrder advert.apps → AllPairs IsLowerMove (moves_at advert weights kept host)
unfolding moves_of
moves_rise advert weights kept host order =
    let paths = paths_at advert host in
    let eligible = filter (is_eligible advert kept) paths in
    let rising = AllPairs-filter IsLower (is_eligible advert kept) paths (pairs_from_ranked IsLower paths (are_of_apps host 1 advert.apps order).ranked) in
    pairs_from_ranked IsLowerMove (map (move_of advert weights) eligible) (ranked_map IsLowerMove (move_of advert weights) eligible (ranked_from_pairs IsLower eligible rising))
