-- What a path that a module can carry is like: its number and its host lanes.
use Rattle.std.proofs.Common.{◌≡◌, ℕ, ◌+◌, ◌≤◌, Bool, true, List, Option, Some, None, find, get_or, length, Contains, refl, sym, ap, ◌∙◌, arith, nat_eq}
use Rattle.std.proofs.lemmas.Bool.{and_parts, eqb-true, leb-true}
use Rattle.std.proofs.lemmas.List.{get_or-map}
use Rattle.std.proofs.lemmas.List.FromFn.{get_or-range_with_len}
use Rattle.std.specs.Option.{unwrap_or}
use Rattle.applications.specs.declared.app.App.{App}
use Rattle.applications.specs.Advertised.{Advertised, InOrder}
use Rattle.plan_certificate.specs.declared.path.Path.{Path}
use Rattle.plan_certificate.specs.Paths.{app_of, is_allowed, no_app}
use Rattle.control_sets.proofs.Finding.{found}

-- its lanes are among lanes 1 to 8
pub record HasLanes (advert : Advertised) (path : Path) : Type 0 where
  pub first : 1 ≤ path.host
  pub some : 1 ≤ (app_of advert path).host_lanes
  pub last : path.host + (app_of advert path).host_lanes ≤ 9

pub lanes_of_allowed : (advert : Advertised) (path : Path) → is_allowed advert path ≡ true → HasLanes advert path
unfolding is_allowed
lanes_of_allowed advert path allowed =
    let parts = and_parts _ _ (and_parts _ _ (and_parts _ _ (and_parts _ _ allowed).0).0).0 in
    let count = and_parts _ _ (and_parts _ _ parts.0).0 in
    let within = and_parts _ _ (and_parts _ _ parts.1).0 in
    record {
      first = leb-true _ _ within.0;
      some = leb-true _ _ count.0;
      last = leb-true _ _ within.1;
    }

numbered : (apps : List App) (app : App) → InOrder apps → Contains apps app → (1 ≤ app.number) × (app.number ≤ length apps)
numbered apps app in_order (k, below, here) =
    let number : App → ℕ = λ app. app.number in
    let at : app.number ≡ 1 + k =
    sym (get_or-map number apps k app 0 below ∙ ap number here)
    ∙ ap (λ (ns : List ℕ). get_or ns k 0) in_order
    ∙ get_or-range_with_len 1 (length apps) k 0 below in
    (omega (arith, at), omega (arith, at, below))

-- its Application is one of those that are advertised
pub number_of_allowed : (advert : Advertised) (path : Path) → InOrder advert.apps → is_allowed advert path ≡ true → (1 ≤ path.app) × (path.app ≤ length advert.apps)
unfolding app_of
number_of_allowed advert path in_order allowed =
    let test : App → Bool = λ app. nat_eq app.number path.app in
    let some = (lanes_of_allowed advert path allowed).some in
    let IsSearched : Option App → Type 0 = λ o. find test advert.apps ≡ o → 1 ≤ (unwrap_or o no_app).host_lanes → (1 ≤ path.app) × (path.app ≤ length advert.apps) in
    elim (find test advert.apps) as IsSearched [
      | None ↦ λ _ (some : 1 ≤ 0). absurd (omega (arith, some))
      | Some app ↦ λ is _.
          let one = found test advert.apps app is in
          let same = eqb-true _ _ one.1 in
          let place = numbered advert.apps app in_order one.0 in
          (omega (arith, place.0, same), omega (arith, place.1, same))
    ] refl some
