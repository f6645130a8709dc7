-- Of a plan's paths, those that are kept, one path more.
use Rattle.std.proofs.Common.{◌≡◌, ◌+◌, ◌++◌, ◌<◌, ℕ, length, take, List, [], ◌∷◌, Bool, cond, get_or, sym, ap, ◌∙◌, refl, arith, Option, Some, None, Result, Ok, Err}
use Rattle.std.specs.Prelude.{MatchOption}
use Rattle.std.specs.List.{filter}
use Rattle.std.proofs.lemmas.List.Elements.{filter_more}
use Rattle.applications.specs.Advertised.{Advertised}
use Rattle.applications.specs.declared.fault.AdvertFault.{AdvertFault}
use Rattle.plan_certificate.specs.declared.path.Path.{Path}

pub nil_right : (paths : List Path) → paths ++ [] ≡ paths
nil_right [] = refl
nil_right (path ∷ paths) = ap (λ (rest : List Path). path ∷ rest) (nil_right paths)

pub one_longer : (paths : List Path) (path : Path) → length (paths ++ (path ∷ [])) ≡ length paths + 1
one_longer [] path = refl
one_longer (first ∷ paths) path = omega (arith, one_longer paths path)

pub kept_more : (p : Path → Bool) (items kept : List Path) (index : ℕ) (none : Path) (here : Bool) → index < length items → kept ≡ filter p (take index items) → p (get_or items index none) ≡ here
    → kept ++ cond here (get_or items index none ∷ []) [] ≡ filter p (take (index + 1) items)
kept_more p items kept index none here within so e =
    ap (λ (paths : List Path). paths ++ cond here (get_or items index none ∷ []) []) so
    ∙ ap (λ (b : Bool). filter p (take index items) ++ cond b (get_or items index none ∷ []) []) (sym e)
    ∙ sym (filter_more p items index none within)

-- what is advertised if it isn't refused
pub advert_is : (found : Option AdvertFault) (result : Result Advertised AdvertFault) (advert good : Advertised) → MatchOption found (result ≡ Ok good) (λ fault. result ≡ Err fault) → result ≡ Ok advert → advert ≡ good
advert_is None result advert good is ok = let same : Ok advert ≡ Ok good = sym ok ∙ is in cc
advert_is (Some fault) result advert good is ok = absurd (let same : Ok advert ≡ Err fault = sym ok ∙ is in cc)
