-- A path that is taken out of a plan: what is left is a plan, apart from it, and weighs so much less.
use Rattle.std.proofs.Common.{◌≡◌, ◌≢◌, ◌⊎◌, ℕ, ◌+◌, ◌&&◌, true, List, [], ◌∷◌, inl, inr, arith}
use Rattle.std.specs.List.{AllByRecursion, AllPairs, sum_by}
use Rattle.std.proofs.lemmas.List.Sums.{sum_by-cons}
use Rattle.std.proofs.lemmas.Bool.{and_parts, cases_eq}
use Rattle.applications.specs.Advertised.{Advertised}
use Rattle.plan_certificate.specs.declared.path.Path.{Path}
use Rattle.plan_certificate.specs.Paths.{host_lanes, media_lanes}
use Rattle.plan_certificate.specs.Plans.{are_apart}
use Rattle.plan_certificate.proofs.LaneRuns.{disjoint_back}
use Rattle.plan_certificate.proofs.Ranks.{Ranked, ranked_from_pairs}

abbrev pub IsApart : Advertised → Path → Path → Type 0
IsApart advert path other = are_apart advert path other ≡ true

abbrev pub AreApart : Advertised → List Path → Type 0
AreApart advert = Ranked (IsApart advert)

pub apart_back : (advert : Advertised) (path other : Path) → IsApart advert path other → IsApart advert other path
unfolding are_apart
apart_back advert path other apart =
    let parts = and_parts _ _ apart in
    (λ i. disjoint_back (host_lanes advert path) (host_lanes advert other) parts.0 i && disjoint_back (media_lanes advert path) (media_lanes advert other) parts.1 i)

pub from_pairs : (advert : Advertised) (paths : List Path) → AllPairs (IsApart advert) paths → AreApart advert paths
from_pairs advert = ranked_from_pairs (IsApart advert)

pub record Picked (advert : Advertised) (weigh : Path → ℕ) (paths : List Path) (host : ℕ) : Type 1 where
  pub path : Path
  pub rest : List Path
  pub begins : path.host ≡ host
  pub weighs : sum_by weigh paths ≡ weigh path + sum_by weigh rest
  pub each : (P : Path → Type 0) → AllByRecursion P paths → P path × AllByRecursion P rest
  pub back : (P : Path → Type 0) → P path × AllByRecursion P rest → AllByRecursion P paths
  pub rest_apart : AreApart advert rest
  pub path_apart : AllByRecursion (IsApart advert path) rest

-- either a path begins at the lane, or all begin elsewhere
pub pick : (advert : Advertised) (weigh : Path → ℕ) (paths : List Path) (host : ℕ) → AreApart advert paths → Picked advert weigh paths host ⊎ AllByRecursion (λ path. path.host ≢ host) paths
pick advert weigh [] host apart = inr tt
pick advert weigh (path ∷ paths) host apart =
    elim (cases_eq path.host host) [
      | inl here ↦ inl (record {
        path = path;
        rest = paths;
        begins = here;
        weighs = sum_by-cons weigh path paths;
        each = λ P h. h;
        back = λ P h. h;
        rest_apart = apart.1;
        path_apart = apart.0;
      })
      | inr other ↦ elim (pick advert weigh paths host apart.1) [
        | inl later ↦
            let others = later.each (IsApart advert path) apart.0 in
            inl (record {
              path = later.path;
              rest = path ∷ later.rest;
              begins = later.begins;
              weighs = omega (arith, sum_by-cons weigh path paths, sum_by-cons weigh path later.rest, later.weighs);
              each = λ P h. let inner = later.each P h.1 in (inner.0, (h.0, inner.1));
              back = λ P h. (h.1.0, later.back P (h.0, h.1.1));
              rest_apart = (others.1, later.rest_apart);
              path_apart = (apart_back advert path later.path others.0, later.path_apart);
            })
        | inr none ↦ inr (other, none)
      ]
    ]
