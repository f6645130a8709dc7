-- The paths that a plan with kept paths may hold, and the lanes that it may leave free.
use Rattle.std.proofs.Common.{◌≡◌, ◌==◌, ◌⊎◌, ℕ, ◌+◌, ◌<◌, ◌≤◌, ◌&&◌, ◌||◌, Bool, true, false, not, suc, List, [], ◌∷◌, get_or, refl, sym, subst, ap, ◌∙◌, inl, inr, arith}
use Rattle.std.specs.List.{AllByRecursion, AllPairs, Contains}
use Rattle.std.specs.FinSet as set
use Rattle.std.proofs.lemmas.Bool.{and_parts, cases_Bool, cases_eq, cases_lt, eqb-true, eq-eqb}
use Rattle.std.proofs.lemmas.Bool.Decides.{nat_tests}
use Rattle.std.proofs.lemmas.List.{get_or_default}
use Rattle.std.proofs.lemmas.List.Folds.{list_any_at}
use Rattle.field_tables.specs.LaneBytes.{contains-run_of}
use Rattle.applications.specs.Advertised.{Advertised}
use Rattle.plan_certificate.specs.declared.path.Path.{Path}
use Rattle.plan_certificate.specs.Paths.{app_of, host_lanes, is_allowed}
use Rattle.plan_certificate.specs.Plans.{IsAdmissible, Keeps}
use Rattle.plan_certificate.specs.KeptPaths.{is_among, is_apart_from, is_eligible, is_path, may_stay_free}
use Rattle.plan_certificate.proofs.PathTakenOut.{IsApart, apart_back}

-- ---- one of the paths

pub same_path : (path other : Path) → is_path path other ≡ true → other ≡ path
same_path path other is =
    let both = and_parts (other.app == path.app && other.host == path.host) (other.media == path.media) is in
    let first = and_parts (other.app == path.app) (other.host == path.host) both.0 in
    (λ i. record { app = eqb-true other.app path.app first.0 i; host = eqb-true other.host path.host first.1 i; media = eqb-true other.media path.media both.1 i })

pub path_itself : (path : Path) → is_path path path ≡ true
path_itself path = λ i. eq-eqb path.app path.app refl i && eq-eqb path.host path.host refl i && eq-eqb path.media path.media refl i

pub among_listed : (paths : List Path) (path : Path) → Contains paths path → is_among paths path ≡ true
among_listed paths path (k, below, is) = list_any_at (is_path path) paths k path below (ap (is_path path) is ∙ path_itself path)

listed_more : (path other : Path) (paths : List Path) → Contains paths path → Contains (other ∷ paths) path
listed_more path other paths (k, below, is) = (suc k, omega (arith, below), is)

pub listed_among : (paths : List Path) (path : Path) → is_among paths path ≡ true → Contains paths path
listed_among [] path is = absurd cc
listed_among (other ∷ paths) path is =
    elim (cases_Bool (is_path path other)) [
      | inl same ↦ (0, omega arith, same_path path other same)
      | inr differs ↦ listed_more path other paths (listed_among paths path (ap (λ (b : Bool). b || is_among paths path) (sym differs) ∙ is))
    ]

-- ---- eligible paths

pub eligible_allowed : (advert : Advertised) (kept : List Path) (path : Path) → is_eligible advert kept path ≡ true → is_allowed advert path ≡ true
eligible_allowed advert kept path can = (and_parts _ _ can).1

-- two paths of a plan are the same or apart
pub same_or_apart : (advert : Advertised) (paths : List Path) (path other : Path) → AllPairs (IsApart advert) paths → Contains paths path → Contains paths other → (other ≡ path) ⊎ IsApart advert other path
same_or_apart advert paths path other apart (i, i_below, i_is) (j, j_below, j_is) =
    let at_j : get_or paths j path ≡ other = get_or_default paths j path other j_below ∙ j_is in
    elim (cases_eq i j) [
      | inl same ↦ inl (sym at_j ∙ ap (λ (n : ℕ). get_or paths n path) (sym same) ∙ i_is)
      | inr differ ↦ elim (cases_lt i j) [
        | inl before ↦ inr (apart_back advert path other (subst (λ (p : Path). IsApart advert p other) i_is (subst (IsApart advert (get_or paths i path)) at_j (apart i j path before j_below))))
        | inr behind ↦ inr (subst (IsApart advert other) i_is (subst (λ (p : Path). IsApart advert p (get_or paths i path)) at_j (apart j i path (omega (arith, behind, differ)) i_below)))
      ]
    ]

apart_from_kept : (advert : Advertised) (paths kept : List Path) (path : Path) → AllPairs (IsApart advert) paths → Keeps kept paths → Contains paths path → is_among kept path ≡ false → is_apart_from advert kept path ≡ true
apart_from_kept advert paths [] path apart keeps listed none = refl
apart_from_kept advert paths (one ∷ kept) path apart keeps listed none =
    elim (cases_Bool (is_path path one)) [
      | inl same ↦ absurd (let yes = ap (λ (b : Bool). b || is_among kept path) (sym same) ∙ none in cc)
      | inr differs ↦
          let rest = apart_from_kept advert paths kept path apart keeps.1 listed (ap (λ (b : Bool). b || is_among kept path) (sym differs) ∙ none) in
          elim (same_or_apart advert paths path one apart listed keeps.0) [
            | inl same ↦ absurd (let yes = sym differs ∙ ap (is_path path) same ∙ path_itself path in cc)
            | inr is_apart ↦ (λ i. is_apart i && rest i)
          ]
    ]

-- the paths of a plan that holds the kept ones
pub plan_eligible : (advert : Advertised) (kept paths : List Path) → IsAdmissible advert paths → Keeps kept paths → (path : Path) → Contains paths path → is_allowed advert path ≡ true → is_eligible advert kept path ≡ true
plan_eligible advert kept paths plan keeps path listed can =
    elim (cases_Bool (is_among kept path)) [
      | inl is_kept ↦ (λ i. (is_kept i || is_apart_from advert kept path) && can i)
      | inr not_kept ↦
          let apart = apart_from_kept advert paths kept path plan.apart keeps listed not_kept in
          (λ i. (not_kept i || apart i) && can i)
    ]

-- ---- lanes that may stay free

-- the lane is none of the path's
pub beside : (advert : Advertised) (path : Path) (lane : ℕ) → (lane < path.host) ⊎ (path.host + (app_of advert path).host_lanes ≤ lane) → not (set.contains (host_lanes advert path) lane) ≡ true
beside advert path lane (inl before) =
    let none : set.contains (host_lanes advert path) lane ≡ false = contains-run_of path.host (app_of advert path).host_lanes lane ∙ grind (arith, nat_tests) in
    ap not none
beside advert path lane (inr behind) =
    let none : set.contains (host_lanes advert path) lane ≡ false = contains-run_of path.host (app_of advert path).host_lanes lane ∙ grind (arith, nat_tests) in
    ap not none

abbrev pub IsBeside : Advertised → ℕ → Path → Type 0
IsBeside advert lane path = (lane < path.host) ⊎ (path.host + (app_of advert path).host_lanes ≤ lane)

pub all_beside : (advert : Advertised) (kept : List Path) (lane : ℕ) → AllByRecursion (IsBeside advert lane) kept → may_stay_free advert kept lane ≡ true
all_beside advert [] lane each = refl
all_beside advert (path ∷ kept) lane each =
    let first = beside advert path lane each.0 in
    let rest = all_beside advert kept lane each.1 in
    (λ i. first i && rest i)

-- ---- nothing kept

pub nothing_kept : (advert : Advertised) → IsAdmissible advert []
nothing_kept advert = record { allowed = λ k d below. absurd (omega (arith, below)); apart = λ i j d before below. absurd (omega (arith, below)) }
