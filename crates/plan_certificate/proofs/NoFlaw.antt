-- What holds where no flaw applies.
use Rattle.std.proofs.Common.{◌≡◌, ◌↔◌, ℕ, ◌+◌, ◌-◌, ◌<◌, ◌≤◌, ◌&&◌, Bool, true, false, not, List, [], ◌∷◌, ◌++◌, None, length, take, get_or, map, refl, sym, subst, ap, ◌∙◌, arith}
use Rattle.std.specs.List.{All, AllByRecursion, AllPairs, Contains, flat_map, enumerate_from}
use Rattle.std.proofs.lemmas.Bool.{and_parts}
use Rattle.std.proofs.lemmas.List.Elements.{All-from_recursion, recursion_from_All}
use Rattle.std.proofs.lemmas.List.FromFn.{get_or-enumerate_from, length-enumerate_from}
use Rattle.std.proofs.lemmas.List.Sums.{AllPass-from_list_all, list_all-from_AllPass}
use Rattle.std.proofs.lemmas.List.{get_or-take, get_or_default, length-take-le}
use Rattle.field_tables.specs.FirstFault.{first_fault}
use Rattle.applications.specs.Advertised.{Advertised}
use Rattle.plan_certificate.specs.declared.path.Path.{Path}
use Rattle.plan_certificate.specs.Paths.{is_allowed}
use Rattle.plan_certificate.specs.Plans.{are_apart, IsAdmissible, Keeps}
use Rattle.plan_certificate.specs.KeptPaths.{is_apart_from}
use Rattle.plan_certificate.specs.Verdicts.{Flaws, PossibleFlaw, kept_flaw, kept_flaws, lane_flaw, lane_flaws, missing_flaw, missing_flaws, path_flaw, path_flaws, plan_flaws}
use Rattle.plan_certificate.proofs.KeptPaths.{among_listed, listed_among}
use Rattle.plan_certificate.proofs.Searches.{numbered_at, numbered_below}

abbrev pub NoFlaw : Flaws → Type 0
NoFlaw flaws = first_fault flaws ≡ None

-- ---- lists of flaws

pub neither_flaw : (flaws more : Flaws) → NoFlaw (flaws ++ more) ↔ (NoFlaw flaws × NoFlaw more)
neither_flaw [] more = (λ none. (refl, none), λ none. none.1)
neither_flaw ((true, flaw) ∷ flaws) more = (λ none. absurd cc, λ none. absurd (let some = none.0 in cc))
neither_flaw ((false, flaw) ∷ flaws) more = neither_flaw flaws more

pub flaw_first : (flaw : PossibleFlaw) (more : Flaws) → NoFlaw (flaw ∷ more) ↔ ((flaw.0 ≡ false) × NoFlaw more)
flaw_first (true, flaw) more = (λ none. absurd cc, λ none. absurd (let some = none.0 in cc))
flaw_first (false, flaw) more = (λ none. (refl, none), λ none. none.1)

pub none_of_each : {X : Type 0} (flaws : X → Flaws) (xs : List X) → NoFlaw (flat_map flaws xs) ↔ AllByRecursion (λ x. NoFlaw (flaws x)) xs
none_of_each flaws [] = (λ none. tt, λ each. refl)
none_of_each flaws (x ∷ xs) =
    let parts = neither_flaw (flaws x) (flat_map flaws xs) in
    let rest = none_of_each flaws xs in
    (λ none. ((parts.0 none).0, rest.0 (parts.0 none).1), λ each. parts.1 (each.0, rest.1 each.1))

none_of_map : {X : Type 0} (flaw : X → PossibleFlaw) (xs : List X) → NoFlaw (map flaw xs) ↔ AllByRecursion (λ x. (flaw x).0 ≡ false) xs
none_of_map flaw [] = (λ none. tt, λ each. refl)
none_of_map flaw (x ∷ xs) =
    let parts = flaw_first (flaw x) (map flaw xs) in
    let rest = none_of_map flaw xs in
    (λ none. ((parts.0 none).0, rest.0 (parts.0 none).1), λ each. parts.1 (each.0, rest.1 each.1))

-- ---- flaws of numbered elements

abbrev NoneAt : {X : Type 0} → (ℕ × X → PossibleFlaw) → List X → Type 0
NoneAt {X} flaw xs = (k : ℕ) (d : X) → k < length xs → (flaw (k + 1, get_or xs k d)).0 ≡ false

none_at : {X : Type 0} (flaw : ℕ × X → PossibleFlaw) (xs : List X) → NoFlaw (map flaw (enumerate_from 1 xs)) ↔ NoneAt flaw xs
none_at {X} flaw xs =
    let Passes : ℕ × X → Type 0 = λ p. (flaw p).0 ≡ false in
    let numbered = enumerate_from 1 xs in
    let by_list = none_of_map flaw numbered in (
      λ none k d below.
          let each : All Passes numbered = All-from_recursion Passes numbered (by_list.0 none) in
          subst Passes (numbered_at xs k d below) (each k (k + 1, d) (numbered_below xs k below)),
      λ each.
          by_list.1 (recursion_from_All Passes numbered (λ k d below.
          let within : k < length xs = omega (arith, below, length-enumerate_from 1 xs) in
          let number : k + 1 ≡ 1 + k = omega arith in
          subst Passes (ap (λ (n : ℕ). (n, get_or xs k d.1)) number ∙ sym (get_or-enumerate_from 1 xs k d within)) (each k d.1 within))),
    )

-- ---- the paths of a plan

pub not_false : (b : Bool) → not b ≡ false → b ≡ true
not_false true is = refl
not_false false is = absurd cc

pub none_not_allowed : (advert : Advertised) (paths : List Path) → NoFlaw (path_flaws advert paths) ↔ All (λ path. is_allowed advert path ≡ true) paths
unfolding path_flaws
none_not_allowed advert paths =
    let by_number = none_at (path_flaw advert) paths in
    (λ none k d below. not_false _ (by_number.0 none k d below), λ all. by_number.1 (λ k d below. ap not (all k d below)))

-- no path takes a lane of a path before it
abbrev ApartFromEarlier : Advertised → List Path → Type 0
ApartFromEarlier advert paths = (k : ℕ) (d : Path) → k < length paths → is_apart_from advert (take (k + 1 - 1) paths) (get_or paths k d) ≡ true

each_earlier : (advert : Advertised) (paths : List Path) → ApartFromEarlier advert paths ↔ AllPairs (λ path other. are_apart advert path other ≡ true) paths
each_earlier advert paths = (
  λ apart i j d before below.
      let path : Path = get_or paths j d in
      let place : j + 1 - 1 ≡ j = omega arith in
      let within : j ≤ length paths = omega (arith, below) in
      let here : is_apart_from advert (take j paths) path ≡ true = ap (λ (n : ℕ). is_apart_from advert (take n paths) path) (sym place) ∙ apart j d below in
      let each = AllPass-from_list_all (λ (earlier : Path). are_apart advert earlier path) (take j paths) here in
      ap (λ (earlier : Path). are_apart advert earlier path) (sym (get_or-take j paths i d before)) ∙ each i d (omega (arith, before, length-take-le j paths within)),
  λ pairs j d below.
      let path : Path = get_or paths j d in
      let place : j + 1 - 1 ≡ j = omega arith in
      let within : j ≤ length paths = omega (arith, below) in
      let each = list_all-from_AllPass (λ (earlier : Path). are_apart advert earlier path) (take j paths) (λ i e inside.
      let before : i < j = omega (arith, inside, length-take-le j paths within) in
      ap (λ (earlier : Path). are_apart advert earlier path) (get_or-take j paths i e before) ∙ ap (are_apart advert (get_or paths i e)) (get_or_default paths j d e below) ∙ pairs i j e before below) in
      ap (λ (n : ℕ). is_apart_from advert (take n paths) path) place ∙ each,
)

pub none_share : (advert : Advertised) (paths : List Path) → NoFlaw (lane_flaws advert paths) ↔ AllPairs (λ path other. are_apart advert path other ≡ true) paths
unfolding lane_flaws
none_share advert paths =
    let by_number = none_at (lane_flaw advert paths) paths in
    let earlier = each_earlier advert paths in
    (λ none. earlier.0 (λ k d below. not_false _ (by_number.0 none k d below)), λ pairs. by_number.1 (λ k d below. ap not (earlier.1 pairs k d below)))

-- kept paths without a flaw are a plan that the module can carry
pub kept_admissible : (advert : Advertised) (kept : List Path) → NoFlaw (kept_flaws advert kept) ↔ IsAdmissible advert kept
unfolding kept_flaws
kept_admissible advert kept =
    let by_number = none_at (kept_flaw advert kept) kept in
    let earlier = each_earlier advert kept in (
      λ none.
          let parts = λ (k : ℕ) (d : Path) (below : k < length kept). and_parts _ _ (not_false _ (by_number.0 none k d below)) in
          record { allowed = λ k d below. (parts k d below).0; apart = earlier.0 (λ k d below. (parts k d below).1) },
      λ plan. by_number.1 (λ k d below. (λ i. not (plan.allowed k d below i && earlier.1 plan.apart k d below i))),
    )

-- none is missing
pub none_missing : (kept paths : List Path) → NoFlaw (missing_flaws kept paths) ↔ Keeps kept paths
unfolding missing_flaws
none_missing kept paths =
    let by_number = none_at (missing_flaw paths) kept in (
      λ none. recursion_from_All (Contains paths) kept (λ k d below. listed_among paths (get_or kept k d) (not_false _ (by_number.0 none k d below))),
      λ keeps.
          let all = All-from_recursion (Contains paths) kept keeps in
          by_number.1 (λ k d below. ap not (among_listed paths (get_or kept k d) (all k d below))),
    )

pub plan_admissible : (advert : Advertised) (paths : List Path) → NoFlaw (plan_flaws advert paths) ↔ IsAdmissible advert paths
plan_admissible advert paths =
    let parts = neither_flaw (path_flaws advert paths) (lane_flaws advert paths) in (
      λ none. record { allowed = (none_not_allowed advert paths).0 (parts.0 none).0; apart = (none_share advert paths).0 (parts.0 none).1 },
      λ plan.
          parts.1 ((none_not_allowed advert paths).1 plan.allowed, (none_share advert paths).1 plan.apart),
    )
