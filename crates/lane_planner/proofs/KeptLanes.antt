-- Lanes of kept paths: none of these stays free, and no other path takes them.
use Rattle.std.proofs.Common.{◌≡◌, ℕ, ◌+◌, ◌<◌, ◌≤◌, ◌⊎◌, ◌&&◌, Bool, true, false, not, List, [], ◌∷◌, refl, sym, ap, ◌∙◌, inl, inr, arith}
use Rattle.std.specs.List.{Contains, list_all}
use Rattle.std.specs.FinSet as set
use Rattle.std.proofs.lemmas.Bool.{and_parts, both_ways, cases_Bool, or_cases, true_from_ne_false}
use Rattle.std.proofs.lemmas.Bool.Decides.{nat_tests}
use Rattle.std.proofs.lemmas.List.Elements.{All-contains, Contains-append_right}
use Rattle.std.proofs.lemmas.List.Sums.{AllPass-from_list_all}
use Rattle.field_tables.specs.LaneBytes.{contains-run_of}
use Rattle.lane_planner.proofs.Words.{Advertised, Path, app_of, host_lanes, is_among, is_eligible, may_stay_free, IsAdmissible}
use Rattle.plan_certificate.specs.Plans.{are_apart}
use Rattle.plan_certificate.proofs.KeptPaths.{among_listed, listed_among, same_or_apart}
use Rattle.plan_certificate.proofs.LaneRuns.{apart_at}
use Rattle.plan_certificate.proofs.PathTakenOut.{IsApart, apart_back}

passes : {X : Type 0} (test : X → Bool) (xs : List X) (x : X) → list_all test xs ≡ true → Contains xs x → test x ≡ true
passes test xs x all held = All-contains (λ y. test y ≡ true) xs x (AllPass-from_list_all test xs all) held

-- ---- the lanes of a path

abbrev pub HasLane : Advertised → Path → ℕ → Type 0
HasLane advert path lane = set.contains (host_lanes advert path) lane ≡ true

pub has_lane : (advert : Advertised) (path : Path) (lane : ℕ) → path.host ≤ lane → lane < path.host + (app_of advert path).host_lanes → HasLane advert path lane
has_lane advert path lane from to = contains-run_of path.host (app_of advert path).host_lanes lane ∙ grind (arith, nat_tests, from, to)

pub record LaneWithin (advert : Advertised) (path : Path) (lane : ℕ) : Type 0 where
  pub from : path.host ≤ lane
  pub to : lane < path.host + (app_of advert path).host_lanes

pub lane_within : (advert : Advertised) (path : Path) (lane : ℕ) → HasLane advert path lane → LaneWithin advert path lane
lane_within advert path lane has =
    let within = sym (contains-run_of path.host (app_of advert path).host_lanes lane) ∙ has in
    record { from = grind (arith, nat_tests, within); to = grind (arith, nat_tests, within) }

pub not_both : (advert : Advertised) (path other : Path) (lane : ℕ) → IsApart advert path other → HasLane advert path lane → HasLane advert other lane → ⊥
unfolding are_apart
not_both advert path other lane apart has also = apart_at (host_lanes advert path) (host_lanes advert other) (and_parts _ _ apart).0 lane has also

-- ---- lanes that may stay free

pub none_has : (advert : Advertised) (kept : List Path) (lane : ℕ) (path : Path) → may_stay_free advert kept lane ≡ true → Contains kept path → HasLane advert path lane → ⊥
none_has advert kept lane path free held has =
    let lacks = passes (λ (p : Path). not (set.contains (host_lanes advert p) lane)) kept path free held in
    absurd (let wrong = ap not (sym has) ∙ lacks in cc)

-- a kept path that has the lane
pub record HasIt (advert : Advertised) (kept : List Path) (lane : ℕ) : Type 0 where
  pub path : Path
  pub held : Contains kept path
  pub has : HasLane advert path lane

pub one_has : (advert : Advertised) (kept : List Path) (lane : ℕ) → may_stay_free advert kept lane ≡ false → HasIt advert kept lane
one_has advert [] lane not_free = absurd (let wrong : true ≡ false = not_free in cc)
one_has advert (path ∷ kept) lane not_free =
    elim (cases_Bool (set.contains (host_lanes advert path) lane)) [
      | inl has ↦ record { path = path; held = (0, omega arith, refl); has = has }
      | inr lacks ↦
          let rest = one_has advert kept lane (ap (λ (b : Bool). not b && may_stay_free advert kept lane) (sym lacks) ∙ not_free) in
          record { path = rest.path; held = Contains-append_right (path ∷ []) kept rest.path rest.held; has = rest.has }
    ]

-- ---- the paths that may take them

-- an eligible path is a kept one, or apart from each
kept_or_apart : (advert : Advertised) (kept : List Path) (path other : Path) → is_eligible advert kept path ≡ true → Contains kept other → Contains kept path ⊎ IsApart advert other path
kept_or_apart advert kept path other can held =
    elim (or_cases _ _ (and_parts _ _ can).0) [
      | inl among ↦ inl (listed_among kept path among)
      | inr apart ↦ inr (passes (λ (p : Path). are_apart advert p path) kept other apart held)
    ]

-- the kept paths are this one or apart from it
pub same_or_beside : (advert : Advertised) (kept : List Path) (path other : Path) → IsAdmissible advert kept → is_eligible advert kept path ≡ true → Contains kept other → (path ≡ other) ⊎ IsApart advert path other
same_or_beside advert kept path other plan can held =
    elim (kept_or_apart advert kept path other can held) [
      | inl among ↦ same_or_apart advert kept other path plan.apart held among
      | inr apart ↦ inr (apart_back advert other path apart)
    ]

-- the lanes of one that isn't kept may stay free
pub lane_of_other : (advert : Advertised) (kept : List Path) (path : Path) (lane : ℕ) → is_eligible advert kept path ≡ true → is_among kept path ≡ false → HasLane advert path lane → may_stay_free advert kept lane ≡ true
lane_of_other advert kept path lane can not_kept has =
    true_from_ne_false (may_stay_free advert kept lane) (λ taken.
    let one = one_has advert kept lane taken in
    elim (kept_or_apart advert kept path one.path can one.held) [
      | inl among ↦ both_ways (is_among kept path) not_kept (among_listed kept path among)
      | inr apart ↦ not_both advert one.path path lane apart one.has has
    ])
