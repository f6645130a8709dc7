-- Each host lane of a plan's path is of that path alone.
use Rattle.std.proofs.Common.{◌≡◌, ℕ, ◌+◌, ◌<◌, ◌≤◌, ◌&&◌, true, false, List, Option, Some, None, get_or, length, Contains, refl, sym, ap, ◌∙◌, inl, inr, nat_le, nat_lt, arith}
use Rattle.std.proofs.lemmas.Bool.{and_parts, cases_order, eqb-true, leb-true, ltb-true}
use Rattle.std.proofs.lemmas.Bool.Decides.{nat_tests}
use Rattle.std.proofs.lemmas.List.{get_or_default}
use Rattle.std.specs.Cmp.{nat_cmp_total}
use Rattle.std.specs.FinSet as set
use Rattle.std.specs.FinSet.{contains-empty, contains-intersection, empty_of_len}
use Rattle.std.specs.Ordering.{nat_cmp}
use Rattle.field_tables.specs.LaneSets.{Lanes, is_disjoint}
use Rattle.field_tables.specs.LaneBytes.{contains-run_of}
use Rattle.applications.specs.Advertised.{Advertised}
use Rattle.plan_certificate.specs.declared.path.Path.{Path}
use Rattle.plan_certificate.specs.Paths.{app_of, host_lanes}
use Rattle.plan_certificate.specs.Plans.{are_apart, IsAdmissible}
use Rattle.control_sets.specs.ControlBytes.{path_on}
use Rattle.control_sets.proofs.Bytes.{takes}
use Rattle.control_sets.proofs.Finding.{found, absent}

-- no lane is in both of two sets that share none
shared_none : (lanes others : Lanes) (lane : ℕ) → is_disjoint lanes others ≡ true → set.contains lanes lane ≡ true → set.contains others lane ≡ true → ⊥
shared_none lanes others lane disjoint in_one in_other =
    let both : set.contains (set.intersection lanes others) lane ≡ true = contains-intersection nat_cmp_total lanes others lane ∙ (λ i. in_one i && in_other i) in
    let neither : set.contains (set.intersection lanes others) lane ≡ false =
    ap (λ (s : Lanes). set.contains s lane) (empty_of_len (set.intersection lanes others) (eqb-true _ _ disjoint)) ∙ contains-empty nat_cmp lane in
    let wrong = sym both ∙ neither in
    cc

apart_lanes : (advert : Advertised) (path other : Path) → are_apart advert path other ≡ true → is_disjoint (host_lanes advert path) (host_lanes advert other) ≡ true
unfolding are_apart
apart_lanes advert path other apart = (and_parts _ _ apart).0

one_owner : (advert : Advertised) (paths : List Path) (lane i j : ℕ) (d : Path) → IsAdmissible advert paths → i < length paths → j < length paths →
    takes advert lane (get_or paths i d) ≡ true → takes advert lane (get_or paths j d) ≡ true → get_or paths i d ≡ get_or paths j d
one_owner advert paths lane i j d plan i_below j_below i_takes j_takes =
    let path = get_or paths i d in
    let other = get_or paths j d in
    elim (cases_order i j) [
      | inl same ↦ ap (λ (k : ℕ). get_or paths k d) same
      | inr apart ↦ elim apart [
        | inl before ↦ absurd (shared_none (host_lanes advert path) (host_lanes advert other) lane (apart_lanes advert path other (plan.apart i j d before j_below)) i_takes j_takes)
        | inr after ↦ absurd (shared_none (host_lanes advert other) (host_lanes advert path) lane (apart_lanes advert other path (plan.apart j i d after i_below)) j_takes i_takes)
      ]
    ]

-- a path of the plan is found at each of its lanes
pub owner : (advert : Advertised) (paths : List Path) (path : Path) (lane : ℕ) → IsAdmissible advert paths → Contains paths path → takes advert lane path ≡ true → path_on advert paths lane ≡ Some path
owner advert paths path lane plan (k, below, here) taken =
    let at_k : takes advert lane (get_or paths k path) ≡ true = ap (takes advert lane) here ∙ taken in
    let Answers : Option Path → Type 0 = λ o. path_on advert paths lane ≡ o → o ≡ Some path in
    elim (path_on advert paths lane) as Answers [
      | None ↦ λ none. absurd (let free = absent (takes advert lane) paths k path none below in let wrong = sym at_k ∙ free in cc)
      | Some other ↦ λ is.
          let one = found (takes advert lane) paths other is in
          let at_j : get_or paths one.0.0 path ≡ other = get_or_default paths one.0.0 path other one.0.1 ∙ one.0.2 in
          let same = one_owner advert paths lane one.0.0 k path plan one.0.1 below (ap (takes advert lane) at_j ∙ one.1) at_k in
          ap (λ (p : Path). Some p) (sym at_j ∙ same ∙ here)
    ] refl

-- the lanes of a path are those from its first one on, so many as its Application has
pub takes_run : (advert : Advertised) (path : Path) (lane : ℕ) → takes advert lane path ≡ (nat_le path.host lane && nat_lt lane (path.host + (app_of advert path).host_lanes))
takes_run advert path lane = contains-run_of path.host (app_of advert path).host_lanes lane

pub taken_lane : (advert : Advertised) (path : Path) (lane : ℕ) → takes advert lane path ≡ true → (path.host ≤ lane) × (lane < path.host + (app_of advert path).host_lanes)
taken_lane advert path lane taken =
    let within = and_parts (nat_le path.host lane) (nat_lt lane (path.host + (app_of advert path).host_lanes)) (sym (takes_run advert path lane) ∙ taken) in
    (leb-true _ _ within.0, ltb-true _ _ within.1)

pub takes_lane : (advert : Advertised) (path : Path) (lane : ℕ) → path.host ≤ lane → lane < path.host + (app_of advert path).host_lanes → takes advert lane path ≡ true
takes_lane advert path lane from to = takes_run advert path lane ∙ grind (arith, nat_tests)
