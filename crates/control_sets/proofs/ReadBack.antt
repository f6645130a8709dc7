-- The control bytes of a plan are host paths.
use Rattle.std.proofs.Common.{◌≡◌, ℕ, ◌+◌, ◌-◌, ◌≤◌, ◌&&◌, ◌||◌, true, List, None, not, sym, subst, ap, ◌∙◌, inl, inr, nat_le, arith}
use Rattle.std.proofs.lemmas.Bool.{and_from, le-leb, or_right}
use Rattle.applications.specs.Advertised.{Advertised}
use Rattle.plan_certificate.specs.declared.path.Path.{Path}
use Rattle.control_sets.specs.declared.control_byte.ControlByte.{ControlByte}
use Rattle.control_sets.specs.ControlBytes.{control_bytes, control_in}
use Rattle.field_tables.specs.LaneSets.{IsLane}
use Rattle.control_sets.specs.HostPaths.{agree, all_agree, are_same, control_at, first_lane, is_reached, is_right, is_used, wrong_lane}
use Rattle.field_tables.proofs.TrueTests.{range_passes}
use Rattle.control_sets.proofs.Bytes.{takes}
use Rattle.control_sets.proofs.Finding.{none_found}
use Rattle.control_sets.proofs.LanesOfPaths.{same_itself}
use Rattle.control_sets.proofs.Owners.{taken_lane, takes_lane}
use Rattle.control_sets.proofs.ToldLanes.{IsPlan, IsPathOf, lane_cases, told_of, told_free}

pub first_of : (path : Path) → 1 ≤ path.host → first_lane (control_in path) ≡ path.host
first_of path from = omega (arith, from)

-- lanes of one path agree
pub path_agrees : (advert : Advertised) (paths : List Path) (path : Path) (lane other : ℕ) → IsPlan advert paths → IsPathOf advert paths path →
    takes advert lane path ≡ true → takes advert other path ≡ true → agree (control_bytes advert paths) lane other ≡ true
path_agrees advert paths path lane other plan of taken other_taken =
    (λ i. are_same (told_of advert paths path lane plan of taken i) (told_of advert paths path other plan of other_taken i)) ∙ same_itself (control_in path)

reached : (advert : Advertised) (paths : List Path) (path : Path) (lane : ℕ) → IsPlan advert paths → IsPathOf advert paths path → takes advert lane path ≡ true →
    is_reached (control_bytes advert paths) lane ≡ true
reached advert paths path lane plan of taken =
    let bytes = control_bytes advert paths in
    let within = taken_lane advert path lane taken in
    let first : first_lane (control_at bytes lane) ≡ path.host = ap first_lane (told_of advert paths path lane plan of taken) ∙ first_of path of.lanes.first in
    let Reached : ℕ → Type 0 = λ first. (nat_le first lane && all_agree bytes first lane) ≡ true in
    subst Reached (sym first)
    (and_from _ _ (le-leb path.host lane within.0)
    (range_passes (agree bytes lane) path.host (lane + 1 - path.host) (λ other from to.
    path_agrees advert paths path lane other plan of taken (takes_lane advert path other from (omega (arith, to, within.0, within.1))))))

pub lane_right : (advert : Advertised) (paths : List Path) (lane : ℕ) → IsPlan advert paths → IsLane lane → is_right (control_bytes advert paths) lane ≡ true
unfolding is_right
lane_right advert paths lane plan within =
    let bytes = control_bytes advert paths in
    elim (lane_cases advert paths lane plan) [
      | inl free ↦ ap (λ (control : ControlByte). not (is_used control) || is_reached bytes lane) (told_free advert paths lane within free)
      | inr (path, of, taken) ↦ or_right _ _ (reached advert paths path lane plan of taken)
    ]

pub no_wrong_lane : (advert : Advertised) (paths : List Path) → IsPlan advert paths → wrong_lane (control_bytes advert paths) ≡ None
unfolding wrong_lane
no_wrong_lane advert paths plan =
    none_found (λ lane. not (is_right (control_bytes advert paths) lane)) 1 8 (λ lane from to. ap not (lane_right advert paths lane plan (from, omega (arith, to))))
