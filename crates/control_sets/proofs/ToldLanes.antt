-- What the lanes of a plan are told.
use Rattle.std.proofs.Common.{◌≡◌, ℕ, ◌+◌, ◌-◌, ◌*◌, ◌/◌, ◌%◌, ◌<◌, ◌≤◌, ◌⊎◌, true, List, Option, Some, None, length, Contains, refl, sym, ap, ◌∙◌, inl, inr, arith}
use Rattle.std.proofs.lemmas.List.FromFn.{get_or-map-range_with_len}
use Rattle.applications.specs.Advertised.{Advertised, InOrder}
use Rattle.plan_certificate.specs.declared.path.Path.{Path}
use Rattle.plan_certificate.specs.Paths.{is_allowed}
use Rattle.plan_certificate.specs.Plans.{IsAdmissible}
use Rattle.control_sets.specs.declared.control_byte.ControlByte.{ControlByte}
use Rattle.control_sets.specs.ControlBytes.{byte_on, byte_saying, control_byte, control_bytes, control_in, control_of, path_on}
use Rattle.field_tables.specs.LaneSets.{IsLane}
use Rattle.control_sets.specs.HostPaths.{control_at}
use Rattle.control_sets.proofs.Allowed.{HasLanes, lanes_of_allowed, number_of_allowed}
use Rattle.control_sets.proofs.Bytes.{takes}
use Rattle.control_sets.proofs.Finding.{found}
use Rattle.control_sets.proofs.Owners.{owner, taken_lane}

-- a plan of what a module advertises
pub record IsPlan (advert : Advertised) (paths : List Path) : Type 0 where
  pub in_order : InOrder advert.apps
  pub few : length advert.apps ≤ 15
  pub admissible : IsAdmissible advert paths

-- a path of a plan
pub record IsPathOf (advert : Advertised) (paths : List Path) (path : Path) : Type 0 where
  pub one : Contains paths path
  pub lanes : HasLanes advert path
  pub from_one : 1 ≤ path.app
  pub to_fifteen : path.app ≤ 15

pub path_of : (advert : Advertised) (paths : List Path) (path : Path) → IsPlan advert paths → Contains paths path → IsPathOf advert paths path
path_of advert paths path plan (k, below, here) =
    let allowed : is_allowed advert path ≡ true = ap (is_allowed advert) (sym here) ∙ plan.admissible.allowed k path below in
    let number = number_of_allowed advert path plan.in_order allowed in
    record {
      one = (k, below, here);
      lanes = lanes_of_allowed advert path allowed;
      from_one = number.0;
      to_fifteen = omega (arith, number.1, plan.few);
    }

read_back : (control : ControlByte) → control.app_sel_code < 16 → control.data_path_id < 8 → control_of (byte_saying control) ≡ control
read_back control code lane =
    let one : (16 * control.app_sel_code + 2 * control.data_path_id) / 16 % 16 ≡ control.app_sel_code = omega arith in
    let other : (16 * control.app_sel_code + 2 * control.data_path_id) / 2 % 8 ≡ control.data_path_id = omega arith in
    (λ i. record { app_sel_code = one i; data_path_id = other i })

told : (advert : Advertised) (paths : List Path) (lane : ℕ) → IsLane lane → control_at (control_bytes advert paths) lane ≡ control_of (byte_on (path_on advert paths lane))
unfolding control_bytes control_byte
told advert paths lane (from, to) = ap control_of (get_or-map-range_with_len (control_byte advert paths) 1 8 (lane - 1) lane 0 (omega (arith, to, from)) (omega (arith, from)))

-- a lane of a path
pub told_of : (advert : Advertised) (paths : List Path) (path : Path) (lane : ℕ) → IsPlan advert paths → IsPathOf advert paths path → takes advert lane path ≡ true →
    control_at (control_bytes advert paths) lane ≡ control_in path
told_of advert paths path lane plan of taken =
    let within = taken_lane advert path lane taken in
    told advert paths lane (omega (arith, within.0, of.lanes.first), omega (arith, within.1, of.lanes.last))
    ∙ ap (λ (o : Option Path). control_of (byte_on o)) (owner advert paths path lane plan.admissible of.one taken)
    ∙ read_back (control_in path) (omega (arith, of.to_fifteen)) (omega (arith, of.lanes.some, of.lanes.last))

-- a lane in no path is told that
pub told_free : (advert : Advertised) (paths : List Path) (lane : ℕ) → IsLane lane → path_on advert paths lane ≡ None → control_at (control_bytes advert paths) lane ≡ control_of 0
told_free advert paths lane within free = told advert paths lane within ∙ ap (λ (o : Option Path). control_of (byte_on o)) free

-- each lane is in no path or in a path of the plan
pub lane_cases : (advert : Advertised) (paths : List Path) (lane : ℕ) → IsPlan advert paths → (path_on advert paths lane ≡ None) ⊎ ((path : Path) × IsPathOf advert paths path × (takes advert lane path ≡ true))
lane_cases advert paths lane plan =
    let Answers : Option Path → Type 0 = λ o. path_on advert paths lane ≡ o → (path_on advert paths lane ≡ None) ⊎ ((path : Path) × IsPathOf advert paths path × (takes advert lane path ≡ true)) in
    elim (path_on advert paths lane) as Answers [
      | None ↦ λ free. inl free
      | Some path ↦ λ is. let one = found (takes advert lane) paths path is in inr (path, path_of advert paths path plan one.0, one.1)
    ] refl
