-- The store that holds down all lanes but a plan's has no bit of a lane of the plan's kept paths.
use Rattle.std.proofs.Common.{◌≡◌, ℕ, ◌-◌, ◌*◌, ◌^◌, ◌<◌, ◌==◌, ◌&&◌, ◌||◌, not, Bool, true, false, List, [], ◌∷◌, cond, if◌then◌else◌, inl, inr, refl, sym, ap, subst, ◌∙◌, arith}
use Rattle.std.proofs.lemmas.Bool.{cases_Bool}
use Rattle.std.proofs.lemmas.Bool.Decides.{nat_tests}
use Rattle.std.specs.FinSet as set
use Rattle.std.specs.FinSet.{contains-retain, nat_cmp-IsAntisymmetric}
use Rattle.std.specs.Int.{bit_at}
use Rattle.std.specs.List.{filter, list_any}
use Rattle.field_tables.specs.LaneBytes.{at_bit, contains-lanes_in, contains-run_of}
use Rattle.field_tables.specs.LaneSets.{IsLane, Lanes, byte_of, every_lane, lanes_in}
use Rattle.applications.specs.Advertised.{Advertised}
use Rattle.plan_certificate.specs.declared.path.Path.{Path}
use Rattle.control_sets.specs.PlanLanes.{is_taken, plan_lanes}
use Rattle.control_sets.proofs.EightLanes.{each_of_eight}

abbrev bit_of : Lanes → ℕ → ℕ
bit_of lanes lane = if set.contains lanes lane then 1 else 0

below_two : (inside : Bool) → (if inside then 1 else 0) < 2
below_two true = omega arith
below_two false = omega arith

scaled : (inside : Bool) (p : ℕ) → (if inside then p else 0) ≡ (if inside then 1 else 0) * p
scaled true p = omega arith
scaled false p = omega arith

weight : (lanes : Lanes) (lane : ℕ) → (if set.contains lanes lane then 2 ^ (lane - 1) else 0) ≡ bit_of lanes lane * 2 ^ (lane - 1)
weight lanes lane = scaled (set.contains lanes lane) (2 ^ (lane - 1))

other_bit : (lanes : Lanes) (lane : ℕ) → IsLane lane → bit_at (255 - byte_of lanes) (lane - 1) ≡ 1 - bit_of lanes lane
unfolding byte_of
other_bit lanes =
    let bit : (n : ℕ) → bit_of lanes n < 2 = λ n. below_two (set.contains lanes n) in
    let w : (n : ℕ) → (if set.contains lanes n then 2 ^ (n - 1) else 0) ≡ bit_of lanes n * 2 ^ (n - 1) = weight lanes in
    each_of_eight (λ lane. bit_at (255 - byte_of lanes) (lane - 1) ≡ 1 - bit_of lanes lane)
    (omega (arith, w 1, w 2, w 3, w 4, w 5, w 6, w 7, w 8, bit 1, bit 2, bit 3, bit 4, bit 5, bit 6, bit 7, bit 8))
    (omega (arith, w 1, w 2, w 3, w 4, w 5, w 6, w 7, w 8, bit 1, bit 2, bit 3, bit 4, bit 5, bit 6, bit 7, bit 8))
    (omega (arith, w 1, w 2, w 3, w 4, w 5, w 6, w 7, w 8, bit 1, bit 2, bit 3, bit 4, bit 5, bit 6, bit 7, bit 8))
    (omega (arith, w 1, w 2, w 3, w 4, w 5, w 6, w 7, w 8, bit 1, bit 2, bit 3, bit 4, bit 5, bit 6, bit 7, bit 8))
    (omega (arith, w 1, w 2, w 3, w 4, w 5, w 6, w 7, w 8, bit 1, bit 2, bit 3, bit 4, bit 5, bit 6, bit 7, bit 8))
    (omega (arith, w 1, w 2, w 3, w 4, w 5, w 6, w 7, w 8, bit 1, bit 2, bit 3, bit 4, bit 5, bit 6, bit 7, bit 8))
    (omega (arith, w 1, w 2, w 3, w 4, w 5, w 6, w 7, w 8, bit 1, bit 2, bit 3, bit 4, bit 5, bit 6, bit 7, bit 8))
    (omega (arith, w 1, w 2, w 3, w 4, w 5, w 6, w 7, w 8, bit 1, bit 2, bit 3, bit 4, bit 5, bit 6, bit 7, bit 8))

gone : (inside : Bool) → ((1 - (if inside then 1 else 0)) == 1) ≡ not inside
gone true = refl
gone false = refl

pub every : (lane : ℕ) → IsLane lane → set.contains every_lane lane ≡ true
every lane within = contains-run_of 1 8 lane ∙ grind (arith, nat_tests)

pub released : (lanes : Lanes) (lane : ℕ) → IsLane lane → set.contains lanes lane ≡ true → set.contains (lanes_in (255 - byte_of lanes)) lane ≡ false
released lanes lane within held =
    contains-lanes_in (255 - byte_of lanes) lane
    ∙ ap (λ (one : Bool). one && at_bit (255 - byte_of lanes) lane) (every lane within)
    ∙ ap (λ (bit : ℕ). bit == 1) (other_bit lanes lane within)
    ∙ gone (set.contains lanes lane)
    ∙ ap not held

any_kept : (f p : Path → Bool) (paths : List Path) → list_any f (filter p paths) ≡ true → list_any f paths ≡ true
any_kept f p [] any = any
any_kept f p (path ∷ paths) any =
    let Has : Bool → Type 0 = λ b. list_any f (cond b (path ∷ filter p paths) (filter p paths)) ≡ true in
    elim (cases_Bool (f path)) [
      | inl has ↦ ap (λ (one : Bool). one || list_any f paths) has
      | inr lacks ↦
          let rest : list_any f (filter p paths) ≡ true =
          elim (cases_Bool (p path)) [
            | inl kept ↦ (let one : Has true = subst Has kept any in sym (ap (λ (b : Bool). b || list_any f (filter p paths)) lacks) ∙ one)
            | inr other ↦ (let one : Has false = subst Has other any in one)
          ] in
          ap (λ (one : Bool). one || list_any f paths) lacks ∙ any_kept f p paths rest
    ]

pub contains_plan : (advert : Advertised) (paths : List Path) (lane : ℕ) → set.contains (plan_lanes advert paths) lane ≡ (set.contains every_lane lane && is_taken advert paths lane)
unfolding plan_lanes
contains_plan advert paths lane =
    contains-retain every_lane (is_taken advert paths) lane (λ other tie. ap (λ (lane : ℕ). is_taken advert paths lane) (sym (nat_cmp-IsAntisymmetric lane other tie)))

-- a lane of some of the plan's paths is one of the plan
pub in_plan : (advert : Advertised) (p : Path → Bool) (plan : List Path) (lanes : Lanes) (lane : ℕ) → lanes ≡ plan_lanes advert plan → IsLane lane → is_taken advert (filter p plan) lane ≡ true → set.contains lanes lane ≡ true
in_plan advert p plan lanes lane is within taken =
    ap (λ (lanes : Lanes). set.contains lanes lane) is
    ∙ contains_plan advert plan lane
    ∙ ap (λ (one : Bool). one && is_taken advert plan lane) (every lane within)
    ∙ any_kept _ p plan taken
