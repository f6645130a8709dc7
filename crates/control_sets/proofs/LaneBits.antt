-- The byte of some lanes has their bits, and no others.
use Rattle.std.proofs.Common.{◌≡◌, ℕ, ◌-◌, ◌*◌, ◌^◌, ◌<◌, ◌==◌, ◌&&◌, Bool, true, false, if◌then◌else◌, refl, ap, ◌∙◌, arith}
use Rattle.std.proofs.lemmas.Bool.Decides.{nat_tests}
use Rattle.std.specs.FinSet as set
use Rattle.std.specs.Int.{bit_at}
use Rattle.field_tables.specs.LaneBytes.{at_bit, contains-lanes_in, contains-run_of}
use Rattle.field_tables.specs.LaneSets.{IsLane, Lanes, byte_of, every_lane, lanes_in}
use Rattle.control_sets.proofs.EightLanes.{each_of_eight}

-- 1 for a lane that is in the set
abbrev bit_of : Lanes → ℕ → ℕ
bit_of lanes lane = if set.contains lanes lane then 1 else 0

below_two : (inside : Bool) → (if inside then 1 else 0) < 2
below_two true = omega arith
below_two false = omega arith

scaled : (inside : Bool) (p : ℕ) → (if inside then p else 0) ≡ (if inside then 1 else 0) * p
scaled true p = omega arith
scaled false p = omega arith

weight : (lanes : Lanes) (lane : ℕ) → (if set.contains lanes lane then 2 ^ (lane - 1) else 0) ≡ bit_of lanes lane * 2 ^ (lane - 1)
weight lanes lane = scaled (set.contains lanes lane) (2 ^ (lane - 1))

bit_in_byte : (lanes : Lanes) (lane : ℕ) → IsLane lane → bit_at (byte_of lanes) (lane - 1) ≡ bit_of lanes lane
unfolding byte_of
bit_in_byte lanes =
    let bit : (n : ℕ) → bit_of lanes n < 2 = λ n. below_two (set.contains lanes n) in
    let w : (n : ℕ) → (if set.contains lanes n then 2 ^ (n - 1) else 0) ≡ bit_of lanes n * 2 ^ (n - 1) = weight lanes in
    each_of_eight (λ lane. bit_at (byte_of lanes) (lane - 1) ≡ bit_of lanes lane)
    (omega (arith, w 1, w 2, w 3, w 4, w 5, w 6, w 7, w 8, bit 1, bit 2, bit 3, bit 4, bit 5, bit 6, bit 7, bit 8))
    (omega (arith, w 1, w 2, w 3, w 4, w 5, w 6, w 7, w 8, bit 1, bit 2, bit 3, bit 4, bit 5, bit 6, bit 7, bit 8))
    (omega (arith, w 1, w 2, w 3, w 4, w 5, w 6, w 7, w 8, bit 1, bit 2, bit 3, bit 4, bit 5, bit 6, bit 7, bit 8))
    (omega (arith, w 1, w 2, w 3, w 4, w 5, w 6, w 7, w 8, bit 1, bit 2, bit 3, bit 4, bit 5, bit 6, bit 7, bit 8))
    (omega (arith, w 1, w 2, w 3, w 4, w 5, w 6, w 7, w 8, bit 1, bit 2, bit 3, bit 4, bit 5, bit 6, bit 7, bit 8))
    (omega (arith, w 1, w 2, w 3, w 4, w 5, w 6, w 7, w 8, bit 1, bit 2, bit 3, bit 4, bit 5, bit 6, bit 7, bit 8))
    (omega (arith, w 1, w 2, w 3, w 4, w 5, w 6, w 7, w 8, bit 1, bit 2, bit 3, bit 4, bit 5, bit 6, bit 7, bit 8))
    (omega (arith, w 1, w 2, w 3, w 4, w 5, w 6, w 7, w 8, bit 1, bit 2, bit 3, bit 4, bit 5, bit 6, bit 7, bit 8))

is_one : (inside : Bool) → ((if inside then 1 else 0) == 1) ≡ inside
is_one true = refl
is_one false = refl

pub in_byte_of : (lanes : Lanes) (lane : ℕ) → IsLane lane → set.contains (lanes_in (byte_of lanes)) lane ≡ set.contains lanes lane
in_byte_of lanes lane within =
    let among : set.contains every_lane lane ≡ true = contains-run_of 1 8 lane ∙ grind (arith, nat_tests) in
    contains-lanes_in (byte_of lanes) lane
    ∙ ap (λ (one : Bool). one && at_bit (byte_of lanes) lane) among
    ∙ ap (λ (bit : ℕ). bit == 1) (bit_in_byte lanes lane within)
    ∙ is_one (set.contains lanes lane)
