-- The lanes of paths that are up, and what permission to disturb them means.
use Rattle.std.proofs.Common.{◌≡◌, ℕ, zero, suc, ◌+◌, ◌-◌, ◌*◌, ◌/◌, ◌%◌, ◌<◌, ◌==◌, min, not, Bool, true, false, if◌then◌else◌, List, slice_index, arith, refl, ap, ◌∙◌, bit_and, w8}
use Rattle.std.proofs.lemmas.Bool.{eqb-true}
use Rattle.std.proofs.lemmas.Nat.Bits.{bit_at_and, bit_at_not, bit_at-zero, bit_at-lt}
use Rattle.std.specs.Int.{bit_at}
use Rattle.lane_controls.specs.declared.lane_change.LaneChange.{LaneChange}
use Rattle.lane_controls.specs.declared.test_plan.Switch.{Switch}
use Rattle.lane_controls.specs.declared.test_plan.TestPlan.{TestPlan}
use Rattle.lane_controls.specs.Controls.{host_lanes}
use Rattle.lane_controls.specs.LaneChanges.{concerned, disturbed}
use Rattle.lane_controls.specs.TestPlans.{allows, up_lanes}
use Rattle.lane_controls.specs.PathLanes.{is_up}

abbrev one : Bool → ℕ
one b = if b then 0 else 1

abbrev two : Bool → ℕ
two b = if b then 0 else 2

one_fits : (b : Bool) → one b < 2
one_fits true = omega arith
one_fits false = omega arith

twice : (b : Bool) → two b ≡ 2 * one b
twice true = refl
twice false = refl

is_one : (b : Bool) → not b ≡ true → one b ≡ 1
is_one true e = absurd cc
is_one false e = refl

module _ (a0 b0 a1 b1 a2 b2 a3 b3 : ℕ) where
  abbrev digits : ℕ
  digits = (a0 + 2 * b0) + (a1 + 2 * b1) * 4 + (a2 + 2 * b2) * 16 + (a3 + 2 * b3) * 64

module _ (states : List ℕ) where
  abbrev low : ℕ → Bool
  low k = slice_index states k % 16 == 1

  abbrev high : ℕ → Bool
  high k = slice_index states k / 16 == 1

  abbrev is_lane_up : ℕ → Type 0
  is_lane_up i = is_up states i ≡ true → bit_at (up_lanes states) i ≡ 1

  up_0 : is_lane_up 0
  unfolding up_lanes
  up_0 up = omega (arith, is_one (low 0) up, twice (high 0), twice (high 1), twice (high 2), twice (high 3), one_fits (low 0), one_fits (low 1), one_fits (low 2), one_fits (low 3))

  up_1 : is_lane_up 1
  unfolding up_lanes
  up_1 up = omega (arith, is_one (high 0) up, twice (high 0), twice (high 1), twice (high 2), twice (high 3), one_fits (low 0), one_fits (low 1), one_fits (low 2), one_fits (low 3))

  up_2 : is_lane_up 2
  unfolding up_lanes
  up_2 up = omega (arith, is_one (low 1) up, twice (high 0), twice (high 1), twice (high 2), twice (high 3), one_fits (low 0), one_fits (high 0), one_fits (low 2), one_fits (low 3))

  up_3 : is_lane_up 3
  unfolding up_lanes
  up_3 up = omega (arith, is_one (high 1) up, twice (high 0), twice (high 1), twice (high 2), twice (high 3), one_fits (low 0), one_fits (high 0), one_fits (low 1), one_fits (low 2), one_fits (low 3))

  up_4 : is_lane_up 4
  unfolding up_lanes
  up_4 up = omega (arith, is_one (low 2) up, twice (high 0), twice (high 1), twice (high 2), twice (high 3), one_fits (low 0), one_fits (high 0), one_fits (low 1), one_fits (high 1), one_fits (low 3))

  up_5 : is_lane_up 5
  unfolding up_lanes
  up_5 up = omega (arith, is_one (high 2) up, twice (high 0), twice (high 1), twice (high 2), twice (high 3), one_fits (low 0), one_fits (high 0), one_fits (low 1), one_fits (high 1), one_fits (low 2), one_fits (low 3))

  up_6 : is_lane_up 6
  unfolding up_lanes
  up_6 up = omega (arith, is_one (low 3) up, twice (high 0), twice (high 1), twice (high 2), twice (high 3), one_fits (low 0), one_fits (high 0), one_fits (low 1), one_fits (high 1), one_fits (low 2), one_fits (high 2))

  up_7 : is_lane_up 7
  unfolding up_lanes
  up_7 up = omega (arith, is_one (high 3) up, twice (high 0), twice (high 1), twice (high 2), twice (high 3), one_fits (low 0), one_fits (high 0), one_fits (low 1), one_fits (high 1), one_fits (low 2), one_fits (high 2), one_fits (low 3))

  pub up_bit : (i : ℕ) → i < 8 → is_lane_up i
  up_bit zero below = up_0
  up_bit (suc zero) below = up_1
  up_bit (suc (suc zero)) below = up_2
  up_bit (suc (suc (suc zero))) below = up_3
  up_bit (suc (suc (suc (suc zero)))) below = up_4
  up_bit (suc (suc (suc (suc (suc zero))))) below = up_5
  up_bit (suc (suc (suc (suc (suc (suc zero)))))) below = up_6
  up_bit (suc (suc (suc (suc (suc (suc (suc zero))))))) below = up_7
  up_bit (suc (suc (suc (suc (suc (suc (suc (suc n)))))))) below = absurd (omega (arith, below))

-- a lane that is concerned and up is permitted, where none is that isn't
permitted_bit : (lanes up permitted i : ℕ) → permitted < 256 → bit_and (bit_and lanes up) (255 - permitted) ≡ 0 → i < 8 → bit_at lanes i ≡ 1 → bit_at up i ≡ 1 → bit_at permitted i ≡ 1
permitted_bit lanes up permitted i fits nothing below touches is =
    let both = bit_and lanes up in
    let none : bit_at (bit_and both (255 - permitted)) i ≡ 0 = ap (λ n. bit_at n i) nothing ∙ bit_at-zero i in
    let kept : bit_at (255 - permitted) i ≡ 1 - bit_at permitted i = bit_at_not w8 permitted i fits below in
    let whole : bit_at (bit_and both (255 - permitted)) i ≡ min (bit_at both i) (bit_at (255 - permitted) i) = bit_at_and both (255 - permitted) i in
    let part : bit_at both i ≡ min (bit_at lanes i) (bit_at up i) = bit_at_and lanes up i in
    let bound : bit_at permitted i < 2 = bit_at-lt permitted i in
    join (bit_at (bit_and both (255 - permitted)) i) (bit_at both i) (bit_at (255 - permitted) i) (bit_at lanes i) (bit_at up i) (bit_at permitted i) none kept whole part touches is bound
  where
    join : (w b k l u p : ℕ) → w ≡ 0 → k ≡ 1 - p → w ≡ min b k → b ≡ min l u → l ≡ 1 → u ≡ 1 → p < 2 → p ≡ 1
    join w b k l u p none kept whole part touches is bound = omega (arith, none, kept, whole, part, touches, is, bound)

pub change_needs_permission : (change : LaneChange) (states : List ℕ) → change.permitted < 256 → disturbed change states ≡ 0 → (i : ℕ) → i < 8
    → bit_at (concerned change) i ≡ 1 → is_up states i ≡ true → bit_at change.permitted i ≡ 1
unfolding disturbed
change_needs_permission change states fits nothing i below touches up =
    permitted_bit (concerned change) (up_lanes states) change.permitted i fits nothing below touches (up_bit states i below up)

pub needs_permission : (plan : TestPlan) (states : List ℕ) (switch : Switch) → plan.permitted < 256 → allows plan (up_lanes states) switch ≡ true → (i : ℕ) → i < 8
    → bit_at (host_lanes plan.media_paths switch.control switch.mask) i ≡ 1 → is_up states i ≡ true → bit_at plan.permitted i ≡ 1
unfolding allows
needs_permission plan states switch fits allowed i below touches up =
    let lanes = host_lanes plan.media_paths switch.control switch.mask in
    let nothing = eqb-true (bit_and (bit_and lanes (up_lanes states)) (255 - plan.permitted)) 0 allowed in
    permitted_bit lanes (up_lanes states) plan.permitted i fits nothing below touches (up_bit states i below up)
