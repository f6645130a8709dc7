-- A byte of which only some bits are changed, bit by bit and lane by lane.
use Rattle.std.proofs.Common.{◌≡◌, ℕ, zero, suc, ◌-◌, ◌<◌, ◌==◌, ◌&&◌, min, max, Bool, true, false, if◌then◌else◌, nat_lt, nat_le, arith, refl, sym, ap, ◌∙◌, bit_and}
use Rattle.std.proofs.lemmas.Bool.{and_parts, ltb-true}
use Rattle.std.proofs.lemmas.Nat.Bits.{bit_at_and, bit_at_or, bit_at_not, bit_at-zero, bit_at-lt, bit_at_ones}
use Rattle.std.proofs.Common.{w8}
use Rattle.std.specs.FinSet as set
use Rattle.std.specs.Int.{bit_at}
use Rattle.field_tables.specs.LaneSets.{every_lane, lanes_in}
use Rattle.field_tables.specs.LaneBytes.{at_bit, contains-run_of, contains-lanes_in}
use Rattle.lane_controls.specs.Merging.{TakesBitsOfMask, merged}
use Rattle.lane_controls.specs.LaneChanges.{bits_of}

one_bit : (m b old : ℕ) → m < 2 → b < 2 → old < 2 → max (min old (1 - m)) (min b m) ≡ (if m == 1 then b else old)
one_bit zero b old m_fits b_fits old_fits = omega arith
one_bit (suc zero) b old m_fits b_fits old_fits = omega arith
one_bit (suc (suc n)) b old m_fits b_fits old_fits = absurd (omega arith)

pub takes_bits : (mask bits byte : ℕ) → mask < 256 → TakesBitsOfMask mask bits byte (merged mask bits byte)
unfolding merged
takes_bits mask bits byte fits i within =
    let kept : bit_at (255 - mask) i ≡ 1 - bit_at mask i = bit_at_not w8 mask i fits within in
    let left : bit_at (bit_and byte (255 - mask)) i ≡ min (bit_at byte i) (1 - bit_at mask i) = bit_at_and byte (255 - mask) i ∙ ap (min (bit_at byte i)) kept in
    bit_at_or (bit_and byte (255 - mask)) (bit_and bits mask) i
    ∙ (λ k. max (left k) (bit_at_and bits mask i k))
    ∙ one_bit (bit_at mask i) (bit_at bits i) (bit_at byte i) (bit_at-lt mask i) (bit_at-lt bits i) (bit_at-lt byte i)

bit_of_all : (on : Bool) (i : ℕ) → i < 8 → (bit_at (bits_of on) i == 1) ≡ on
bit_of_all true i within = ap (λ b. b == 1) (bit_at_ones 8 i within)
bit_of_all false i within = ap (λ b. b == 1) (bit_at-zero i)

is_one : (b : Bool) (x y : ℕ) → ((if b then x else y) == 1) ≡ (if b then x == 1 else y == 1)
is_one true x y = refl
is_one false x y = refl

lane_of : (inside m old stored on : Bool) → (inside ≡ true → stored ≡ (if m then on else old)) → (inside && stored) ≡ (if inside && m then on else (inside && old))
lane_of true m old stored on same = same refl
lane_of false m old stored on same = refl

pub takes_lanes : (mask byte : ℕ) (on : Bool) (lane : ℕ) → mask < 256
    → set.contains (lanes_in (merged mask (bits_of on) byte)) lane ≡ (if set.contains (lanes_in mask) lane then on else set.contains (lanes_in byte) lane)
takes_lanes mask byte on lane fits =
    contains-lanes_in (merged mask (bits_of on) byte) lane
    ∙ lane_of (set.contains every_lane lane) (at_bit mask lane) (at_bit byte lane) (at_bit (merged mask (bits_of on) byte) lane) on same
    ∙ sym (λ i. if contains-lanes_in mask lane i then on else contains-lanes_in byte lane i)
  where
    same : set.contains every_lane lane ≡ true → at_bit (merged mask (bits_of on) byte) lane ≡ (if at_bit mask lane then on else at_bit byte lane)
    same inside =
        let parts = and_parts (nat_le 1 lane) (nat_lt lane 9) (sym (contains-run_of 1 8 lane) ∙ inside) in
        let below : lane < 9 = ltb-true lane 9 parts.1 in
        let within : lane - 1 < 8 = omega (arith, below) in
        ap (λ b. b == 1) (takes_bits mask (bits_of on) byte fits (lane - 1) within)
        ∙ is_one (at_bit mask lane) (bit_at (bits_of on) (lane - 1)) (bit_at byte (lane - 1))
        ∙ ap (λ (b : Bool). if at_bit mask lane then b else at_bit byte lane) (bit_of_all on (lane - 1) within)
