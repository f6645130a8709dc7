-- A byte is the byte of its lanes, and which lanes those are. (docs/fields.md, "Sets of lanes"; this project's own)
use Rattle.std.proofs.Common.{◌≡◌, ℕ, zero, suc, ◌+◌, ◌-◌, ◌*◌, ◌^◌, ◌<◌, ◌==◌, ◌&&◌, ◌||◌, Bool, true, if◌then◌else◌, sym, ap, ◌∙◌, nat_eq, nat_lt, nat_le, arith, zero-mul, one-mul}
use Rattle.std.proofs.lemmas.Bool.Decides.{nat_tests}
use Rattle.std.proofs.lemmas.Nat.Bits.{bit_at-lt}
use Rattle.std.specs.FinSet as set
use Rattle.std.specs.FinSet.{contains-retain, contains-from_list_nat, nat_cmp-IsAntisymmetric}
use Rattle.std.specs.Int.{bit_at}
use Rattle.std.specs.List.{list_any, range_with_len}
use Rattle.field_tables.specs.LaneSets.{every_lane, run_of, lanes_in, byte_of}

-- ---- the lanes of a byte

-- the test of one lane
abbrev pub at_bit : ℕ → ℕ → Bool
at_bit byte lane = bit_at byte (lane - 1) == 1

any_in_range : (a n q : ℕ) → list_any (λ y. nat_eq y q) (range_with_len a n) ≡ (nat_le a q && nat_lt q (a + n))
any_in_range a zero q = grind (arith, nat_tests)
any_in_range a (suc n) q = ap (λ t. nat_eq a q || t) (any_in_range (a + 1) n q) ∙ grind (arith, nat_tests)

pub contains-run_of : (first count q : ℕ) → set.contains (run_of first count) q ≡ (nat_le first q && nat_lt q (first + count))
unfolding run_of
contains-run_of first count q = contains-from_list_nat (range_with_len first count) q ∙ any_in_range first count q

pub contains-lanes_in : (byte q : ℕ) → set.contains (lanes_in byte) q ≡ (set.contains every_lane q && at_bit byte q)
unfolding lanes_in
contains-lanes_in byte q = contains-retain every_lane (at_bit byte) q (λ x tie. ap (at_bit byte) (sym (nat_cmp-IsAntisymmetric q x tie)))

-- ---- the byte of a set

weighed : (bit p : ℕ) → bit < 2 → (if bit == 1 then p else 0) ≡ bit * p
weighed zero p below = sym (zero-mul p)
weighed (suc zero) p below = sym (one-mul p)
weighed (suc (suc n)) p below = absurd (omega arith)

weight : (byte lane : ℕ) → set.contains every_lane lane ≡ true → (if set.contains (lanes_in byte) lane then 2 ^ (lane - 1) else 0) ≡ bit_at byte (lane - 1) * 2 ^ (lane - 1)
weight byte lane inside =
    let tested : set.contains (lanes_in byte) lane ≡ at_bit byte lane = contains-lanes_in byte lane ∙ ap (λ t. t && at_bit byte lane) inside in
    ap (λ (t : Bool). if t then 2 ^ (lane - 1) else 0) tested ∙ weighed (bit_at byte (lane - 1)) (2 ^ (lane - 1)) (bit_at-lt byte (lane - 1))

-- a byte is the byte of its lanes
pub byte_of-lanes_in : (byte : ℕ) → byte < 256 → byte_of (lanes_in byte) ≡ byte
unfolding byte_of
byte_of-lanes_in byte fits =
    omega (arith, weight byte 1 (contains-run_of 1 8 1), weight byte 2 (contains-run_of 1 8 2), weight byte 3 (contains-run_of 1 8 3), weight byte 4 (contains-run_of 1 8 4), weight byte 5 (contains-run_of 1 8 5), weight byte 6 (contains-run_of 1 8 6), weight byte 7 (contains-run_of 1 8 7), weight byte 8 (contains-run_of 1 8 8))
