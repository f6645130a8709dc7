-- The lanes that two bytes share.
use Rattle.std.proofs.Common.{◌≡◌, ℕ, ◌-◌, ◌&&◌, Bool, true, false, refl, sym, ap, ◌∙◌, arith, bit_and}
use Rattle.std.proofs.lemmas.Bool.Decides.{nat_tests}
use Rattle.std.proofs.lemmas.Nat.Bits.{bit_at_and, bit_at-lt}
use Rattle.std.specs.Cmp.{nat_cmp_total}
use Rattle.std.specs.FinSet as set
use Rattle.std.specs.FinSet.{contains-intersection}
use Rattle.field_tables.specs.LaneBytes.{at_bit, contains-lanes_in}
use Rattle.field_tables.specs.LaneSets.{every_lane, lanes_in}
use Rattle.field_tables.proofs.LaneLaws.{same_lanes}

share : (s x y : Bool) → (s && (x && y)) ≡ ((s && x) && (s && y))
share true x y = refl
share false x y = refl

pub shared_lanes : (a b : ℕ) → lanes_in (bit_and a b) ≡ set.intersection (lanes_in a) (lanes_in b)
shared_lanes a b =
    same_lanes (lanes_in (bit_and a b)) (set.intersection (lanes_in a) (lanes_in b)) (λ lane.
    let shared : at_bit (bit_and a b) lane ≡ (at_bit a lane && at_bit b lane) = grind (arith, nat_tests, bit_at_and a b (lane - 1), bit_at-lt a (lane - 1), bit_at-lt b (lane - 1)) in
    contains-lanes_in (bit_and a b) lane
    ∙ ap (λ t. set.contains every_lane lane && t) shared
    ∙ share (set.contains every_lane lane) (at_bit a lane) (at_bit b lane)
    ∙ sym (contains-intersection nat_cmp_total (lanes_in a) (lanes_in b) lane ∙ (λ i. contains-lanes_in a lane i && contains-lanes_in b lane i)))
