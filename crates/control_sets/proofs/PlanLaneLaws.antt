-- The lanes of a plan are those of its paths.
use Rattle.std.proofs.Common.{◌≡◌, ℕ, zero, suc, ◌+◌, ◌-◌, ◌<◌, ◌==◌, ◌&&◌, ◌||◌, not, Bool, true, false, List, [], ◌∷◌, get_or, take, length, refl, sym, ap, ◌∙◌, nat_le, nat_lt, w8, arith}
use Rattle.std.proofs.Math.Bool.{and-true}
use Rattle.std.proofs.lemmas.Bool.{and_from, and_parts, ltb-true}
use Rattle.std.proofs.lemmas.Bool.Decides.{nat_tests}
use Rattle.std.proofs.lemmas.List.Elements.{All-contains}
use Rattle.std.proofs.lemmas.List.Folds.{Any-from_list_any, list_any_more}
use Rattle.std.specs.Cmp.{nat_cmp_total}
use Rattle.std.specs.FinSet as set
use Rattle.std.specs.FinSet.{contains-empty, contains-retain, contains-union, nat_cmp-IsAntisymmetric, same_set}
use Rattle.std.proofs.lemmas.Nat.Bits.{bit_at-lt, bit_at_not}
use Rattle.std.specs.Int.{bit_at, bit_not}
use Rattle.std.specs.List.{list_any}
use Rattle.std.specs.Ordering.{nat_cmp}
use Rattle.field_tables.specs.LaneBytes.{at_bit, contains-lanes_in, contains-run_of}
use Rattle.field_tables.specs.LaneSets.{Lanes, every_lane, lanes_in}
use Rattle.applications.specs.Advertised.{Advertised}
use Rattle.plan_certificate.specs.declared.path.Path.{Path}
use Rattle.plan_certificate.specs.Paths.{host_lanes, is_allowed}
use Rattle.plan_certificate.specs.Plans.{AreAllowed, Keeps}
use Rattle.control_sets.specs.PlanLanes.{is_taken, lanes_outside, plan_lanes}
use Rattle.control_sets.proofs.Allowed.{lanes_of_allowed}
use Rattle.control_sets.proofs.Bytes.{takes}
use Rattle.control_sets.proofs.Owners.{taken_lane}

-- these are the lanes of these paths
abbrev pub AreLanesOf : Advertised → List Path → Lanes → Type 0
AreLanesOf advert paths lanes = (lane : ℕ) → set.contains lanes lane ≡ list_any (takes advert lane) paths

pub none_taken : (advert : Advertised) (paths : List Path) → AreLanesOf advert (take 0 paths) set.empty
none_taken advert paths lane = contains-empty nat_cmp lane

pub one_more : (advert : Advertised) (paths : List Path) (index : ℕ) (path : Path) (lanes : Lanes) → index < length paths → AreLanesOf advert (take index paths) lanes →
    AreLanesOf advert (take (index + 1) paths) (set.union lanes (host_lanes advert (get_or paths index path)))
one_more advert paths index path lanes below are lane =
    contains-union nat_cmp_total lanes (host_lanes advert (get_or paths index path)) lane
    ∙ ap (λ b. b || takes advert lane (get_or paths index path)) (are lane)
    ∙ sym (list_any_more (takes advert lane) paths index path below)

-- each is one of the eight
inside : (advert : Advertised) (paths : List Path) (lane : ℕ) → AreAllowed advert paths → list_any (takes advert lane) paths ≡ true → set.contains every_lane lane ≡ true
inside advert paths lane allowed some =
    let (k, path, below, here, taken) = Any-from_list_any (takes advert lane) paths some in
    let within = lanes_of_allowed advert path (ap (is_allowed advert) (sym here) ∙ allowed k path below) in
    let lanes = taken_lane advert path lane taken in
    let from : nat_le 1 lane ≡ true = grind (arith, nat_tests, within.first, lanes.0) in
    let to : nat_lt lane (1 + 8) ≡ true = grind (arith, nat_tests, within.last, lanes.1) in
    contains-run_of 1 8 lane ∙ and_from _ _ from to

contains_plan : (advert : Advertised) (paths : List Path) (lane : ℕ) → set.contains (plan_lanes advert paths) lane ≡ (set.contains every_lane lane && list_any (takes advert lane) paths)
unfolding plan_lanes
contains_plan advert paths lane =
    contains-retain every_lane (λ lane. list_any (takes advert lane) paths) lane (λ other tie. ap (λ lane. list_any (takes advert lane) paths) (sym (nat_cmp-IsAntisymmetric lane other tie)))

both : (one other : Bool) → (other ≡ true → one ≡ true) → other ≡ (one && other)
both true other h = refl
both false true h = sym (h refl)
both false false h = refl

pub lanes_are : (advert : Advertised) (paths : List Path) (lanes : Lanes) → AreAllowed advert paths → AreLanesOf advert paths lanes → lanes ≡ plan_lanes advert paths
lanes_are advert paths lanes allowed are =
    same_set nat_cmp_total nat_cmp-IsAntisymmetric lanes (plan_lanes advert paths) (λ lane.
    are lane ∙ both (set.contains every_lane lane) (list_any (takes advert lane) paths) (inside advert paths lane allowed) ∙ sym (contains_plan advert paths lane))

pub contains_outside : (advert : Advertised) (paths : List Path) (lane : ℕ) → set.contains (lanes_outside advert paths) lane ≡ (set.contains every_lane lane && not (is_taken advert paths lane))
unfolding lanes_outside
contains_outside advert paths lane =
    contains-retain every_lane (λ lane. not (is_taken advert paths lane)) lane (λ other tie. ap (λ lane. not (is_taken advert paths lane)) (sym (nat_cmp-IsAntisymmetric lane other tie)))

-- of the lanes of a byte, the others
left_over : (one : Bool) (bit other : ℕ) → bit < 2 → (one ≡ true → other ≡ 1 - bit) → (one && (other == 1)) ≡ (one && not (one && (bit == 1)))
left_over false bit other below flipped = refl
left_over true bit other below flipped = grind (arith, nat_tests, below, flipped refl)

left_taken : (one taken : Bool) → (one && not (one && taken)) ≡ (one && not taken)
left_taken true taken = refl
left_taken false taken = refl

pub others_are : (advert : Advertised) (paths : List Path) (byte : ℕ) → byte < 256 → lanes_in byte ≡ plan_lanes advert paths → lanes_in (bit_not w8 byte) ≡ lanes_outside advert paths
others_are advert paths byte fits are =
    same_set nat_cmp_total nat_cmp-IsAntisymmetric (lanes_in (bit_not w8 byte)) (lanes_outside advert paths) (λ lane.
    let one = set.contains every_lane lane in
    let in_byte : (one && at_bit byte lane) ≡ (one && is_taken advert paths lane) = sym (contains-lanes_in byte lane) ∙ ap (λ (lanes : Lanes). set.contains lanes lane) are ∙ contains_plan advert paths lane in
    let below : one ≡ true → lane - 1 < 8 = λ is_one. (let to = ltb-true lane (1 + 8) (and_parts (nat_le 1 lane) (nat_lt lane (1 + 8)) (sym (contains-run_of 1 8 lane) ∙ is_one)).1 in omega (arith, to)) in
    contains-lanes_in (bit_not w8 byte) lane
    ∙ left_over one (bit_at byte (lane - 1)) (bit_at (bit_not w8 byte) (lane - 1)) (bit_at-lt byte (lane - 1)) (λ is_one. bit_at_not w8 byte (lane - 1) fits (below is_one))
    ∙ ap (λ taken. one && not taken) in_byte
    ∙ left_taken one (is_taken advert paths lane)
    ∙ sym (contains_outside advert paths lane))

-- where there are no paths
pub outside_none : (advert : Advertised) → lanes_outside advert [] ≡ every_lane
outside_none advert =
    same_set nat_cmp_total nat_cmp-IsAntisymmetric (lanes_outside advert []) every_lane (λ lane. contains_outside advert [] lane ∙ and-true (set.contains every_lane lane))

-- of paths that are allowed those that are kept are
pub kept_allowed : (advert : Advertised) (paths kept : List Path) → AreAllowed advert paths → Keeps kept paths → AreAllowed advert kept
kept_allowed advert paths [] allowed keeps k d below = absurd (omega (arith, below))
kept_allowed advert paths (path ∷ kept) allowed keeps zero d below = All-contains (λ path. is_allowed advert path ≡ true) paths path allowed keeps.0
kept_allowed advert paths (path ∷ kept) allowed keeps (suc k) d below = kept_allowed advert paths kept allowed keeps.1 k d (omega (arith, below))
