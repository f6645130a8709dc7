-- Sets of lanes that share none, and their bytes.
use Rattle.std.proofs.Common.{◌≡◌, ℕ, ◌+◌, ◌-◌, ◌^◌, ◌≤◌, ◌<◌, Bool, true, false, if◌then◌else◌, sym, ◌∙◌, arith}
use Rattle.std.proofs.lemmas.Bool.{or_left, or_right}
use Rattle.std.proofs.lemmas.Bool.Decides.{nat_tests}
use Rattle.std.specs.Cmp.{nat_cmp_total}
use Rattle.std.specs.FinSet as set
use Rattle.std.specs.FinSet.{contains-union}
use Rattle.field_tables.specs.LaneSets.{Lanes, run_of, byte_of, is_disjoint}
use Rattle.field_tables.specs.LaneBytes.{contains-run_of}
use Rattle.plan_certificate.proofs.LaneRuns.{apart_at, apart_from}

-- a run that ends before another one begins
pub runs_disjoint : (first count later others : ℕ) → first + count ≤ later → is_disjoint (run_of first count) (run_of later others) ≡ true
runs_disjoint first count later others past =
    apart_from (run_of first count) (run_of later others) (λ q in_first in_later.
    let before = sym (contains-run_of first count q) ∙ in_first in
    let after = sym (contains-run_of later others q) ∙ in_later in
    grind (arith, nat_tests, before, after))

-- lanes apart from a union are apart from both sets
pub disjoint_parts : (s t u : Lanes) → is_disjoint s (set.union t u) ≡ true → (is_disjoint s t ≡ true) × (is_disjoint s u ≡ true)
disjoint_parts s t u none = (
  apart_from s t (λ q in_s in_t. apart_at s (set.union t u) none q in_s (contains-union nat_cmp_total t u q ∙ or_left _ _ in_t)),
  apart_from s u (λ q in_s in_u. apart_at s (set.union t u) none q in_s (contains-union nat_cmp_total t u q ∙ or_right _ _ in_u)),
)

at_most : (b : Bool) (n : ℕ) → (if b then n else 0) ≤ n
at_most true n = omega arith
at_most false n = omega arith

abbrev has : Lanes → ℕ → Bool
has lanes lane = set.contains lanes lane

pub byte_below : (lanes : Lanes) → byte_of lanes < 256
unfolding byte_of
byte_below lanes =
    omega (arith, at_most (has lanes 1) (2 ^ (1 - 1)), at_most (has lanes 2) (2 ^ (2 - 1)), at_most (has lanes 3) (2 ^ (3 - 1)), at_most (has lanes 4) (2 ^ (4 - 1)), at_most (has lanes 5) (2 ^ (5 - 1)), at_most (has lanes 6) (2 ^ (6 - 1)), at_most (has lanes 7) (2 ^ (7 - 1)), at_most (has lanes 8) (2 ^ (8 - 1)))
