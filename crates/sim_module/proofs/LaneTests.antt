-- The lanes that pass a test, gathered one by one.
use Rattle.std.proofs.Common.{◌≡◌, ℕ, ◌+◌, ◌≤◌, ◌&&◌, ◌||◌, Bool, true, false, sym, ap, ◌∙◌, nat_lt, nat_le, arith}
use Rattle.std.proofs.lemmas.Bool.Decides.{nat_tests}
use Rattle.std.specs.Cmp.{nat_cmp_total}
use Rattle.std.specs.Ordering.{nat_cmp}
use Rattle.std.specs.FinSet as set
use Rattle.std.specs.FinSet.{contains-empty, contains-retain, contains-union, nat_cmp-IsAntisymmetric}
use Rattle.field_tables.specs.LaneSets.{Lanes, every_lane, run_of}
use Rattle.field_tables.specs.LaneBytes.{contains-run_of}
use Rattle.field_tables.proofs.LaneLaws.{same_lanes}

abbrev pub those : (ℕ → Bool) → Lanes
those test = set.retain every_lane test

abbrev pub below : (ℕ → Bool) → ℕ → ℕ → Bool
below test lane q = nat_lt q lane && test q

pub in_those : (test : ℕ → Bool) (q : ℕ) → set.contains (those test) q ≡ (nat_le 1 q && nat_lt q 9 && test q)
in_those test q = contains-retain every_lane test q (λ x tie. ap test (sym (nat_cmp-IsAntisymmetric q x tie))) ∙ ap (λ t. t && test q) (contains-run_of 1 8 q)

none_at : (q : ℕ) (b : Bool) → (nat_le 1 q && nat_lt q 9 && (nat_lt q 1 && b)) ≡ false
none_at q b = grind (arith, nat_tests)

pub none_yet : (test : ℕ → Bool) → set.empty ≡ those (below test 1)
none_yet test = same_lanes set.empty (those (below test 1)) (λ q. contains-empty nat_cmp q ∙ sym (in_those (below test 1) q ∙ none_at q (test q)))

more_at : (q lane : ℕ) (b : Bool) → 1 ≤ lane → lane ≤ 8 → (q ≡ lane → b ≡ true) →
    (nat_le 1 q && nat_lt q 9 && (nat_lt q lane && b) || (nat_le lane q && nat_lt q (lane + 1))) ≡ (nat_le 1 q && nat_lt q 9 && (nat_lt q (lane + 1) && b))
more_at q lane true from to here = grind (arith, nat_tests)
more_at q lane false from to here = grind (arith, nat_tests)

pub one_more : (test : ℕ → Bool) (lane : ℕ) → 1 ≤ lane → lane ≤ 8 → test lane ≡ true → set.union (those (below test lane)) (run_of lane 1) ≡ those (below test (lane + 1))
one_more test lane from to passes = same_lanes _ _ (λ q.
    contains-union nat_cmp_total (those (below test lane)) (run_of lane 1) q
    ∙ (λ i. in_those (below test lane) q i || contains-run_of lane 1 q i)
    ∙ more_at q lane (test q) from to (λ same. ap test same ∙ passes)
    ∙ sym (in_those (below test (lane + 1)) q))

same_at : (q lane : ℕ) (b : Bool) → (q ≡ lane → b ≡ false) → (nat_le 1 q && nat_lt q 9 && (nat_lt q lane && b)) ≡ (nat_le 1 q && nat_lt q 9 && (nat_lt q (lane + 1) && b))
same_at q lane true here = grind (arith, nat_tests)
same_at q lane false here = grind (arith, nat_tests)

pub not_this : (test : ℕ → Bool) (lane : ℕ) → test lane ≡ false → those (below test lane) ≡ those (below test (lane + 1))
not_this test lane fails = same_lanes _ _ (λ q. in_those (below test lane) q ∙ same_at q lane (test q) (λ same. ap test same ∙ fails) ∙ sym (in_those (below test (lane + 1)) q))

all_at : (q : ℕ) (b : Bool) → (nat_le 1 q && nat_lt q 9 && (nat_lt q 9 && b)) ≡ (nat_le 1 q && nat_lt q 9 && b)
all_at q b = grind (arith, nat_tests)

pub all_those : (test : ℕ → Bool) → those (below test 9) ≡ those test
all_those test = same_lanes _ _ (λ q. in_those (below test 9) q ∙ all_at q (test q) ∙ sym (in_those test q))
