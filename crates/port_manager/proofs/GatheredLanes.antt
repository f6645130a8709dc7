-- The lanes that pass a test, gathered one by one.
use Rattle.std.proofs.Common.{◌≡◌, ℕ, ◌+◌, ◌≤◌, ◌&&◌, ◌||◌, Bool, true, false, sym, ap, ◌∙◌, nat_lt, nat_le, arith}
use Rattle.std.proofs.lemmas.Bool.Decides.{nat_tests}
use Rattle.std.specs.Cmp.{nat_cmp_total}
use Rattle.std.specs.Ordering.{nat_cmp}
use Rattle.std.specs.FinSet as set
use Rattle.std.specs.FinSet.{contains-empty, contains-retain, contains-union, nat_cmp-IsAntisymmetric}
use Rattle.field_tables.specs.LaneSets.{Lanes, every_lane, run_of}
use Rattle.field_tables.specs.LaneBytes.{contains-run_of}
use Rattle.field_tables.proofs.LaneLaws.{same_lanes}

-- of the lanes below this one, those that pass
abbrev pub Gathered : (ℕ → Bool) → ℕ → Lanes → Type 0
Gathered test lane lanes = (q : ℕ) → set.contains lanes q ≡ (nat_le 1 q && nat_lt q lane && test q)

none_at : (q : ℕ) (b : Bool) → false ≡ (nat_le 1 q && nat_lt q 1 && b)
none_at q b = grind (arith, nat_tests)

pub none_yet : (test : ℕ → Bool) → Gathered test 1 set.empty
none_yet test = λ q. contains-empty nat_cmp q ∙ none_at q (test q)

more_at : (q lane : ℕ) (b : Bool) → 1 ≤ lane → (q ≡ lane → b ≡ true) → (nat_le 1 q && nat_lt q lane && b || (nat_le lane q && nat_lt q (lane + 1))) ≡ (nat_le 1 q && nat_lt q (lane + 1) && b)
more_at q lane true from here = grind (arith, nat_tests)
more_at q lane false from here = grind (arith, nat_tests)

pub one_more : (test : ℕ → Bool) (lane : ℕ) (lanes : Lanes) → 1 ≤ lane → test lane ≡ true → Gathered test lane lanes → Gathered test (lane + 1) (set.union lanes (run_of lane 1))
one_more test lane lanes from passes before = λ q.
    contains-union nat_cmp_total lanes (run_of lane 1) q
    ∙ (λ i. before q i || contains-run_of lane 1 q i)
    ∙ more_at q lane (test q) from (λ same. ap test same ∙ passes)

same_at : (q lane : ℕ) (b : Bool) → (q ≡ lane → b ≡ false) → (nat_le 1 q && nat_lt q lane && b) ≡ (nat_le 1 q && nat_lt q (lane + 1) && b)
same_at q lane true here = grind (arith, nat_tests)
same_at q lane false here = grind (arith, nat_tests)

pub not_this : (test : ℕ → Bool) (lane : ℕ) (lanes : Lanes) → test lane ≡ false → Gathered test lane lanes → Gathered test (lane + 1) lanes
not_this test lane lanes fails before = λ q. before q ∙ same_at q lane (test q) (λ same. ap test same ∙ fails)

pub in_those : (test : ℕ → Bool) (q : ℕ) → set.contains (set.retain every_lane test) q ≡ (nat_le 1 q && nat_lt q 9 && test q)
in_those test q = contains-retain every_lane test q (λ x tie. ap test (sym (nat_cmp-IsAntisymmetric q x tie))) ∙ ap (λ t. t && test q) (contains-run_of 1 8 q)

pub all_those : (test : ℕ → Bool) (lanes : Lanes) → Gathered test 9 lanes → lanes ≡ set.retain every_lane test
all_those test lanes before = same_lanes lanes (set.retain every_lane test) (λ q. before q ∙ sym (in_those test q))
