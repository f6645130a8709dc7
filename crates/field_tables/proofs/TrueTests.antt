-- Tests that all pass.
use Rattle.std.proofs.Common.{◌≡◌, ℕ, zero, suc, ◌+◌, ◌<◌, ◌≤◌, Bool, true, List, [], ◌∷◌, refl, sym, subst, ap, ◌∙◌, inl, inr, arith}
use Rattle.std.proofs.Math.Nat.{eq-or-lt_of_le}
use Rattle.std.proofs.lemmas.Bool.{and_from, and_parts}
use Rattle.std.specs.Prelude.{Contains}
use Rattle.std.specs.List.{list_all, range_with_len}

-- a test that all numbers from a pass
pub in_range : (test : ℕ → Bool) (a n i : ℕ) → list_all test (range_with_len a n) ≡ true → a ≤ i → i < a + n → test i ≡ true
in_range test a zero i all first last = absurd (omega arith)
in_range test a (suc n) i all first last =
    let parts = and_parts (test a) (list_all test (range_with_len (a + 1) n)) all in
    elim (eq-or-lt_of_le first) [ inl same ↦ subst (λ (k : ℕ). test k ≡ true) same parts.0 | inr above ↦ in_range test (a + 1) n i parts.1 (omega arith) (omega arith) ]

-- where each number from a on passes, all do
pub range_passes : (test : ℕ → Bool) (a n : ℕ) → ((i : ℕ) → a ≤ i → i < a + n → test i ≡ true) → list_all test (range_with_len a n) ≡ true
range_passes test a zero passes = refl
range_passes test a (suc n) passes =
    and_from _ _ (passes a (omega arith) (omega arith)) (range_passes test (a + 1) n (λ i first last. passes i (omega (arith, first)) (omega (arith, last))))

-- a test that all elements pass
pub all_in : {X : Type 0} (test : X → Bool) (xs : List X) (x : X) → list_all test xs ≡ true → Contains xs x → test x ≡ true
all_in test [] x all (k, below, is) = absurd (omega arith)
all_in test (y ∷ xs) x all (zero, below, is) = ap test (sym is) ∙ (and_parts (test y) (list_all test xs) all).0
all_in test (y ∷ xs) x all (suc k, below, is) = all_in test xs x (and_parts (test y) (list_all test xs) all).1 (k, omega arith, is)
