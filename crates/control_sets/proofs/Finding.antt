-- What a search finds.
use Rattle.std.proofs.Common.{◌≡◌, ℕ, zero, suc, ◌+◌, ◌<◌, ◌≤◌, Bool, true, false, cond, List, Some, None, find, get_or, length, Contains, refl, sym, ap, ◌∙◌, inl, inr, arith}
use Rattle.std.proofs.lemmas.List.Folds.{find_at}
use Rattle.std.proofs.lemmas.List.Sums.{fails_before_first, passes_at_first}
use Rattle.std.proofs.lemmas.Option.{get_or_from_slice_get, none-some, slice_get_cases, slice_get_within}
use Rattle.std.specs.List.{position_or_len, range_with_len, slice_get}

-- an element that passes
pub found : {X : Type 0} (test : X → Bool) (xs : List X) (x : X) → find test xs ≡ Some x → Contains xs x × (test x ≡ true)
found test xs x is =
    let at : slice_get xs (position_or_len test xs) ≡ Some x = sym (find_at test xs) ∙ is in
    let below = slice_get_within xs (position_or_len test xs) x at in
    let here = get_or_from_slice_get xs (position_or_len test xs) x x at in
    ((position_or_len test xs, below, here), ap test (sym here) ∙ passes_at_first test xs x below)

-- where none is found, none passes
pub absent : {X : Type 0} (test : X → Bool) (xs : List X) (k : ℕ) (d : X) → find test xs ≡ None → k < length xs → test (get_or xs k d) ≡ false
absent test xs k d none below = elim (slice_get_cases xs (position_or_len test xs)).1 [
  | inl (x, within, is, same) ↦ absurd (none-some x (sym none ∙ find_at test xs ∙ is))
  | inr (past, _) ↦ fails_before_first test xs k d (omega (arith, past, below))
]

-- where each number of a row fails, none is found
pub none_found : (test : ℕ → Bool) (a n : ℕ) → ((k : ℕ) → a ≤ k → k < a + n → test k ≡ false) → find test (range_with_len a n) ≡ None
none_found test a zero fails = refl
none_found test a (suc n) fails =
    ap (λ (b : Bool). cond b (Some a) (find test (range_with_len (a + 1) n))) (fails a (omega arith) (omega arith))
    ∙ none_found test (a + 1) n (λ k from to. fails k (omega (arith, from)) (omega (arith, to)))
