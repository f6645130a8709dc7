-- Numbers in a row: one more at the end.
use Rattle.std.proofs.Common.{◌≡◌, ℕ, zero, suc, ◌+◌, Bool, true, false, cond, List, [], ◌∷◌, ◌++◌, map, filter, refl, ap, ◌∙◌, arith}
use Rattle.std.proofs.lemmas.List.{map-append}
use Rattle.std.proofs.lemmas.List.Elements.{filter-append}
use Rattle.std.specs.List.{range_with_len}

range-last : (a n : ℕ) → range_with_len a (suc n) ≡ range_with_len a n ++ (a + n) ∷ []
range-last a zero = let same : a ≡ a + 0 = omega arith in ap (λ (k : ℕ). k ∷ []) same
range-last a (suc n) =
    let same : a + 1 + n ≡ a + suc n = omega arith in
    ap (λ rest. a ∷ rest) (range-last (a + 1) n ∙ ap (λ (k : ℕ). range_with_len (a + 1) n ++ k ∷ []) same)

map_if : {X : Type 0} (f : ℕ → X) (b : Bool) (k : ℕ) → map f (cond b (k ∷ []) []) ≡ cond b (f k ∷ []) []
map_if f true k = refl
map_if f false k = refl

-- what is made of the first numbers from 1 on that pass a test, and of the next one
pub kept_more : {X : Type 0} (f : ℕ → X) (p : ℕ → Bool) (count next : ℕ) → next ≡ count + 1 →
    map f (filter p (range_with_len 1 (count + 1))) ≡ map f (filter p (range_with_len 1 count)) ++ cond (p next) (f next ∷ []) []
kept_more {X} f p count next is =
    let more : count + 1 ≡ suc count = omega arith in
    let last : 1 + count ≡ next = omega (arith, is) in
    let before = range_with_len 1 count in
    ap (λ (n : ℕ). map f (filter p (range_with_len 1 n))) more
    ∙ ap (λ (ks : List ℕ). map f (filter p ks)) (range-last 1 count ∙ ap (λ (n : ℕ). before ++ n ∷ []) last)
    ∙ ap (map f) (filter-append p before (next ∷ []))
    ∙ map-append f (filter p before) (cond (p next) (next ∷ []) [])
    ∙ ap (λ (xs : List X). map f (filter p before) ++ xs) (map_if f (p next) next)
