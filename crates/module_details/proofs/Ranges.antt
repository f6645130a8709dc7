-- Lists of something of each number of a range, one number longer; and what all numbers of a range keep to.
use Rattle.std.proofs.Common.{◌≡◌, ℕ, ◌+◌, ◌≤◌, ◌<◌, Bool, true, List, [], ◌∷◌, ◌++◌, map, append-nil, sym, ap, ◌∙◌, arith}
use Rattle.std.specs.List.{flat_map, list_all, range_with_len}
use Rattle.std.proofs.lemmas.Grind.{flat_map-append}
use Rattle.std.proofs.lemmas.List.{map-id}
use Rattle.std.proofs.lemmas.List.FromFn.{map-range_with_len_more}
use Rattle.field_tables.proofs.TrueTests.{in_range}

range_more : (n : ℕ) → range_with_len 1 (n + 1) ≡ range_with_len 1 n ++ (n + 1) ∷ []
range_more n =
    let next : 1 + n ≡ n + 1 = omega arith in
    sym (map-id (range_with_len 1 (n + 1)))
    ∙ map-range_with_len_more (λ (x : ℕ). x) 1 n (n + 1) next
    ∙ ap (λ (xs : List ℕ). xs ++ (n + 1) ∷ []) (map-id (range_with_len 1 n))

pub flat_map_more : {A : Type 0} (f : ℕ → List A) (n : ℕ) → flat_map f (range_with_len 1 (n + 1)) ≡ flat_map f (range_with_len 1 n) ++ f (n + 1)
flat_map_more f n =
    ap (flat_map f) (range_more n)
    ∙ flat_map-append f (range_with_len 1 n) ((n + 1) ∷ [])
    ∙ ap (λ xs. flat_map f (range_with_len 1 n) ++ xs) (append-nil (f (n + 1)))

-- a test that all numbers of a range pass
pub of_range : (test : ℕ → Bool) (count i : ℕ) → list_all test (range_with_len 1 count) ≡ true → 1 ≤ i → i ≤ count → test i ≡ true
of_range test count i all first last = in_range test 1 count i all first (omega (arith, last))
