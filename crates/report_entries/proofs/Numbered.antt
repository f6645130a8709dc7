-- Lists whose elements are numbered from 1.
use Rattle.std.proofs.Common.{◌≡◌, ℕ, zero, suc, ◌+◌, ◌<◌, ◌≤◌, List, [], ◌∷◌, ◌++◌, length, map, take, get_or, ap, ◌∙◌, arith}
use Rattle.std.proofs.Math.Seq.{take-suc}
use Rattle.std.proofs.lemmas.List.{length-take-le, map-append}
use Rattle.std.specs.List.{enumerate_from, range_with_len}

-- an element more takes the next number
enumerate_more : {X : Type 0} (n : ℕ) (xs : List X) (x : X) → enumerate_from n (xs ++ x ∷ []) ≡ enumerate_from n xs ++ (n + length xs, x) ∷ []
enumerate_more {X} n [] x =
    let same : n ≡ n + 0 = omega arith in
    ap (λ (k : ℕ). (k, x) ∷ []) same
enumerate_more {X} n (y ∷ ys) x =
    let same : n + 1 + length ys ≡ n + suc (length ys) = omega arith in
    ap (λ zs. (n, y) ∷ zs) (enumerate_more (n + 1) ys x ∙ ap (λ (k : ℕ). enumerate_from (n + 1) ys ++ (k, x) ∷ []) same)

-- what is made of the first elements with their numbers, and of one more
pub numbered_more : {X Y : Type 0} (f : ℕ × X → Y) (xs : List X) (k : ℕ) (d : X) → k < length xs →
    map f (enumerate_from 1 (take (k + 1) xs)) ≡ map f (enumerate_from 1 (take k xs)) ++ f (k + 1, get_or xs k d) ∷ []
numbered_more {X} {Y} f xs k d below =
    let x = get_or xs k d in
    let before = take k xs in
    let next : k + 1 ≡ suc k = omega arith in
    let within : k ≤ length xs = omega (arith, below) in
    let last : 1 + k ≡ k + 1 = omega arith in
    let number : 1 + length before ≡ k + 1 = ap (λ (n : ℕ). 1 + n) (length-take-le k xs within) ∙ last in
    ap (λ (n : ℕ). map f (enumerate_from 1 (take n xs))) next
    ∙ ap (λ (zs : List X). map f (enumerate_from 1 zs)) (take-suc xs k d below)
    ∙ ap (map f) (enumerate_more 1 before x)
    ∙ map-append f (enumerate_from 1 before) ((1 + length before, x) ∷ [])
    ∙ ap (λ (n : ℕ). map f (enumerate_from 1 before) ++ f (n, x) ∷ []) number

-- numbers in a row, and the next
pub range_more : (first n : ℕ) → range_with_len first (suc n) ≡ range_with_len first n ++ (first + n) ∷ []
range_more first zero =
    let same : first ≡ first + 0 = omega arith in
    ap (λ (k : ℕ). k ∷ []) same
range_more first (suc n) =
    let same : first + 1 + n ≡ first + suc n = omega arith in
    ap (λ ks. first ∷ ks) (range_more (first + 1) n ∙ ap (λ (k : ℕ). range_with_len (first + 1) n ++ k ∷ []) same)
