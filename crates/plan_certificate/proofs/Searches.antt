-- Searches from the front of a list, one element after another: what is left to search.
use Rattle.std.proofs.Common.{◌≡◌, ◌&&◌, ◌||◌, map, option_map, ℕ, suc, ◌+◌, ◌<◌, ◌≤◌, Bool, true, false, List, [], ◌∷◌, ◌++◌, Some, None, length, drop, get_or, refl, ap, ◌∙◌, cond, arith}
use Rattle.std.proofs.Math.Seq.{drop-cons}
use Rattle.std.proofs.Math.ListN.{drop_of_length-le}
use Rattle.std.proofs.lemmas.List.Concat.{flat_map_single}
use Rattle.std.proofs.lemmas.List.FromFn.{get_or-enumerate_from, length-enumerate_from}
use Rattle.std.specs.List.{flat_map, enumerate_from, list_all, list_any}
use Rattle.field_tables.specs.FirstFault.{first_fault}

abbrev rest_from : {X : Type 0} → ℕ → List X → List X
rest_from k xs = drop (k + 1) xs

next : {X : Type 0} (xs : List X) (k : ℕ) (d : X) → k < length xs → drop k xs ≡ get_or xs k d ∷ rest_from k xs
next xs k d below = drop-cons xs k d below ∙ (let one : suc k ≡ k + 1 = omega arith in ap (λ n. get_or xs k d ∷ drop n xs) one)

pub none_left : {X : Type 0} (xs : List X) (k : ℕ) → length xs ≤ k → drop k xs ≡ []
none_left xs k past = drop_of_length-le xs past

-- ---- the first of several faults

abbrev Faults : Type 0 → Type 0
Faults F = List (Bool × F)

pub applies : {F : Type 0} (b : Bool) (v : F) (rest : Faults F) → b ≡ true → first_fault ((b, v) ∷ rest) ≡ Some v
applies b v rest is = ap (λ c. first_fault ((c, v) ∷ rest)) is

pub passes : {F : Type 0} (b : Bool) (v : F) (rest : Faults F) → b ≡ false → first_fault ((b, v) ∷ rest) ≡ first_fault rest
passes b v rest is = ap (λ c. first_fault ((c, v) ∷ rest)) is

pub first_then : {F : Type 0} (xs ys : Faults F) (v : F) → first_fault xs ≡ Some v → first_fault (xs ++ ys) ≡ Some v
first_then [] ys v is = absurd cc
first_then ((true, f) ∷ xs) ys v is = is
first_then ((false, f) ∷ xs) ys v is = first_then xs ys v is

pub none_then : {F : Type 0} (xs ys : Faults F) → first_fault xs ≡ None → first_fault (xs ++ ys) ≡ first_fault ys
none_then [] ys is = refl
none_then ((true, f) ∷ xs) ys is = absurd cc
none_then ((false, f) ∷ xs) ys is = none_then xs ys is

-- of the faults of each element in turn
fault_here : {X F : Type 0} (faults : X → Faults F) (xs : List X) (k : ℕ) (d : X) (v : F) → k < length xs → first_fault (faults (get_or xs k d)) ≡ Some v → first_fault (flat_map faults (drop k xs)) ≡ Some v
fault_here faults xs k d v below is =
    ap (λ ys. first_fault (flat_map faults ys)) (next xs k d below) ∙ first_then (faults (get_or xs k d)) (flat_map faults (rest_from k xs)) v is

fault_later : {X F : Type 0} (faults : X → Faults F) (xs : List X) (k : ℕ) (d : X) → k < length xs → first_fault (faults (get_or xs k d)) ≡ None → first_fault (flat_map faults (drop k xs)) ≡ first_fault (flat_map faults (drop (k + 1) xs))
fault_later faults xs k d below is =
    ap (λ ys. first_fault (flat_map faults ys)) (next xs k d below) ∙ none_then (faults (get_or xs k d)) (flat_map faults (rest_from k xs)) is

-- ---- elements that are numbered from 1

pub numbered_at : {X : Type 0} (xs : List X) (k : ℕ) (d : X) → k < length xs → get_or (enumerate_from 1 xs) k (k + 1, d) ≡ (k + 1, get_or xs k d)
numbered_at xs k d below = get_or-enumerate_from 1 xs k (k + 1, d) below ∙ (let one : 1 + k ≡ k + 1 = omega arith in ap (λ n. (n, get_or xs k d)) one)

pub numbered_below : {X : Type 0} (xs : List X) (k : ℕ) → k < length xs → k < length (enumerate_from 1 xs)
numbered_below xs k below = omega (arith, below, length-enumerate_from 1 xs)

none_left_numbered : {X : Type 0} (xs : List X) (k : ℕ) → length xs ≤ k → drop k (enumerate_from 1 xs) ≡ []
none_left_numbered xs k past = none_left (enumerate_from 1 xs) k (omega (arith, past, length-enumerate_from 1 xs))

-- ---- one fault of each element

abbrev pub each_alone : {X F : Type 0} → (X → Bool × F) → List X → Faults F
each_alone fault xs = flat_map (λ x. fault x ∷ []) xs

pub alone : {X F : Type 0} (fault : X → Bool × F) (xs : List X) → each_alone fault xs ≡ map fault xs
alone fault xs = flat_map_single fault xs

-- ---- whether each element passes a test

pub all_later : {X : Type 0} (test : X → Bool) (xs : List X) (k : ℕ) (d : X) → k < length xs → test (get_or xs k d) ≡ true → list_all test (drop k xs) ≡ list_all test (drop (k + 1) xs)
all_later test xs k d below passes =
    ap (list_all test) (next xs k d below) ∙ ap (λ b. b && list_all test (rest_from k xs)) passes

pub not_all : {X : Type 0} (test : X → Bool) (xs : List X) (k : ℕ) (d : X) → k < length xs → test (get_or xs k d) ≡ false → list_all test (drop k xs) ≡ false
not_all test xs k d below fails =
    ap (list_all test) (next xs k d below) ∙ ap (λ b. b && list_all test (rest_from k xs)) fails

-- ---- whether some element passes a test

pub any_later : {X : Type 0} (test : X → Bool) (xs : List X) (k : ℕ) (d : X) → k < length xs → test (get_or xs k d) ≡ false → list_any test (drop k xs) ≡ list_any test (drop (k + 1) xs)
any_later test xs k d below fails =
    ap (list_any test) (next xs k d below) ∙ ap (λ b. b || list_any test (rest_from k xs)) fails

pub any_here : {X : Type 0} (test : X → Bool) (xs : List X) (k : ℕ) (d : X) → k < length xs → test (get_or xs k d) ≡ true → list_any test (drop k xs) ≡ true
any_here test xs k d below passes =
    ap (list_any test) (next xs k d below) ∙ ap (λ b. b || list_any test (rest_from k xs)) passes

-- ---- faults of numbered elements

pub numbered_here : {X F : Type 0} (faults : ℕ × X → Faults F) (xs : List X) (k : ℕ) (d : X) (v : F) → k < length xs → first_fault (faults (k + 1, get_or xs k d)) ≡ Some v → first_fault (flat_map faults (drop k (enumerate_from 1 xs))) ≡ Some v
numbered_here {X} faults xs k d v below is =
    fault_here faults (enumerate_from 1 xs) k (k + 1, d) v (numbered_below xs k below) (ap (λ (p : ℕ × X). first_fault (faults p)) (numbered_at xs k d below) ∙ is)

pub numbered_later : {X F : Type 0} (faults : ℕ × X → Faults F) (xs : List X) (k : ℕ) (d : X) → k < length xs → first_fault (faults (k + 1, get_or xs k d)) ≡ None
    → first_fault (flat_map faults (drop k (enumerate_from 1 xs))) ≡ first_fault (flat_map faults (drop (k + 1) (enumerate_from 1 xs)))
numbered_later {X} faults xs k d below is =
    fault_later faults (enumerate_from 1 xs) k (k + 1, d) (numbered_below xs k below) (ap (λ (p : ℕ × X). first_fault (faults p)) (numbered_at xs k d below) ∙ is)

pub numbered_end : {X F : Type 0} (faults : ℕ × X → Faults F) (xs : List X) (k : ℕ) → length xs ≤ k → first_fault (flat_map faults (drop k (enumerate_from 1 xs))) ≡ None
numbered_end faults xs k past = ap (λ ys. first_fault (flat_map faults ys)) (none_left_numbered xs k past)

pub flaw_here : {X F : Type 0} (fault : ℕ × X → Bool × F) (xs : List X) (k : ℕ) (d : X) (v : F) → k < length xs → fault (k + 1, get_or xs k d) ≡ (true, v) → first_fault (each_alone fault (drop k (enumerate_from 1 xs))) ≡ Some v
flaw_here {X} {F} fault xs k d v below is = numbered_here (λ x. fault x ∷ []) xs k d v below (ap (λ (p : Bool × F). first_fault (p ∷ [])) is)

pub flaw_later : {X F : Type 0} (fault : ℕ × X → Bool × F) (xs : List X) (k : ℕ) (d : X) → k < length xs → (fault (k + 1, get_or xs k d)).0 ≡ false
    → first_fault (each_alone fault (drop k (enumerate_from 1 xs))) ≡ first_fault (each_alone fault (drop (k + 1) (enumerate_from 1 xs)))
flaw_later {X} {F} fault xs k d below is =
    let one : Bool × F = fault (k + 1, get_or xs k d) in
    numbered_later (λ x. fault x ∷ []) xs k d below (ap (λ (b : Bool). option_map (λ (q : Bool × F). q.1) (cond b (Some one) None)) is)

pub flaws_end : {X F : Type 0} (fault : ℕ × X → Bool × F) (xs : List X) (k : ℕ) → length xs ≤ k → first_fault (each_alone fault (drop k (enumerate_from 1 xs))) ≡ None
flaws_end fault xs k past = numbered_end (λ x. fault x ∷ []) xs k past
