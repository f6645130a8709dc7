-- Lists in which each element stands in a relation to all after it.
use Rattle.std.proofs.Common.{◌≡◌, suc, ◌⊎◌, Bool, true, List, [], ◌∷◌, ◌++◌, Some, map, cond, sym, subst, ◌∙◌, inl, inr, arith}
use Rattle.std.specs.List.{AllByRecursion, AllPairs, find}
use Rattle.std.proofs.lemmas.Bool.{cases_Bool}
use Rattle.std.proofs.lemmas.List.Elements.{All-from_recursion, recursion_from_All}
use Rattle.std.proofs.lemmas.List.Kept.{AllPairs-cons}
use Rattle.plan_certificate.proofs.Lists.{all_of_append, map_each}

abbrev pub Ranked : {X : Type 0} → (X → X → Type 0) → List X → Type 0
Ranked R [] = Unit {0}
Ranked R (x ∷ xs) = AllByRecursion (R x) xs × Ranked R xs

pub ranked_from_pairs : {X : Type 0} (R : X → X → Type 0) (xs : List X) → AllPairs R xs → Ranked R xs
ranked_from_pairs R [] h = tt
ranked_from_pairs R (x ∷ xs) h =
    (recursion_from_All (R x) xs (λ k d below. h 0 (suc k) d (omega arith) (omega (arith, below))), ranked_from_pairs R xs (λ i j d before below. h (suc i) (suc j) d (omega (arith, before)) (omega (arith, below))))

pub pairs_from_ranked : {X : Type 0} (R : X → X → Type 0) (xs : List X) → Ranked R xs → AllPairs R xs
pairs_from_ranked R [] h = λ i j d before below. absurd (omega (arith, below))
pairs_from_ranked R (x ∷ xs) h = AllPairs-cons R x xs (All-from_recursion (R x) xs h.0) (pairs_from_ranked R xs h.1)

-- two such lists, where each element of the first stands in the relation to all that the second may have
pub ranked_append : {X : Type 0} (R : X → X → Type 0) (P : X → Type 0) (xs ys : List X) → Ranked R xs → Ranked R ys → AllByRecursion (λ x. (y : X) → P y → R x y) xs → AllByRecursion P ys → Ranked R (xs ++ ys)
ranked_append R P [] ys h k before after = k
ranked_append R P (x ∷ xs) ys h k before after =
    (all_of_append (R x) xs ys h.0 (map_each P (R x) ys before.0 after), ranked_append R P xs ys h.1 k before.1 after)

all_of_mapped : {X Y : Type 0} (P : Y → Type 0) (f : X → Y) (xs : List X) → AllByRecursion (λ x. P (f x)) xs → AllByRecursion P (map f xs)
all_of_mapped P f [] h = tt
all_of_mapped P f (x ∷ xs) h = (h.0, all_of_mapped P f xs h.1)

pub ranked_map : {X Y : Type 0} (R : Y → Y → Type 0) (f : X → Y) (xs : List X) → Ranked (λ x y. R (f x) (f y)) xs → Ranked R (map f xs)
ranked_map R f [] h = tt
ranked_map R f (x ∷ xs) h = (all_of_mapped (R (f x)) f xs h.0, ranked_map R f xs h.1)

-- what a search finds stands in the relation to all others that pass the test
pub first_found : {X : Type 0} (R : X → X → Type 0) (test : X → Bool) (xs : List X) (x : X) → Ranked R xs → find test xs ≡ Some x → AllByRecursion (λ y. test y ≡ true → (x ≡ y) ⊎ R x y) xs
first_found R test [] x ranked is = tt
first_found {X} R test (y ∷ ys) x ranked is =
    let Finds : Bool → Type 0 = λ b. cond b (Some y) (find test ys) ≡ Some x in
    elim (cases_Bool (test y)) [
      | inl passes ↦
          let here : y ≡ x = (let one : Finds true = subst Finds passes is in cc) in
          ((λ _. inl (sym here)), map_each (R y) (λ z. test z ≡ true → (x ≡ z) ⊎ R x z) ys (λ z r _. inr (subst (λ (w : X). R w z) here r)) ranked.0)
      | inr fails ↦
          ((λ passes. absurd (let none = sym fails ∙ passes in cc)), first_found R test ys x ranked.1 (subst Finds fails is))
    ]
