-- What holds of each element of a list that is made from another one.
use Rattle.std.proofs.Common.{◌≡◌, ℕ, zero, suc, ◌+◌, ◌<◌, ◌≤◌, Bool, true, false, List, [], ◌∷◌, ◌++◌, Some, sym, subst, ap, ◌∙◌, inl, inr, map, filter, cond, arith}
use Rattle.std.specs.List.{AllByRecursion, Contains, flat_map, find, range_with_len}
use Rattle.std.proofs.lemmas.List.Elements.{All-contains_itself, recursion_from_All}
use Rattle.std.proofs.lemmas.Bool.{cases_Bool, cases_eq}

pub map_each : {X : Type 0} (P Q : X → Type 0) (xs : List X) → ((x : X) → P x → Q x) → AllByRecursion P xs → AllByRecursion Q xs
map_each P Q [] f h = tt
map_each P Q (x ∷ xs) f h = (f x h.0, map_each P Q xs f h.1)

pub each_contained : {X : Type 0} (xs : List X) → AllByRecursion (Contains xs) xs
each_contained xs = recursion_from_All (Contains xs) xs (All-contains_itself xs)

-- what follows of each element from two facts of it
pub each_pair : {X : Type 0} (P Q R : X → Type 0) (xs : List X) → ((x : X) → P x → Q x → R x) → AllByRecursion P xs → AllByRecursion Q xs → AllByRecursion R xs
each_pair P Q R [] f p q = tt
each_pair P Q R (x ∷ xs) f p q = (f x p.0 q.0, each_pair P Q R xs f p.1 q.1)

pub each_of_map : {X Y : Type 0} (P : Y → Type 0) (f : X → Y) (xs : List X) → AllByRecursion P (map f xs) → AllByRecursion (λ x. P (f x)) xs
each_of_map P f [] h = tt
each_of_map P f (x ∷ xs) h = (h.0, each_of_map P f xs h.1)

pub each_of_filter : {X : Type 0} (P : X → Type 0) (test : X → Bool) (xs : List X) → AllByRecursion P (filter test xs) → AllByRecursion (λ x. test x ≡ true → P x) xs
each_of_filter P test [] h = tt
each_of_filter {X} P test (x ∷ xs) h =
    let Kept : Bool → Type 0 = λ b. AllByRecursion P (cond b (x ∷ filter test xs) (filter test xs)) in
    elim (cases_Bool (test x)) [
      | inl passes ↦ let kept : Kept true = subst Kept passes h in (λ _. kept.0, each_of_filter P test xs kept.1)
      | inr fails ↦ let kept : Kept false = subst Kept fails h in (λ passes. absurd (let none = sym fails ∙ passes in cc), each_of_filter P test xs kept)
    ]

pub each_of_append : {X : Type 0} (P : X → Type 0) (xs ys : List X) → AllByRecursion P (xs ++ ys) → AllByRecursion P xs × AllByRecursion P ys
each_of_append P [] ys h = (tt, h)
each_of_append P (x ∷ xs) ys h = let rest = each_of_append P xs ys h.1 in ((h.0, rest.0), rest.1)

pub each_of_flat_map : {X Y : Type 0} (P : Y → Type 0) (f : X → List Y) (xs : List X) → AllByRecursion P (flat_map f xs) → AllByRecursion (λ x. AllByRecursion P (f x)) xs
each_of_flat_map P f [] h = tt
each_of_flat_map P f (x ∷ xs) h = let parts = each_of_append P (f x) (flat_map f xs) h in (parts.0, each_of_flat_map P f xs parts.1)

pub all_of_append : {X : Type 0} (P : X → Type 0) (xs ys : List X) → AllByRecursion P xs → AllByRecursion P ys → AllByRecursion P (xs ++ ys)
all_of_append P [] ys h k = k
all_of_append P (x ∷ xs) ys h k = (h.0, all_of_append P xs ys h.1 k)

pub all_of_flat_map : {X Y : Type 0} (P : Y → Type 0) (f : X → List Y) (xs : List X) → ((x : X) → AllByRecursion P (f x)) → AllByRecursion P (flat_map f xs)
all_of_flat_map P f [] h = tt
all_of_flat_map P f (x ∷ xs) h = all_of_append P (f x) (flat_map f xs) (h x) (all_of_flat_map P f xs h)

pub all_of_map : {X Y : Type 0} (P : Y → Type 0) (f : X → Y) (xs : List X) → ((x : X) → P (f x)) → AllByRecursion P (map f xs)
all_of_map P f [] h = tt
all_of_map P f (x ∷ xs) h = (h x, all_of_map P f xs h)

pub each_in_range : (P : ℕ → Type 0) (first count n : ℕ) → AllByRecursion P (range_with_len first count) → first ≤ n → n < first + count → P n
each_in_range P first zero n h from to = absurd (omega (arith, from, to))
each_in_range P first (suc count) n h from to =
    elim (cases_eq first n) [
      | inl same ↦ subst P same h.0
      | inr other ↦ each_in_range P (first + 1) count n h.1 (omega (arith, from, other)) (omega (arith, to))
    ]

-- what a search finds is one of the elements, and passes the test
pub found : {X : Type 0} (P : X → Type 0) (test : X → Bool) (xs : List X) (x : X) → find test xs ≡ Some x → AllByRecursion P xs → P x × (test x ≡ true)
found P test [] x is h = absurd cc
found {X} P test (y ∷ ys) x is h =
    let Finds : Bool → Type 0 = λ b. cond b (Some y) (find test ys) ≡ Some x in
    elim (cases_Bool (test y)) [
      | inl passes ↦ let here : y ≡ x = (let one : Finds true = subst Finds passes is in cc) in (subst P here h.0, ap test (sym here) ∙ passes)
      | inr fails ↦ found P test ys x (subst Finds fails is) h.1
    ]
