-- The values of an enum whose variants have no fields, and what holds of each of them.
use Rattle.std.proofs.Common.{◌≡◌, Bool, true, List, [], ◌∷◌, ◌++◌, subst, inl, inr, map}
use Rattle.std.proofs.lemmas.Bool.{and_parts}
use Rattle.std.specs.List.{AllByRecursion, list_all}
use denote.Struct.Field.{Field}
use denote.Enum.Bare.{Bare}
use denote.Enum.Declared.{Choice, Record}

-- ---- what holds of each element of a list

pub all_pass : {A : Type 0} (test : A → Bool) (xs : List A) → list_all test xs ≡ true → AllByRecursion (λ (x : A). test x ≡ true) xs
all_pass test [] all = tt
all_pass test (x ∷ xs) all = let parts = and_parts (test x) (list_all test xs) all in (parts.0, all_pass test xs parts.1)

pub of_mapped : {A B : Type 0} (f : A → B) (P : B → Type 0) (xs : List A) → AllByRecursion P (map f xs) → AllByRecursion (λ (x : A). P (f x)) xs
of_mapped f P [] all = tt
of_mapped f P (x ∷ xs) all = (all.0, of_mapped f P xs all.1)

pub of_both : {A : Type 0} (P : A → Type 0) (xs ys : List A) → AllByRecursion P (xs ++ ys) → AllByRecursion P xs × AllByRecursion P ys
of_both P [] ys all = (tt, all)
of_both P (x ∷ xs) ys all = let later = of_both P xs ys all.1 in ((all.0, later.0), later.1)

-- ---- of each value

abbrev pub choices : (parts : List (List Field)) → Bare parts → List (Choice parts)
choices [] bare = []
choices ([] ∷ parts) bare = inl tt ∷ map inr (choices parts bare)
choices ((field ∷ fields) ∷ parts) bare = absurd bare

each_choice : (parts : List (List Field)) (bare : Bare parts) (P : Choice parts → Type 0) → AllByRecursion P (choices parts bare) → (c : Choice parts) → P c
each_choice [] bare P all c = absurd c
each_choice ([] ∷ parts) bare P all (inl x) = all.0
each_choice ([] ∷ parts) bare P all (inr c) = each_choice parts bare (λ (x : Choice parts). P (inr x)) (of_mapped inr P (choices parts bare) all.1) c
each_choice ((field ∷ fields) ∷ parts) bare P all c = absurd bare

abbrev pub every : (enum : Record) → Bare enum.parts → List enum.D
every enum bare = map enum.make (choices enum.parts bare)

pub each_value : (enum : Record) (bare : Bare enum.parts) (P : enum.D → Type 0) → AllByRecursion P (every enum bare) → (value : enum.D) → P value
each_value enum bare P all value =
    subst P (enum.eta value)
    (each_choice enum.parts bare (λ (c : Choice enum.parts). P (enum.make c)) (of_mapped enum.make P (choices enum.parts bare) all) (enum.as_values value))
