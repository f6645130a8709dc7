-- Lists that lack some elements of others: what holds of all of those, and that they differ, holds of these.
use Rattle.std.proofs.Common.{◌≡◌, ◌≢◌, inl, inr, ◌⊎◌, Bool, true, false, List, [], ◌∷◌, ◌++◌, map, refl, sym, ap, subst, if◌then◌else◌}
use Rattle.std.specs.List.{AllByRecursion, filter, flat_map}
use Rattle.module_metrics.specs.WellFormed.{AreApart}

-- the first has some of the second's elements, in their order
abbrev pub Sub : {A : Type 0} → List A → List A → Type 0
Sub xs [] = xs ≡ []
Sub {A} xs (y ∷ ys) = Sub xs ys ⊎ ((rest : List A) × (xs ≡ y ∷ rest) × Sub rest ys)

pub sub_none : {A : Type 0} (ys : List A) → Sub [] ys
sub_none [] = refl
sub_none (y ∷ ys) = inl (sub_none ys)

pub sub_all : {A : Type 0} (ys : List A) → Sub ys ys
sub_all [] = refl
sub_all (y ∷ ys) = inr (ys, refl, sub_all ys)

pub sub_append : {A : Type 0} (xs ys us vs : List A) → Sub xs ys → Sub us vs → Sub (xs ++ us) (ys ++ vs)
sub_append xs [] us vs none more = subst (λ ws. Sub (ws ++ us) vs) (sym none) more
sub_append xs (y ∷ ys) us vs (inl later) more = inl (sub_append xs ys us vs later more)
sub_append xs (y ∷ ys) us vs (inr (rest, same, later)) more = inr (rest ++ us, ap (λ ws. ws ++ us) same, sub_append rest ys us vs later more)

pub sub_flat : {A B : Type 0} (f g : A → List B) → ((x : A) → Sub (f x) (g x)) → (xs : List A) → Sub (flat_map f xs) (flat_map g xs)
sub_flat f g each [] = refl
sub_flat f g each (x ∷ xs) = sub_append (f x) (g x) (flat_map f xs) (flat_map g xs) (each x) (sub_flat f g each xs)

pub sub_map : {A B : Type 0} (f : A → B) (xs ys : List A) → Sub xs ys → Sub (map f xs) (map f ys)
sub_map f xs [] none = ap (map f) none
sub_map f xs (y ∷ ys) (inl later) = inl (sub_map f xs ys later)
sub_map f xs (y ∷ ys) (inr (rest, same, later)) = inr (map f rest, ap (map f) same, sub_map f rest ys later)

kept_sub : {A : Type 0} (x : A) (xs ys : List A) (keep : Bool) → Sub xs ys → Sub (if keep then x ∷ xs else xs) (x ∷ ys)
kept_sub x xs ys true sub = inr (xs, refl, sub)
kept_sub x xs ys false sub = inl sub

pub sub_filter : {A : Type 0} (p : A → Bool) (xs : List A) → Sub (filter p xs) xs
sub_filter p [] = refl
sub_filter p (x ∷ xs) = kept_sub x (filter p xs) xs (p x) (sub_filter p xs)

pub all_sub : {A : Type 0} (P : A → Type 0) (xs ys : List A) → Sub xs ys → AllByRecursion P ys → AllByRecursion P xs
all_sub P xs [] none all = subst (λ zs. AllByRecursion P zs) (sym none) tt
all_sub P xs (y ∷ ys) (inl later) all = all_sub P xs ys later all.1
all_sub P xs (y ∷ ys) (inr (rest, same, later)) all = subst (λ zs. AllByRecursion P zs) (sym same) (all.0, all_sub P rest ys later all.1)

pub apart_sub : {A : Type 0} (xs ys : List A) → Sub xs ys → AreApart ys → AreApart xs
apart_sub xs [] none apart = subst (λ zs. AreApart zs) (sym none) tt
apart_sub xs (y ∷ ys) (inl later) apart = apart_sub xs ys later apart.1
apart_sub xs (y ∷ ys) (inr (rest, same, later)) apart =
    subst (λ zs. AreApart zs) (sym same) (all_sub (λ z. y ≢ z) rest ys later apart.0, apart_sub rest ys later apart.1)

-- ---- what is made of the elements

unlike : {A B : Type 0} (f : A → B) (x : A) (xs : List A) → AllByRecursion (λ y. f x ≢ y) (map f xs) → AllByRecursion (λ y. x ≢ y) xs
unlike f x [] all = tt
unlike f x (y ∷ ys) all = (λ same. all.0 (ap f same), unlike f x ys all.1)

-- elements differ if what is made of them does
pub apart_by : {A B : Type 0} (f : A → B) (xs : List A) → AreApart (map f xs) → AreApart xs
apart_by f [] apart = tt
apart_by f (x ∷ xs) apart = (unlike f x xs apart.0, apart_by f xs apart.1)
