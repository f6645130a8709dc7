-- Two places in the same lines are one, or one is later than the other.
use Rattle.std.proofs.Common.{◌≡◌, ℕ, List, [], ◌∷◌, ◌++◌, refl, ap, subst, ◌⊎◌, inl, inr}

abbrev Lines : Type 0
Lines = List (List ℕ)

-- two places in the same lines
abbrev pub Places : Lines → List ℕ → Lines → List ℕ → Type 0
Places a x b y = ((a ≡ b) × (x ≡ y)) ⊎ (((more : Lines) × (b ≡ (a ++ x ∷ []) ++ more)) ⊎ ((more : Lines) × (a ≡ (b ++ y ∷ []) ++ more)))

places_more : (line x y : List ℕ) (a b : Lines) → Places a x b y → Places (line ∷ a) x (line ∷ b) y
places_more line x y a b (inl one) = inl (ap (λ l. line ∷ l) one.0, one.1)
places_more line x y a b (inr (inl later)) = inr (inl (later.0, ap (λ l. line ∷ l) later.1))
places_more line x y a b (inr (inr later)) = inr (inr (later.0, ap (λ l. line ∷ l) later.1))

pub places : (a b : Lines) (x y : List ℕ) (r s : Lines) → a ++ x ∷ r ≡ b ++ y ∷ s → Places a x b y
places [] [] x y r s e = inl (refl, cc)
places [] (line ∷ b) x y r s e = inr (inl (b, cc))
places (line ∷ a) [] x y r s e = inr (inr (a, cc))
places (line ∷ a) (other ∷ b) x y r s e =
    let first : line ≡ other = cc in
    let rest : a ++ x ∷ r ≡ b ++ y ∷ s = cc in
    subst (λ l. Places (line ∷ a) x (l ∷ b) y) first (places_more line x y a b (places a b x y r s rest))
