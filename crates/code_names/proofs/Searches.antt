-- A search in rows that are shown otherwise.
use Rattle.std.proofs.Common.{◌≡◌, Bool, true, false, List, [], ◌∷◌, Some, cond, find, map, option_map, refl}

-- a search after a map is a map after the search
pub find_map : {X Y : Type 0} (p : Y → Bool) (f : X → Y) (xs : List X) → option_map f (find (λ x. p (f x)) xs) ≡ find p (map f xs)
find_map p f [] = refl
find_map p f (x ∷ xs) = elim (p (f x)) as (λ b. option_map f (cond b (Some x) (find (λ x. p (f x)) xs)) ≡ cond b (Some (f x)) (find p (map f xs))) [ true ↦ refl | false ↦ find_map p f xs ]
