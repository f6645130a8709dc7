-- A fold over the items of a loop, each seen through a function.
use Rattle.std.proofs.Common.{◌≡◌, ◌∙◌, ◌+◌, ◌<◌, ℕ, List, map, take, length, get_or, fold, ap, sym}
use Rattle.std.proofs.lemmas.List.Sums.{fold_more}
use Rattle.std.proofs.lemmas.List.Folds.{fold-map}

pub fold_map_more : {A B C : Type 0} (f : B → A → B) (h : C → A) (a : B) (xs : List C) (i : ℕ) (x : C) → i < length xs
    → fold f a (map h (take (i + 1) xs)) ≡ f (fold f a (map h (take i xs))) (h (get_or xs i x))
fold_map_more f h a xs i x low = fold-map f h a (take (i + 1) xs)
    ∙ (fold_more (λ b y. f b (h y)) a xs i x low
    ∙ ap (λ b. f b (h (get_or xs i x))) (sym (fold-map f h a (take i xs))))
