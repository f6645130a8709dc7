-- Lanes one by one, and lists that are made so.
use Rattle.std.proofs.Common.{◌≡◌, ℕ, ◌+◌, ◌<◌, List, get_or, length, map, sym, ◌∙◌, arith}
use Rattle.std.specs.List.{range_with_len}
use Rattle.std.proofs.lemmas.List.{ext_get_or, get_or-map, length-map}
use Rattle.std.proofs.lemmas.List.FromFn.{get_or-map-range_with_len, length-map-range_with_len}

pub each_lane : {X : Type 0} (d : X) (f : ℕ → X) (xs : List X) → length xs ≡ 8 → ((k : ℕ) → k < length xs → get_or xs k d ≡ f (k + 1)) → xs ≡ map f (range_with_len 1 8)
each_lane d f xs len each =
    ext_get_or d xs (map f (range_with_len 1 8)) (len ∙ sym (length-map-range_with_len f 1 8))
    (λ k below. each k below ∙ sym (get_or-map-range_with_len f 1 8 k (k + 1) d (omega (arith, below, len)) (omega arith)))

pub each_of : {X : Type 0} (d : X) (count : ℕ) (f : ℕ → X) (xs : List X) → length xs ≡ count → ((k : ℕ) → k < length xs → get_or xs k d ≡ f k) → xs ≡ map f (range_with_len 0 count)
each_of d count f xs len each =
    ext_get_or d xs (map f (range_with_len 0 count)) (len ∙ sym (length-map-range_with_len f 0 count))
    (λ k below. each k below ∙ sym (get_or-map-range_with_len f 0 count k k d (omega (arith, below, len)) (omega arith)))

pub each_mapped : {X Y : Type 0} (f : X → Y) (d : X) (xs : List X) (ys : List Y) → length ys ≡ length xs → ((k : ℕ) → k < length ys → get_or ys k (f d) ≡ f (get_or xs k d)) → ys ≡ map f xs
each_mapped f d xs ys len each =
    ext_get_or (f d) ys (map f xs) (len ∙ sym (length-map xs f))
    (λ k below. each k below ∙ sym (get_or-map f xs k d (f d) (omega (arith, below, len))))
