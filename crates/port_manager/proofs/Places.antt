-- A list that has a number in each place is the one that is computed place by place.
use Rattle.std.proofs.Common.{◌≡◌, ℕ, ◌<◌, List, length, get_or, map, sym, ◌∙◌, arith}
use Rattle.std.specs.List.{range_with_len}
use Rattle.std.proofs.lemmas.List.FromFn.{get_or-map-range_with_len, length-map-range_with_len}
use Rattle.std.proofs.lemmas.List.{ext_get_or}

pub each_place : (f : ℕ → ℕ) (values : List ℕ) (count : ℕ) → length values ≡ count → ((k : ℕ) → k < count → get_or values k 0 ≡ f k) → values ≡ map f (range_with_len 0 count)
each_place f values count len each =
    ext_get_or 0 values (map f (range_with_len 0 count)) (len ∙ sym (length-map-range_with_len f 0 count))
    (λ i below. each i (omega (arith, below, len)) ∙ sym (get_or-map-range_with_len f 0 count i i 0 (omega (arith, below, len)) (omega arith)))
