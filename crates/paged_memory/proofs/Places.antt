-- Where a key is, or goes, in entries that are in the order of their keys.
use Rattle.std.proofs.Common.{◌≡◌, ℕ, zero, suc, ◌+◌, ◌<◌, true, false, cond, List, [], ◌∷◌, ◌++◌, length, get_or, take, drop, set, Some, None, Ordering, refl, sym, ap, ◌∙◌, append_assoc, add-one, arith}
use Rattle.std.specs.Ordering.{is_lt, is_eq}
use Rattle.std.specs.Cmp.{IsTotalOrder}
use Rattle.std.specs.declared.cmp.Ordering.TheVariants.{Less, Equal, Greater}
use Rattle.std.specs.FinMap.{find, is_sorted, IsAntisymmetric}
use Rattle.std.specs.FinMap.Entries.{put, below_all, by_order}
use Rattle.std.proofs.Math.Seq.{drop-cons}
use Rattle.std.proofs.lemmas.List.{take_more, get_or_default}
use Rattle.std.proofs.lemmas.Bool.{and_parts}

pub is_less : (o : Ordering) → is_lt o ≡ true → o ≡ Less
is_less Less e = refl
is_less Equal e = absurd cc
is_less Greater e = absurd cc

pub is_equal : (o : Ordering) → is_eq o ≡ true → o ≡ Equal
is_equal Less e = absurd cc
is_equal Equal e = refl
is_equal Greater e = absurd cc

module _ {K X : Type 0} (R : K → K → Ordering) where
  -- a key below each of the keys is not among them
  find_below : (q : K) (es : List (K × X)) → below_all R q es ≡ true → find R q es ≡ None
  find_below q [] h = refl
  find_below q (e ∷ es) h =
      let first = and_parts _ _ h in
      ap (λ o. cond (is_eq o) (Some e.1) (find R q es)) (is_less _ first.0) ∙ find_below q es first.1

  module _ (total : IsTotalOrder R) where
    below_more : (q k : K) (es : List (K × X)) → R q k ≡ Less → below_all R k es ≡ true → below_all R q es ≡ true
    below_more q k [] less h = refl
    below_more q k (e ∷ es) less h =
        let first = and_parts _ _ h in
        rw (total.trans q k e.0 less (is_less _ first.0)) (below_more q k es less first.1)

  sorted_drop : (i : ℕ) (es : List (K × X)) → is_sorted R es ≡ true → is_sorted R (drop i es) ≡ true
  sorted_drop zero es h = h
  sorted_drop (suc i) [] h = refl
  sorted_drop (suc i) (e ∷ es) h = sorted_drop i es (and_parts _ _ h).1

set_in_place : {A : Type 0} (xs : List A) (i : ℕ) (y : A) → i < length xs → set xs i y ≡ take i xs ++ y ∷ drop (suc i) xs
set_in_place [] i y lt = absurd (omega arith)
set_in_place (x ∷ xs) zero y lt = refl
set_in_place (x ∷ xs) (suc i) y lt = ap (λ l. x ∷ l) (set_in_place xs i y (omega arith))

-- the entry at a place, on the way through the entries
module _ {K X : Type 0} (R : K → K → Ordering) (q : K) (es : List (K × X)) (i : ℕ) (e : K × X) (lt : i < length es) (is : e ≡ get_or es i e) where
  from_here : drop i es ≡ e ∷ drop (i + 1) es
  from_here = rw add-one (drop-cons es i e lt ∙ ap (λ x. x ∷ drop (suc i) es) (sym is))

  pub absent_below : IsTotalOrder R → is_sorted R es ≡ true → R q e.0 ≡ Less → find R q (drop i es) ≡ find R q es → find R q es ≡ None
  absent_below total sorted less passed =
      let here : is_sorted R (e ∷ drop (i + 1) es) ≡ true = ap (is_sorted R) (sym from_here) ∙ sorted_drop R i es sorted in
      let below : below_all R q (e ∷ drop (i + 1) es) ≡ true = rw less (below_more R total q e.0 (drop (i + 1) es) less (and_parts _ _ here).0) in
      sym passed ∙ ap (find R q) from_here ∙ find_below R q (e ∷ drop (i + 1) es) below

  pub found_here : R q e.0 ≡ Equal → find R q (drop i es) ≡ find R q es → (d : K × X) → find R q es ≡ Some (get_or es i d).1
  found_here equal passed d =
      sym passed ∙ ap (find R q) from_here ∙ ap (λ o. cond (is_eq o) (Some e.1) (find R q (drop (i + 1) es))) equal
      ∙ ap (λ x. Some x.1) (is ∙ get_or_default es i e d lt)

  module _ (v : X) (passed : take i es ++ put R q v (drop i es) ≡ put R q v es) where
    pub put_here : IsAntisymmetric R → R q e.0 ≡ Equal → put R q v es ≡ set es i (q, v)
    put_here apart equal =
        sym passed ∙ ap (λ l. take i es ++ put R q v l) from_here
        ∙ ap (λ o. take i es ++ by_order o ((q, v) ∷ e ∷ drop (i + 1) es) ((e.0, v) ∷ drop (i + 1) es) (e ∷ put R q v (drop (i + 1) es))) equal
        ∙ ap (λ k. take i es ++ (k, v) ∷ drop (i + 1) es) (sym (apart q e.0 equal))
        ∙ sym (rw add-one (set_in_place es i (q, v) lt))

    pub put_later : R q e.0 ≡ Greater → take (i + 1) es ++ put R q v (drop (i + 1) es) ≡ put R q v es
    put_later greater =
        ap (λ l. l ++ put R q v (drop (i + 1) es)) (take_more es i e lt ∙ ap (λ x. take i es ++ x ∷ []) (sym is))
        ∙ append_assoc (take i es) (e ∷ []) (put R q v (drop (i + 1) es))
        ∙ ap (λ o. take i es ++ by_order o ((q, v) ∷ e ∷ drop (i + 1) es) ((e.0, v) ∷ drop (i + 1) es) (e ∷ put R q v (drop (i + 1) es))) (sym greater)
        ∙ ap (λ l. take i es ++ put R q v l) (sym from_here) ∙ passed

  pub find_later : R q e.0 ≡ Greater → find R q (drop i es) ≡ find R q es → find R q (drop (i + 1) es) ≡ find R q es
  find_later greater passed =
      ap (λ o. cond (is_eq o) (Some e.1) (find R q (drop (i + 1) es))) (sym greater) ∙ ap (find R q) (sym from_here) ∙ passed

  -- the key is none that was passed
  pub find_passed : is_eq (R q e.0) ≡ false → find R q (drop i es) ≡ find R q es → find R q (drop (i + 1) es) ≡ find R q es
  find_passed other passed =
      ap (λ b. cond b (Some e.1) (find R q (drop (i + 1) es))) (sym other) ∙ ap (find R q) (sym from_here) ∙ passed
