-- The text of labels, of two lists.
use Rattle.std.proofs.Common.{◌≡◌, ℕ, suc, ◌==◌, ◌&&◌, true, false, List, [], ◌∷◌, ◌++◌, length, map, refl, sym, ap, ◌∙◌, append_assoc, arith}
use Rattle.std.proofs.lemmas.Bool.{ne_eqb}
use Rattle.module_metrics.specs.Exposition.{Label, bracketed, closing, label_text, mark, marked}
use Rattle.module_metrics.specs.MetricData.{label_of}
use Rattle.module_metrics.specs.declared.metric.Label as rust

later_append : (xs ys : List Label) → marked false (xs ++ ys) ≡ marked false xs ++ marked false ys
later_append [] ys = refl
later_append (x ∷ xs) ys =
    ap (λ t. (mark false ∷ label_text x) ++ t) (later_append xs ys) ∙ sym (append_assoc (mark false ∷ label_text x) (marked false xs) (marked false ys))

some_labels : (n : ℕ) → (suc n == 0) ≡ false
some_labels n = ne_eqb (suc n) 0 (λ e. omega (arith, e))

marked_append : (xs ys : List Label) → marked true (xs ++ ys) ≡ marked true xs ++ marked (length xs == 0) ys
marked_append [] ys = refl
marked_append (x ∷ xs) ys =
    ap (λ t. (mark true ∷ label_text x) ++ t) (later_append xs ys) ∙ sym (append_assoc (mark true ∷ label_text x) (marked false xs) (marked false ys))
    ∙ ap (λ b. ((mark true ∷ label_text x) ++ marked false xs) ++ marked b ys) (sym (some_labels (length xs)))

none_append : (xs ys : List Label) → (length (xs ++ ys) == 0) ≡ ((length xs == 0) && (length ys == 0))
none_append [] ys = refl
none_append (x ∷ xs) ys = some_labels (length (xs ++ ys)) ∙ sym (ap (λ b. b && (length ys == 0)) (some_labels (length xs)))

as_many : (xs : List rust.Label) → length (map label_of xs) ≡ length xs
as_many [] = refl
as_many (x ∷ xs) = ap suc (as_many xs)

pub bracketed_append : (xs ys : List rust.Label) → bracketed (map label_of xs ++ map label_of ys)
    ≡ marked true (map label_of xs) ++ (marked (length xs == 0) (map label_of ys) ++ closing ((length xs == 0) && (length ys == 0)))
unfolding bracketed
bracketed_append xs ys =
    let us = map label_of xs in
    let vs = map label_of ys in
    ap (λ t. t ++ closing (length (us ++ vs) == 0)) (marked_append us vs)
    ∙ append_assoc (marked true us) (marked (length us == 0) vs) (closing (length (us ++ vs) == 0))
    ∙ ap (λ b. marked true us ++ (marked (length us == 0) vs ++ closing b)) (none_append us vs)
    ∙ ap (λ (n : ℕ). marked true us ++ (marked (n == 0) vs ++ closing ((n == 0) && (length vs == 0)))) (as_many xs)
    ∙ ap (λ (n : ℕ). marked true us ++ (marked (length xs == 0) vs ++ closing ((length xs == 0) && (n == 0)))) (as_many ys)
