-- One more word at the end of a line, and of a loop's words so far.
use Rattle.std.proofs.Common.{◌≡◌, ◌∙◌, ◌+◌, ◌<◌, ℕ, List, [], ◌∷◌, ◌++◌, map, take, length, get_or, refl, ap, sym, append_assoc}
use Rattle.std.proofs.lemmas.List.{take_more, map-append}
use Rattle.text_lines.specs.Words.{spaced}

spaced-append : (first : List ℕ) (words : List (List ℕ)) (word : List ℕ) → spaced (first ∷ words ++ word ∷ []) ≡ spaced (first ∷ words) ++ 32 ∷ word
spaced-append first [] word = refl
spaced-append first (next ∷ words) word =
    ap (λ rest. first ++ 32 ∷ rest) (spaced-append next words word) ∙ sym (append_assoc first (32 ∷ spaced (next ∷ words)) (32 ∷ word))

pub spaced_more : {W : Type 0} (text : W → List ℕ) (first : List ℕ) (words : List W) (i : ℕ) (d : W) → i < length words
    → spaced (first ∷ map text (take (i + 1) words)) ≡ spaced (first ∷ map text (take i words)) ++ 32 ∷ text (get_or words i d)
spaced_more text first words i d low =
    ap (λ front. spaced (first ∷ map text front)) (take_more words i d low)
    ∙ (ap (λ all. spaced (first ∷ all)) (map-append text (take i words) (get_or words i d ∷ []))
    ∙ spaced-append first (map text (take i words)) (text (get_or words i d)))
