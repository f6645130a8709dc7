-- The words of a spaced line are those that were spaced.
use Rattle.std.proofs.Common.{◌≡◌, ℕ, zero, suc, arith, Bool, true, false, List, [], ◌∷◌, refl, ap, ◌∙◌}
use Rattle.std.specs.List.{AllPass, AllByRecursion, All}
use Rattle.std.proofs.lemmas.List.Elements.{All-append}
use Rattle.std.proofs.lemmas.List.Sums.{AllPass-from_list_all}
use Rattle.std.proofs.lemmas.List.Splits.{slice_split_at, slice_split_none}
use Rattle.std.proofs.lemmas.Bool.{not-true}
use Rattle.text_lines.specs.Words.{is_space, words_of, spaced, IsWord}

spaceless : (word : List ℕ) → IsWord word → All (λ byte. is_space byte ≡ false) word
spaceless word h k d lt = not-true _ (h k d lt)

pub words_of-spaced : (word : List ℕ) (words : List (List ℕ)) → AllByRecursion IsWord (word ∷ words) → words_of (spaced (word ∷ words)) ≡ word ∷ words
words_of-spaced word [] h = slice_split_none is_space word (spaceless word h.0)
words_of-spaced word (next ∷ words) h = slice_split_at is_space word 32 (spaced (next ∷ words)) (spaceless word h.0) refl ∙ ap (λ ws. word ∷ ws) (words_of-spaced next words h.1)

one_more : (p : ℕ → Bool) (byte : ℕ) (bytes : List ℕ) → p byte ≡ true → AllPass p bytes → AllPass p (byte ∷ bytes)
one_more p byte bytes first h zero d lt = first
one_more p byte bytes first h (suc k) d lt = h k d (omega arith)

-- what each word and a space pass, the line of the words passes
pub spaced_passes : (p : ℕ → Bool) → p 32 ≡ true → (words : List (List ℕ)) → AllByRecursion (AllPass p) words → AllPass p (spaced words)
spaced_passes p space [] h = AllPass-from_list_all p [] refl
spaced_passes p space (word ∷ []) h = h.0
spaced_passes p space (word ∷ next ∷ words) h =
    All-append (λ byte. p byte ≡ true) word (32 ∷ spaced (next ∷ words)) h.0 (one_more p 32 (spaced (next ∷ words)) space (spaced_passes p space (next ∷ words) h.1))
