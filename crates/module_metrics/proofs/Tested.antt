-- Texts that differ from one another, by a test.
use Rattle.std.proofs.Common.{◌≡◌, ◌≢◌, ℕ, ◌&&◌, not, Bool, true, false, List, [], ◌∷◌, refl, sym, ◌∙◌}
use Rattle.std.proofs.lemmas.Bool.{and_parts, false≢true}
use Rattle.std.proofs.lemmas.Slice.Eq.{bytes_eq-Decides}
use Rattle.std.specs.List.{AllByRecursion, list_all}
use Rattle.std.specs.Str.{bytes_eq}
use Rattle.module_metrics.specs.WellFormed.{AreApart}

-- a text is none of these
abbrev pub is_new : List ℕ → List (List ℕ) → Bool
is_new text texts = list_all (λ other. not (bytes_eq text other)) texts

-- each is none of those after it
abbrev pub are_new : List (List ℕ) → Bool
are_new [] = true
are_new (text ∷ texts) = is_new text texts && are_new texts

unlike : (text other : List ℕ) (b : Bool) → bytes_eq text other ≡ b → not b ≡ true → text ≢ other
unlike text other true e h same = false≢true h
unlike text other false e h same = false≢true (sym e ∙ (bytes_eq-Decides text other).1 same)

new_unlike : (text : List ℕ) (texts : List (List ℕ)) → is_new text texts ≡ true → AllByRecursion (λ other. text ≢ other) texts
new_unlike text [] new = tt
new_unlike text (other ∷ texts) new =
    let parts = and_parts (not (bytes_eq text other)) (is_new text texts) new in
    (unlike text other (bytes_eq text other) refl parts.0, new_unlike text texts parts.1)

pub tested : (texts : List (List ℕ)) → are_new texts ≡ true → AreApart texts
tested [] new = tt
tested (text ∷ texts) new =
    let parts = and_parts (is_new text texts) (are_new texts) new in
    (new_unlike text texts parts.0, tested texts parts.1)
