-- The lines of a written text are those that were written.
use Rattle.std.proofs.Common.{◌≡◌, ℕ, suc, ◌+◌, Bool, true, not, List, [], ◌∷◌, ◌++◌, map, refl, ap, ◌∙◌, append_assoc, arith}
use Rattle.std.specs.List.{AllByRecursion, list_all, before_first, position_or_len}
use Rattle.std.proofs.lemmas.List.Sums.{list_all-from_AllPass}
use Rattle.std.proofs.lemmas.Bool.{and_parts, not-true}
use Rattle.text_lines.specs.Lines.{is_lf, ended_lines, lines_of, text_of, HasNoLf}

abbrev no_lf : List ℕ → Bool
no_lf line = list_all (λ byte. not (is_lf byte)) line

ended_first : (line rest : List ℕ) → no_lf line ≡ true → ended_lines (line ++ 10 ∷ rest) ≡ (line ++ 10 ∷ []) ∷ ended_lines rest
ended_first [] rest h = refl
ended_first (byte ∷ line) rest h =
    let parts = and_parts (not (is_lf byte)) (no_lf line) h in
    rw (not-true (is_lf byte) parts.0, ended_first line rest parts.1) refl

before_lf : (line : List ℕ) → no_lf line ≡ true → before_first is_lf (line ++ 10 ∷ []) ≡ line
before_lf [] h = refl
before_lf (byte ∷ line) h =
    let parts = and_parts (not (is_lf byte)) (no_lf line) h in
    let place = position_or_len is_lf (line ++ 10 ∷ []) in
    let one : 1 + place ≡ suc place = omega arith in
    rw (parts.0, one) (ap (λ l. byte ∷ l) (before_lf line parts.1))

-- the first line of a written text
pub first_written : (line rest : List ℕ) → HasNoLf line → lines_of (line ++ 10 ∷ rest) ≡ line ∷ lines_of rest
first_written line rest clean =
    let h = list_all-from_AllPass _ line clean in
    ap (map (before_first is_lf)) (ended_first line rest h) ∙ ap (λ l. l ∷ lines_of rest) (before_lf line h)

pub lines_of-text_of : (lines : List (List ℕ)) → AllByRecursion HasNoLf lines → lines_of (text_of lines) ≡ lines
lines_of-text_of [] h = refl
lines_of-text_of (line ∷ lines) h =
    ap lines_of (append_assoc line (10 ∷ []) (text_of lines)) ∙ first_written line (text_of lines) h.0 ∙ ap (λ l. line ∷ l) (lines_of-text_of lines h.1)
