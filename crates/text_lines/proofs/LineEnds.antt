-- Where the first line of a text ends.
use Rattle.std.proofs.Common.{◌≡◌, ◌≢◌, ℕ, ◌+◌, ◌<◌, Bool, true, false, cond, not, List, [], ◌∷◌, Option, Some, None, length, take, drop, map, refl, sym, ap, inl, inr, ◌∙◌, arith, add-one}
use Rattle.std.specs.Prelude.{unwrap_or}
use Rattle.std.specs.List.{position, position_or_len, before_first, onto_first}
use Rattle.std.proofs.lemmas.Bool.{cases_lt, lt-ltb, le-ltb}
use Rattle.std.proofs.lemmas.List.{get_or-take, length-take, take-take}
use Rattle.std.proofs.lemmas.List.Sums.{fails_before_first, passes_at_first, position_or_len_is, prefix_len-le-length}
use Rattle.memchr.specs.Find.{IsFirstByte}
use Rattle.text_lines.specs.Lines.{is_lf, ended_lines, lines_of}

fails : (b : Bool) → (b ≡ true → ⊥) → b ≡ false
fails true not = absurd (not refl)
fails false not = refl

-- what a search for a byte finds is where the bytes before the first such end
pub first_place_or_length : (p : ℕ → Bool) (bytes : List ℕ) (found : Option ℕ) → IsFirstByte p bytes found → unwrap_or found (length bytes) ≡ position_or_len p bytes
first_place_or_length p bytes None nowhere =
    sym (position_or_len_is p bytes (length bytes) 0 (omega arith) (λ k below. fails _ (nowhere k (omega arith) below)) (λ past. absurd (omega arith)))
first_place_or_length p bytes (Some place) found =
    sym (position_or_len_is p bytes place 0 (omega (arith, found.0.high)) (λ k below. fails _ (found.0.before k (omega arith) below)) (λ within. found.1))

-- what a search by position finds
pub place_or_length : (p : ℕ → Bool) (bytes : List ℕ) → unwrap_or (position p bytes) (length bytes) ≡ position_or_len p bytes
place_or_length p bytes =
    let place = position_or_len p bytes in
    elim (cases_lt place (length bytes)) [
      | inl within ↦ ap (λ b. unwrap_or (cond b (Some place) None) (length bytes)) (lt-ltb _ _ within)
      | inr past ↦
          ap (λ b. unwrap_or (cond b (Some place) None) (length bytes)) (le-ltb _ _ past) ∙ omega (arith, past, prefix_len-le-length (λ byte. not (p byte)) bytes)
    ]

-- one more byte before a line that is known, or an LF
first_line_more : (byte n : ℕ) (text : List ℕ) (b : Bool) → onto_first byte (ended_lines text) ≡ (byte ∷ take n text) ∷ ended_lines (drop n text)
    → cond b ((byte ∷ []) ∷ ended_lines text) (onto_first byte (ended_lines text)) ≡ take (cond (not b) n 0 + 1) (byte ∷ text) ∷ ended_lines (drop (cond (not b) n 0 + 1) (byte ∷ text))
first_line_more byte n text true e = refl
first_line_more byte n text false e = rw add-one e

-- the first line goes up to its LF, or to the end
pub first_ended_line : (text : List ℕ) → text ≢ [] → ended_lines text ≡ take (position_or_len is_lf text + 1) text ∷ ended_lines (drop (position_or_len is_lf text + 1) text)
first_ended_line [] some = absurd (some refl)
first_ended_line (byte ∷ []) some = first_line_more byte _ [] (is_lf byte) refl
first_ended_line (byte ∷ next ∷ text) some =
    let rest = first_ended_line (next ∷ text) (λ e. cc) in
    let swap : 1 + position_or_len is_lf (next ∷ text) ≡ position_or_len is_lf (next ∷ text) + 1 = omega arith in
    first_line_more byte _ (next ∷ text) (is_lf byte) (rw swap (ap (onto_first byte) rest))

line_before : (text : List ℕ) → before_first is_lf (take (position_or_len is_lf text + 1) text) ≡ take (position_or_len is_lf text) text
line_before text =
    let place = position_or_len is_lf text in
    let read = λ (k : ℕ) (below : k < place + 1). get_or-take (place + 1) text k 0 below in
    let same : position_or_len is_lf (take (place + 1) text) ≡ place =
    position_or_len_is is_lf (take (place + 1) text) place 0 (omega (arith, length-take (place + 1) text, prefix_len-le-length (λ byte. not (is_lf byte)) text))
    (λ k below. ap is_lf (read k (omega arith)) ∙ fails_before_first is_lf text k 0 below)
    (λ within. ap is_lf (read place (omega arith)) ∙ passes_at_first is_lf text 0 (omega (arith, length-take (place + 1) text)))
    in
    ap (λ n. take n (take (place + 1) text)) same ∙ take-take place (place + 1) text (omega arith)

-- without its LF the first line goes up to there
pub first_line : (text : List ℕ) → text ≢ [] → lines_of text ≡ take (position_or_len is_lf text) text ∷ lines_of (drop (position_or_len is_lf text + 1) text)
first_line text some =
    ap (map (before_first is_lf)) (first_ended_line text some)
    ∙ ap (λ (line : List ℕ). line ∷ lines_of (drop (position_or_len is_lf text + 1) text)) (line_before text)
