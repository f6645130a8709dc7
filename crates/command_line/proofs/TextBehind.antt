-- The parts of an input with a text behind it and a line `---`.
use Rattle.std.proofs.Common.{◌≡◌, ◌≢◌, ℕ, ◌<◌, Bool, true, false, cond, List, [], ◌∷◌, ◌++◌, length, map, codes, refl, ap, ◌∙◌, inl, inr, arith}
use Rattle.std.specs.Cmp.Lexicographic.{bytes_decides}
use Rattle.std.specs.List.{All, concat, slice_split, onto_first, before_first}
use Rattle.std.specs.Str.{bytes_eq}
use Rattle.std.proofs.lemmas.Bool.{false_from_ne_true, or_cases}
use Rattle.std.proofs.lemmas.List.{map-append}
use Rattle.std.proofs.lemmas.List.Splits.{length-slice_split, slice_split-cons_yes, slice_split_none}
use Rattle.text_lines.specs.Lines.{is_lf, ended_lines}
use Rattle.text_lines.proofs.LineEnds.{first_ended_line}
use Rattle.command_line.specs.Parts.{is_separator_line, parts_of}
use Rattle.command_line.specs.PlanThenCheck.{input_with}

-- what stands behind some lists is left as it is where one more item comes before them
kept_behind : {X : Type 0} (b : Bool) (item : X) (own : List X) (lists rest : List (List X)) → 0 < length lists
    → cond b (own ∷ (lists ++ rest)) (onto_first item (lists ++ rest)) ≡ cond b (own ∷ lists) (onto_first item lists) ++ rest
kept_behind true item own lists rest some = refl
kept_behind false item own [] rest some = absurd (omega arith)
kept_behind false item own (list ∷ lists) rest some = refl

has_lines : (text : List ℕ) → text ≢ [] → 0 < length (ended_lines text)
has_lines text some = omega (arith, ap (λ (l : List (List ℕ)). length l) (first_ended_line text some))

is_some : (before : List ℕ) → before ++ 10 ∷ [] ≢ []
is_some [] e = cc
is_some (byte ∷ before) e = cc

lines_behind : (before text : List ℕ) → ended_lines ((before ++ 10 ∷ []) ++ text) ≡ ended_lines (before ++ 10 ∷ []) ++ ended_lines text
lines_behind [] text = refl
lines_behind (byte ∷ before) text =
    ap (λ l. cond (is_lf byte) ((byte ∷ []) ∷ l) (onto_first byte l)) (lines_behind before text)
    ∙ kept_behind (is_lf byte) byte (byte ∷ []) (ended_lines (before ++ 10 ∷ [])) (ended_lines text) (has_lines _ (is_some before))

split_behind : (lines : List (List ℕ)) (line : List ℕ) (rest : List (List ℕ)) → is_separator_line line ≡ true
    → slice_split is_separator_line (lines ++ line ∷ rest) ≡ slice_split is_separator_line lines ++ slice_split is_separator_line rest
split_behind [] line rest is = slice_split-cons_yes is_separator_line line rest is
split_behind (first ∷ lines) line rest is =
    ap (λ l. cond (is_separator_line first) ([] ∷ l) (onto_first first l)) (split_behind lines line rest is)
    ∙ kept_behind (is_separator_line first) first [] (slice_split is_separator_line lines) (slice_split is_separator_line rest)
    (omega (arith, length-slice_split is_separator_line lines))

pub parts_behind : (before text : List ℕ) → parts_of (input_with (before ++ 10 ∷ []) text) ≡ parts_of (before ++ 10 ∷ []) ++ parts_of text
unfolding parts_of
parts_behind before text =
    ap (λ l. map concat (slice_split is_separator_line l)) (lines_behind before (codes "---\n" ++ text))
    ∙ ap (map concat) (split_behind (ended_lines (before ++ 10 ∷ [])) (codes "---\n") (ended_lines text) refl)
    ∙ map-append concat (slice_split is_separator_line (ended_lines (before ++ 10 ∷ []))) (slice_split is_separator_line (ended_lines text))

-- ---- a text without such a line is one part

line_on : (b : Bool) (byte : ℕ) (lines : List (List ℕ)) → concat (cond b ((byte ∷ []) ∷ lines) (onto_first byte lines)) ≡ byte ∷ concat lines
line_on true byte lines = refl
line_on false byte [] = refl
line_on false byte (line ∷ lines) = refl

together_again : (text : List ℕ) → concat (ended_lines text) ≡ text
together_again [] = refl
together_again (byte ∷ text) = line_on (is_lf byte) byte (ended_lines text) ∙ ap (λ l. byte ∷ l) (together_again text)

pub is_one_part : (text : List ℕ) → All (λ line. is_separator_line line ≡ false) (ended_lines text) → parts_of text ≡ text ∷ []
unfolding parts_of
is_one_part text plain = ap (map concat) (slice_split_none is_separator_line (ended_lines text) plain) ∙ ap (λ l. l ∷ []) (together_again text)

is_dashes : (line : List ℕ) → is_separator_line line ≡ true → before_first is_lf line ≡ codes "---"
is_dashes line e =
    elim (or_cases (bytes_eq line (codes "---")) (bytes_eq line (codes "---\n")) e) [
      | inl bare ↦ ap (before_first is_lf) ((bytes_decides line (codes "---")).0 bare)
      | inr ended ↦ ap (before_first is_lf) ((bytes_decides line (codes "---\n")).0 ended)
    ]

pub is_plain : (line : List ℕ) → before_first is_lf line ≢ codes "---" → is_separator_line line ≡ false
is_plain line other = false_from_ne_true (is_separator_line line) (λ e. other (is_dashes line e))
