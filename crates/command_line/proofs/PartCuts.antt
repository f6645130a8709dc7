-- How the first part of an input is found, line by line.
use Rattle.std.proofs.Common.{◌≡◌, ℕ, suc, ◌+◌, ◌≤◌, true, false, cond, List, [], ◌∷◌, ◌++◌, length, take, map, refl, sym, ap, ◌∙◌, append_assoc, arith}
use Rattle.std.specs.List.{concat, slice_split, onto_first}
use Rattle.std.proofs.lemmas.List.{append-nil, length-append, length-map, take_at}
use Rattle.std.proofs.lemmas.List.Splits.{slice_split-cons_no, slice_split-cons_yes, length-slice_split}
use Rattle.std.proofs.lemmas.List.Sums.{count_by-le-length}
use Rattle.text_lines.specs.Lines.{is_lf, ended_lines}
use Rattle.command_line.specs.Parts.{is_separator_line, parts_of}

-- so many bytes of the text stand before the rest, and come before the first part of it
pub record Passed (text rest : List ℕ) (len : ℕ) : Type 0 where
  pub before : List ℕ
  pub all : text ≡ before ++ rest
  pub long : length before ≡ len
  pub within : len ≤ length text
  pub joined : (part : List ℕ) (more : List (List ℕ)) → parts_of rest ≡ part ∷ more → parts_of text ≡ (before ++ part) ∷ more

line_first : (line : List ℕ) (lines : List (List (List ℕ))) (part : List ℕ) (more : List (List ℕ)) → map concat lines ≡ part ∷ more
    → map concat (onto_first line lines) ≡ (line ++ part) ∷ more
line_first line [] part more e = cc
line_first line (first ∷ lines) part more e = cc

pub one_passed : (text rest line after : List ℕ) (len : ℕ) → Passed text rest len → ended_lines rest ≡ line ∷ ended_lines after → rest ≡ line ++ after → is_separator_line line ≡ false
    → Passed text after (len + length line)
unfolding parts_of
one_passed text rest line after len passed lines bytes plain =
    let all : text ≡ (passed.before ++ line) ++ after = passed.all ∙ ap (λ l. passed.before ++ l) bytes ∙ sym (append_assoc passed.before line after) in
    let long : length (passed.before ++ line) ≡ len + length line = length-append passed.before line ∙ ap (λ n. n + length line) passed.long in
    record {
      before = passed.before ++ line;
      all = all;
      long = long;
      within = omega (arith, long, simp length-append at (ap (λ (l : List ℕ). length l) all));
      joined = λ part more e.
          passed.joined (line ++ part) more (ap (λ l. map concat (slice_split is_separator_line l)) lines
          ∙ ap (map concat) (slice_split-cons_no is_separator_line line (ended_lines after) plain) ∙ line_first line _ part more e)
          ∙ ap (λ l. l ∷ more) (sym (append_assoc passed.before line part));
    }

-- a separator ends the part
pub part_ends : (text rest line after : List ℕ) (len : ℕ) → Passed text rest len → ended_lines rest ≡ line ∷ ended_lines after → is_separator_line line ≡ true
    → parts_of text ≡ take len text ∷ parts_of after
unfolding parts_of
part_ends text rest line after len passed lines is =
    passed.joined [] (parts_of after) (ap (λ l. map concat (slice_split is_separator_line l)) lines ∙ ap (map concat) (slice_split-cons_yes is_separator_line line (ended_lines after) is))
    ∙ ap (λ l. l ∷ parts_of after) (append-nil passed.before ∙ sym (ap (take len) passed.all ∙ take_at passed.before rest len passed.long))

-- without one the text is the part
pub part_is_all : (text : List ℕ) (len : ℕ) → Passed text [] len → parts_of text ≡ text ∷ []
unfolding parts_of
part_is_all text len passed = passed.joined [] [] refl ∙ ap (λ l. l ∷ []) (sym passed.all)

ended_count : (text : List ℕ) → length (ended_lines text) ≤ length text
ended_count [] = omega arith
ended_count (byte ∷ text) =
    let rest = ended_count text in
    elim (is_lf byte) as (λ b. length (cond b ((byte ∷ []) ∷ ended_lines text) (onto_first byte (ended_lines text))) ≤ suc (length text)) [
      | true ↦ omega arith
      | false ↦ onto_count byte (ended_lines text) (length text) rest
    ]
  where
    onto_count : (b : ℕ) (lines : List (List ℕ)) (n : ℕ) → length lines ≤ n → length (onto_first b lines) ≤ suc n
    onto_count b [] n h = omega arith
    onto_count b (line ∷ lines) n h = omega arith

-- an input has at most one part more than bytes
pub part_count : (input : List ℕ) → length (parts_of input) ≤ length input + 1
unfolding parts_of
part_count input =
    let lines = ended_lines input in
    omega (arith, length-map (slice_split is_separator_line lines) concat, length-slice_split is_separator_line lines, count_by-le-length is_separator_line lines, ended_count input)
