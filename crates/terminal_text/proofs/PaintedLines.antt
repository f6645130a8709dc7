-- Lines are pushed one by one; what comes of them without escape sequences.
use Rattle.std.proofs.Common.{◌≡◌, ◌∙◌, ℕ, Bool, true, false, not, List, [], ◌∷◌, ◌++◌, codes, Option, Some, None, refl, sym, ap, append_assoc}
use Rattle.std.specs.List.{AllByRecursion, list_all}
use Rattle.std.proofs.lemmas.List.Sums.{list_all-from_AllPass}
use Rattle.std.proofs.lemmas.Bool.{and_parts, not-true}
use Rattle.text_lines.specs.Lines.{HasNoLf, text_of}
use Rattle.text_lines.proofs.WrittenLines.{lines_of-text_of}
use Rattle.terminal_text.specs.Alerts.{alert_of}
use Rattle.terminal_text.specs.Colors.{colored, colored_lines, painted}
use Rattle.terminal_text.specs.Escapes.{IsPlain, is_escape, outside, without_escapes}
use Rattle.terminal_text.specs.declared.alert.Alert.{Alert}
use Rattle.terminal_text.specs.declared.alert.Alert.TheVariants.{Alarm, Warning}

-- one more line
pub pushed : (all left lines : List (List ℕ)) (line before after whole : List ℕ) → left ≡ line ∷ lines → before ++ text_of (colored_lines all left) ≡ whole
    → after ≡ before ++ (painted (alert_of all line) line ++ 10 ∷ []) → after ++ text_of (colored_lines all lines) ≡ whole
pushed all left lines line before after whole first h is =
    ap (λ (b : List ℕ). b ++ text_of (colored_lines all lines)) is
    ∙ append_assoc before (painted (alert_of all line) line ++ 10 ∷ []) (text_of (colored_lines all lines))
    ∙ ap (λ (ls : List (List ℕ)). before ++ text_of (colored_lines all ls)) (sym first)
    ∙ h

abbrev no_escape : List ℕ → Bool
no_escape line = list_all (λ byte. not (is_escape byte)) line

-- a line passes, whatever ends it
passes : (line end rest : List ℕ) → no_escape line ≡ true → outside false (((line ++ end) ++ 10 ∷ []) ++ rest) ≡ line ++ outside false ((end ++ 10 ∷ []) ++ rest)
passes [] end rest h = refl
passes (byte ∷ line) end rest h =
    let parts = and_parts (not (is_escape byte)) (no_escape line) h in
    rw (not-true (is_escape byte) parts.0, passes line end rest parts.1) refl

painted_passes : (alert : Option Alert) (line rest : List ℕ) → no_escape line ≡ true
    → outside false ((painted alert line ++ 10 ∷ []) ++ rest) ≡ line ++ 10 ∷ outside false rest
painted_passes None line rest h = passes line [] rest h
painted_passes (Some Alarm) line rest h = passes line (27 ∷ codes "[0m") rest h
painted_passes (Some Warning) line rest h = passes line (27 ∷ codes "[0m") rest h

all_pass : (all lines : List (List ℕ)) → AllByRecursion IsPlain lines → outside false (text_of (colored_lines all lines)) ≡ text_of lines
all_pass all [] h = refl
all_pass all (line ∷ lines) h =
    let plain = list_all-from_AllPass _ line h.0.1 in
    painted_passes (alert_of all line) line (text_of (colored_lines all lines)) plain
    ∙ ap (λ (rest : List ℕ). line ++ 10 ∷ rest) (all_pass all lines h.1)
    ∙ sym (append_assoc line (10 ∷ []) (text_of lines))

no_lf : (lines : List (List ℕ)) → AllByRecursion IsPlain lines → AllByRecursion HasNoLf lines
no_lf [] h = h
no_lf (line ∷ lines) h = (h.0.0, no_lf lines h.1)

pub plain_again : (lines : List (List ℕ)) → AllByRecursion IsPlain lines → without_escapes (colored (text_of lines)) ≡ text_of lines
unfolding colored
plain_again lines h =
    ap (λ (ls : List (List ℕ)). outside false (text_of (colored_lines ls ls))) (lines_of-text_of lines (no_lf lines h)) ∙ all_pass lines lines h
