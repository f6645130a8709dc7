-- What is reported of a good certificate, line after line.
use Rattle.std.proofs.Common.{◌≡◌, ◌∙◌, ℕ, List, [], ◌∷◌, ◌++◌, codes, ap}
use Rattle.std.proofs.lemmas.List.Concat.{flat_map-append}
use Rattle.text_lines.specs.Lines.{text_of}
use Rattle.command_line.specs.CheckCommand.{good_line}

pub good_text_parts : (kept plan first : List (List ℕ))
    → text_of (good_line ∷ kept ++ plan ++ first) ≡ ((codes "good\n" ++ text_of kept) ++ text_of plan) ++ text_of first
unfolding good_line
good_text_parts kept plan first =
    flat_map-append (λ line. line ++ 10 ∷ []) ((good_line ∷ kept) ++ plan) first
    ∙ ap (λ l. l ++ text_of first) (flat_map-append (λ line. line ++ 10 ∷ []) (good_line ∷ kept) plan)
