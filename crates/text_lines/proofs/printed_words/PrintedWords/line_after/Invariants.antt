use Rattle.std.proofs.Common.{◌∷◌, ◌≡◌, ◌+◌, ◌*◌, ◌≤◌, length, map, take}
use Rattle.text_lines.specs.Words.{spaced}
use Rattle.text_lines.proofs.printed_words.PrintedWords.line_after.Given as goal

-- the first word and those so far
abbrev pub invariant-loop-word : goal.invariant-loop-word
invariant-loop-word l = (l.line.items ≡ spaced (l.first ∷ map (λ word. word.items) (take l.word-index l.word-items)))
    × (length l.line.items ≤ 20 + 21 * l.word-index)
