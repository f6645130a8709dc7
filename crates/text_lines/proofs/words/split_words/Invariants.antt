use Rattle.std.proofs.Common.{◌≡◌, ◌++◌, map}
use Rattle.text_lines.specs.Words.{words_of}
use Rattle.text_lines.specs.WordsLeft.{words_left}
use Rattle.text_lines.proofs.words.split_words.Given as goal

-- the words so far, and those that are left, are all
abbrev pub invariant-loop-word : goal.invariant-loop-word
invariant-loop-word g l = map (λ word. word.now) l.words.items ++ words_left l.word-iterator ≡ words_of l.line
