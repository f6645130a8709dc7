use Rattle.std.proofs.Common.{◌++◌, ◌≡◌}
use Rattle.text_lines.proofs.printed_words.PrintedWords.and.Given as goal

-- the words so far
abbrev pub invariant-loop-word : goal.invariant-loop-word
invariant-loop-word g l = l.words.items ≡ l.initial.words.items ++ l.yielded
