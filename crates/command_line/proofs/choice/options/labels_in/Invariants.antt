use Rattle.std.proofs.Common.{◌≡◌, [], drop, map}
use Rattle.command_line.specs.Options.{labels_with}
use Rattle.command_line.proofs.choice.options.labels_in.Given as goal

-- the labels of the words so far come before those of the others
abbrev pub invariant-loop-word : goal.invariant-loop-word
invariant-loop-word l = labels_with [] (map (λ word. word.now) l.words) ≡ labels_with l.labels (map (λ word. word.now) (drop l.word-index l.words))
