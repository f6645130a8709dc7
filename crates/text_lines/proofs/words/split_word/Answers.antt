use Rattle.std.proofs.lemmas.List.{take_rest}
use Rattle.text_lines.specs.Words.{is_space}
use Rattle.text_lines.proofs.WordCuts.{split_at_place, split_nowhere}
use Rattle.text_lines.proofs.words.split_word.Goals as goal

pub returns-in-Some : goal.returns-in-Some
returns-in-Some c = rw take_rest (split_at_place is_space c.args.line.now 0 c.in-Some.end c.in-Some.ensures.place)

pub returns-in-None : goal.returns-in-None
returns-in-None c = split_nowhere is_space c.args.line.now c.in-None.ensures.place
