use Rattle.std.proofs.Common.{◌≤◌, length, arith}
use Rattle.text_lines.specs.Words.{words_of}
use Rattle.plan_certificate.proofs.LineWords.{words_of-line_text, line_of_words, word_count}
use Rattle.plan_certificate.proofs.line.read_line.Goals as goal

pub returns-in_default : goal.returns-in_default
returns-in_default c = λ line fits spelled.
    let few : length (words_of c.args.bytes.now) ≤ 4 = rw (spelled, words_of-line_text line fits) (word_count line) in
    omega (arith, c.in_default.ensures)

pub returns : goal.returns
returns c = line_of_words c.args.bytes.now _ c.read_words.result (rw c.deref.ensures.0 c.in-Some.ensures) c.read_words.ensures
