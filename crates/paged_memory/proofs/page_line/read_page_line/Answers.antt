use Rattle.std.proofs.Common.{◌≤◌, length, arith}
use Rattle.text_lines.specs.Words.{words_of}
use Rattle.paged_memory.proofs.PageLines.{words_from_line, entry_of_line, word_count}
use Rattle.paged_memory.proofs.page_line.read_page_line.Goals as goal

pub returns-in_default : goal.returns-in_default
returns-in_default c = λ key page h.
    let few : length (words_of c.args.line.now) ≤ 5 = rw (words_from_line c.args.line.now key page h.0 h.1) (word_count key page) in
    omega (arith, c.in_default.ensures)

pub returns : goal.returns
returns c = entry_of_line c.args.line.now _ c.read_entry.result (rw c.deref.ensures.0 c.in-Some.ensures) c.read_entry.ensures
