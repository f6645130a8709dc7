use Rattle.std.proofs.Common.{◌≢◌, []}
use Rattle.text_lines.proofs.LineEnds.{first_line}
use Rattle.text_lines.proofs.lines.split_line.Goals as goal

pub returns-clause-lines : goal.returns-clause-lines
returns-clause-lines c =
    let some : c.args.text.now ≢ [] = λ e. let none = rw e at c.is_empty.ensures in cc in
    rw (c.parts_at.ensures.line, c.parts_at.ensures.rest, c.line_len.ensures.value) (first_line c.args.text.now some)
