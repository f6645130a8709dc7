use Rattle.std.proofs.Common.{◌≢◌, []}
use Rattle.std.proofs.lemmas.List.{take_min, drop_min}
use Rattle.text_lines.proofs.LineEnds.{first_ended_line}
use Rattle.text_lines.proofs.lines.split_ended_line.Goals as goal

pub returns-clause-lines : goal.returns-clause-lines
returns-clause-lines c =
    let some : c.args.text.now ≢ [] = λ e. let none = rw e at c.is_empty.ensures in cc in
    rw (c.split_at.ensures.front, c.split_at.ensures.back, c.min.ensures, take_min, drop_min, c.long_line_len.ensures.value) (first_ended_line c.args.text.now some)
