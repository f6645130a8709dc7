use Rattle.text_lines.specs.Lines.{is_lf}
use Rattle.text_lines.proofs.LineEnds.{first_place_or_length}
use Rattle.text_lines.proofs.lines.long_line_len.Goals as goal

pub returns-clause-value : goal.returns-clause-value
returns-clause-value c = rw c.unwrap_or.ensures (first_place_or_length is_lf c.args.text.now c.memchr.result c.memchr.ensures)
