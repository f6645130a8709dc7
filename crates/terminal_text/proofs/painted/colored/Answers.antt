use Rattle.text_lines.specs.Lines.{lines_of, text_of}
use Rattle.terminal_text.specs.Colors.{colored_lines}
use Rattle.terminal_text.proofs.PaintedLines.{pushed}
use Rattle.terminal_text.proofs.painted.colored.Goals as goal

pub loop-line-preserved : goal.loop-line-preserved
loop-line-preserved c =
    let all = lines_of c.args.text.now in
    pushed all (lines_of c.loop-line.rest.now) (lines_of c.in-Some.after.now) c.in-Some.line.now c.loop-line.shown.items c.push_painted.new.shown.items
    (text_of (colored_lines all all)) c.in-Some.ensures.lines c.loop-line.invariant (rw c.alert_of.ensures at c.in_ok-push_painted.ensures)
