use Rattle.terminal_text.proofs.PaintedLines.{plain_again}
use Rattle.terminal_text.proofs.laws.colors_take_nothing_away.Goals as goal

pub returns : goal.returns
returns c = plain_again
