use Rattle.std.proofs.Common.{◌≡◌, ◌++◌, length}
use Rattle.text_lines.specs.Lines.{lines_of, text_of}
use Rattle.terminal_text.specs.Colors.{colored_lines}
use Rattle.terminal_text.proofs.painted.colored.Given as goal

abbrev pub invariant-loop-line : goal.invariant-loop-line
invariant-loop-line l =
    l.shown.items ++ text_of (colored_lines (lines_of l.text) (lines_of l.rest)) ≡ text_of (colored_lines (lines_of l.text) (lines_of l.text))

abbrev pub decreases-loop-line : goal.decreases-loop-line
decreases-loop-line l = length l.rest
