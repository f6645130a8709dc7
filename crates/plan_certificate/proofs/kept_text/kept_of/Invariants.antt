use Rattle.std.proofs.Common.{◌≡◌, ◌++◌, length}
use Rattle.text_lines.specs.Lines.{lines_of}
use Rattle.plan_certificate.specs.KeptText.{keep_lines, IsKeptList}
use Rattle.plan_certificate.proofs.kept_text.kept_of.Given as goal

-- the lines so far are those of the paths so far
abbrev pub invariant-loop-line : goal.invariant-loop-line
invariant-loop-line l = record {
  lines_are : lines_of l.text ≡ keep_lines l.paths.items ++ lines_of l.rest;
  kept_is : IsKeptList l.paths.items;
}

abbrev pub decreases-loop-line : goal.decreases-loop-line
decreases-loop-line l = length l.rest
