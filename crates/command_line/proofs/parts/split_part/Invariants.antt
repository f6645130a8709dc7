use Rattle.std.proofs.Common.{length}
use Rattle.command_line.proofs.PartCuts.{Passed}
use Rattle.command_line.proofs.parts.split_part.Given as goal

abbrev pub invariant-loop-line : goal.invariant-loop-line
invariant-loop-line l = Passed l.text l.rest l.len

abbrev pub decreases-loop-line : goal.decreases-loop-line
decreases-loop-line l = length l.rest
