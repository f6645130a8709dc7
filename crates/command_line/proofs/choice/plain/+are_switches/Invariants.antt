use Rattle.std.proofs.Common.{length}
use Rattle.command_line.proofs.choice.plain.+are_switches.Given as goal

abbrev pub decreases-are_switches : goal.decreases-are_switches
decreases-are_switches l = length l.words.now
