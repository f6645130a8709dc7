use Rattle.command_line.proofs.commands.check_command.first_if_wanted.Goals as goal

pub returns-then-wants_first : goal.returns-then-wants_first
returns-then-wants_first c = rw c.if-wants_first.true c.first_best.ensures

pub returns-else-wants_first : goal.returns-else-wants_first
returns-else-wants_first c = rw c.if-wants_first.false tt
