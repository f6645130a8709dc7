use Rattle.command_line.proofs.commands.command.read_and_answer.Goals as goal

pub returns-clause-taken : goal.returns-clause-taken
returns-clause-taken g c =
    let taken = c.in-Ok.ensures.taken in
    (taken.0, record { consumed = taken.1.consumed; within = taken.1.within; at_once = λ more. let long = taken.1.at_once more in cc })
