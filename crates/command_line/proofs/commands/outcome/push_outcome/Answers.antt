use Rattle.command_line.proofs.ProcedureAnswers.{pushed}
use Rattle.command_line.proofs.commands.outcome.push_outcome.Goals as goal

pub returns : goal.returns
returns c = pushed _ _ _ _ _ _ _ _ _ c.in_ok-push_steps.ensures c.in_ok-push_steps-2.ensures c.in_ok-push_steps-3.ensures c.in_ok-push_active.ensures
