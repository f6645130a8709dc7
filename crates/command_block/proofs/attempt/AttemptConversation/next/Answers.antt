use Rattle.std.proofs.Common.{sym, subst}
use Rattle.command_block.specs.declared.outcome.Outcome.{Outcome}
use Rattle.command_block.specs.AttemptEvents.{EndsAttempt}
use Rattle.command_block.proofs.Known.{ends_so, goes_on_so, if_do}
use Rattle.command_block.proofs.attempt.AttemptConversation.next.Goals as goal

pub returns-in-Some-clause-ends : goal.returns-in-Some-clause-ends
returns-in-Some-clause-ends c own told =
    let attempt = c.args.self.now in
    subst (λ (o : Outcome). EndsAttempt attempt.message attempt.timing own o) (sym c.copy.ensures) (ends_so attempt c.in-Some.outcome own c.in-Some.is told)

pub returns-in-None-clause-goes_on : goal.returns-in-None-clause-goes_on
returns-in-None-clause-goes_on c own told = if_do _ (goes_on_so c.args.self.now own c.in-None.is told)
