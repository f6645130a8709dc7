use Rattle.std.proofs.Common.{sym, subst}
use Rattle.conversations.specs.Events.{steps_of}
use Rattle.command_block.specs.declared.outcome.Outcome.{Outcome}
use Rattle.command_block.specs.Attempts.{IsAttempt}
use Rattle.command_block.proofs.Known.{known_shown}
use Rattle.command_block.proofs.attempt.Attempt.known.Goals as goal

pub returns-clause-shown : goal.returns-clause-shown
returns-clause-shown c own told = subst (λ (o : Outcome). IsAttempt c.args.self.now.message (steps_of own) o) (sym c.known_now.ensures) (known_shown c.args.self.now own told)
