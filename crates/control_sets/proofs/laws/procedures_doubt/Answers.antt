use Rattle.std.proofs.Common.{false}
use Rattle.conversations.specs.Events.{steps_of}
use Rattle.conversations.proofs.DoubtLaws.{confirms_stores}
use Rattle.paged_memory.specs.declared.page_addressing.PageAddressing.TheVariants.{BankAndPage}
use Rattle.control_sets.specs.Progress.{needed_after, tasks_of}
use Rattle.control_sets.proofs.laws.procedures_doubt.Goals as goal

pub returns-clause-going : goal.returns-clause-going
returns-clause-going c work events (own, adds, on) = confirms_stores false BankAndPage (λ own. needed_after (tasks_of work) (steps_of own)) own events adds

pub returns-clause-ended : goal.returns-clause-ended
returns-clause-ended c work events fault (own, adds, ended) = confirms_stores false BankAndPage (λ own. needed_after (tasks_of work) (steps_of own)) own events adds
