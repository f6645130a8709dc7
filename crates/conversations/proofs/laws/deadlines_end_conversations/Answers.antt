use Rattle.std.proofs.Common.{subst, sym}
use Rattle.std.specs.Prelude.{◌≤◌, ℕ}
use Rattle.conversations.proofs.PausingLaws.{idle_few, overdue_from, overdue_if}
use Rattle.conversations.proofs.laws.deadlines_end_conversations.Goals as goal

pub returns-clause-exactly : goal.returns-clause-exactly
returns-clause-exactly c due idle patience wanted = (overdue_if due idle patience wanted, overdue_from due idle patience wanted)

pub returns-clause-never : goal.returns-clause-never
returns-clause-never c patience own events wanted due idle adds most = subst (λ (n : ℕ). idle ≤ n) (sym most) (idle_few patience own events wanted due idle adds)
