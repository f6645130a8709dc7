use Rattle.std.proofs.Common.{◌≤◌, ◌+◌, rules, tests, arith}
use Rattle.std.specs.Prelude.{nat_le}
use Rattle.std.proofs.lemmas.List.Sorted.{IsPartitionPoint-from_clause, IsPartitionedBy-leb}
use Rattle.decibels.specs.Levels.{IsLevel}
use Rattle.decibels.specs.declared.thresholds.TheConstants.{THRESHOLDS}
use Rattle.decibels.proofs.LeastPowers.{level_at, table_rises}
use Rattle.decibels.proofs.levels.level_of_five_digits.Goals as goal

-- what the search in the table says
found : (c : goal.After-partition_point-reached) → (1 ≤ c.partition_point-reached.result) × IsLevel c.args.power (3999 + c.partition_point-reached.result)
found c =
    let power = c.args.power in
    let reached = c.partition_point-reached in
    let rising = IsPartitionedBy-leb (λ y. y) THRESHOLDS.now power table_rises in
    let point = IsPartitionPoint-from_clause (λ y. nat_le y power) THRESHOLDS.now reached.result reached.ensures.partitioned rising (λ a r f k. search (rules, tests)) in
    level_at power reached.result c.requires.five_digits.0 c.requires.five_digits.1 reached.ensures.bound point.0 point.1

pub returns-clause-level : goal.returns-clause-level
returns-clause-level c = (found c).1

pub returns-clause-above : goal.returns-clause-above
returns-clause-above c = omega (arith, (found c).0)
