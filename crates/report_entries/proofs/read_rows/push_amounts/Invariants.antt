use Rattle.std.proofs.Common.{◌≡◌, ◌++◌, map}
use Rattle.std.specs.List.{range_with_len}
use Rattle.module_decoding.specs.Amounts.{amount_at}
use Rattle.report_entries.proofs.read_rows.push_amounts.Given as goal

-- the amounts so far
abbrev pub invariant-loop-before : goal.invariant-loop-before
invariant-loop-before l = l.amounts.items ≡ l.initial.amounts.items ++ map (amount_at l.image l.field l.power) (range_with_len 1 l.before)
