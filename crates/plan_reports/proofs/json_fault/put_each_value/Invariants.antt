use Rattle.std.proofs.Common.{◌≡◌, ◌++◌, drop, false, map}
use Rattle.plan_reports.specs.FaultJson.{values_from}
use Rattle.report_entries.specs.JsonTrees.{all_tokens}
use Rattle.plan_reports.proofs.json_fault.put_each_value.Given as goal

-- what is there and what is left are the whole
abbrev pub invariant-loop-word : goal.invariant-loop-word
invariant-loop-word l =
    l.out ++ all_tokens (values_from l.in_key (map (λ word. word.items) (drop l.word-index l.values)))
    ≡ l.initial.out ++ all_tokens (values_from false (map (λ word. word.items) l.values))
