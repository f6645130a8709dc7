use Rattle.std.proofs.Common.{◌≡◌, ◌++◌, map, take}
use Rattle.plan_reports.specs.ProcedureJson.{step_json}
use Rattle.report_entries.specs.JsonTrees.{all_tokens}
use Rattle.plan_reports.proofs.json_procedure.put_each_step.Given as goal

-- the steps so far
abbrev pub invariant-loop-step : goal.invariant-loop-step
invariant-loop-step l = l.out ≡ l.initial.out ++ all_tokens (map step_json (take l.step-index l.steps))
