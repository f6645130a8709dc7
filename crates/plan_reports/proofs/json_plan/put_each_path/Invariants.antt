use Rattle.std.proofs.Common.{◌≡◌, ◌++◌, map, take}
use Rattle.plan_reports.specs.PlanJson.{path_json}
use Rattle.report_entries.specs.JsonTrees.{all_tokens}
use Rattle.plan_reports.proofs.json_plan.put_each_path.Given as goal

-- the paths so far
abbrev pub invariant-loop-path : goal.invariant-loop-path
invariant-loop-path l = l.out ≡ l.initial.out ++ all_tokens (map (path_json l.advert) (take l.path-index l.paths))
