use Rattle.std.proofs.Common.{◌≡◌, ◌++◌, map, take}
use Rattle.text_lines.specs.Lines.{text_of}
use Rattle.plan_reports.specs.PlanText.{path_line}
use Rattle.plan_reports.proofs.plan.push_paths.Given as goal

-- the paths so far
abbrev pub invariant-loop-path : goal.invariant-loop-path
invariant-loop-path l = l.report ≡ l.initial.report ++ text_of (map (path_line l.advert) (take l.path-index l.paths))
