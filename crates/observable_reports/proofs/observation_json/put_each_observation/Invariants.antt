use Rattle.std.proofs.Common.{◌≡◌, ◌++◌, map, take}
use Rattle.report_entries.specs.JsonTrees.{all_tokens}
use Rattle.observable_reports.specs.ObservationJson.{observation_json}
use Rattle.observable_reports.proofs.observation_json.put_each_observation.Given as goal

-- the observations so far
abbrev pub invariant-loop-observation : goal.invariant-loop-observation
invariant-loop-observation l = l.out ≡ l.initial.out ++ all_tokens (map observation_json (take l.observation-index l.seen))
