use Rattle.std.proofs.Common.{◌≡◌, ◌++◌, map, take}
use Rattle.text_lines.specs.Lines.{text_of}
use Rattle.observable_reports.specs.ObservationText.{observation_line}
use Rattle.observable_reports.proofs.report.push_observations.Given as goal

-- the observations so far
abbrev pub invariant-loop-observation : goal.invariant-loop-observation
invariant-loop-observation l = l.report ≡ l.initial.report ++ text_of (map observation_line (take l.observation-index l.seen))
