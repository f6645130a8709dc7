use Rattle.std.proofs.Common.{◌≡◌, ◌+◌, ◌++◌, drop, map}
use Rattle.std.specs.List.{enumerate_from}
use Rattle.text_lines.specs.Lines.{text_of}
use Rattle.plan_drawing.specs.Svg.{path_elements}
use Rattle.plan_drawing.proofs.svg.push_paths.Given as goal

-- what is there, and the paths that are left, are the whole
abbrev pub invariant-loop-index : goal.invariant-loop-index
invariant-loop-index l =
    l.initial.out.items ++ text_of (map (path_elements l.advert l.kept) (enumerate_from 1 l.paths))
    ≡ l.out.items ++ text_of (map (path_elements l.advert l.kept) (enumerate_from (l.index + 1) (drop l.index l.paths)))
