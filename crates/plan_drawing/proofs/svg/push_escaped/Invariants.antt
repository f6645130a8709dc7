use Rattle.std.proofs.Common.{◌≡◌, ◌++◌, drop}
use Rattle.std.specs.List.{flat_map}
use Rattle.plan_drawing.specs.Svg.{escaped}
use Rattle.plan_drawing.proofs.svg.push_escaped.Given as goal

-- what is there, and the bytes that are left, are the whole
abbrev pub invariant-loop-byte : goal.invariant-loop-byte
invariant-loop-byte l = l.initial.out.items ++ flat_map escaped l.text ≡ l.out.items ++ flat_map escaped (drop l.byte-index l.text)
