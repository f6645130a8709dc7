use Rattle.std.proofs.Common.{◌≡◌, ◌+◌, drop}
use Rattle.plan_drawing.specs.Choices.{first_smaller}
use Rattle.plan_drawing.proofs.choices.first_smaller.Given as goal

-- none of the choices so far has a smaller sum
abbrev pub invariant-loop-index : goal.invariant-loop-index
invariant-loop-index l = first_smaller l.choices l.sum ≡ l.index + first_smaller (drop l.index l.choices) l.sum
