use Rattle.std.proofs.Common.{◌≡◌, ◌++◌, length, map, take}
use Rattle.command_line.specs.Parts.{parts_left, parts_of}
use Rattle.command_line.proofs.parts.parts.Given as goal

-- the parts so far, of which the first are kept, and those that are left, are all
abbrev pub invariant-loop-part : goal.invariant-loop-part
invariant-loop-part l = (map (λ part. part.now) l.yielded ++ parts_left l.part-iterator ≡ parts_of l.input)
    × (l.found ≡ length l.yielded) × (l.parts.items ≡ take 4 l.yielded)
