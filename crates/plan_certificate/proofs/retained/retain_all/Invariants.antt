use Rattle.std.proofs.Common.{◌+◌, ◌++◌, ◌≤◌, List, length, take}
use Rattle.plan_certificate.specs.declared.moves.Move.{Move}
use Rattle.plan_certificate.specs.Moves.{AreHeaviest}
use Rattle.plan_certificate.proofs.retained.retain_all.Given as goal

-- the heaviest with those so far
abbrev pub invariant-loop-one : goal.invariant-loop-one
invariant-loop-one l = record {
  heaviest : (before : List Move) → AreHeaviest before l.initial.retained.items → AreHeaviest (before ++ take l.one-index l.moves) l.retained.items;
  few : length l.retained.items ≤ length l.initial.retained.items + l.one-index;
}
