use Rattle.std.proofs.Common.{◌≡◌, ◌+◌, ◌≤◌, ◌++◌, length}
use Rattle.plan_certificate.proofs.MoveLists.{paths_at_media}
use Rattle.plan_certificate.specs.Moves.{moves_of}
use Rattle.plan_certificate.proofs.moves.push_moves.Given as goal

-- the moves so far
abbrev pub invariant-loop-before : goal.invariant-loop-before
invariant-loop-before g l = record {
  moves : l.moves.items ≡ l.initial.moves.items ++ moves_of l.advert l.weights l.kept (paths_at_media l.host l.app l.before);
  few : length l.moves.items ≤ length l.initial.moves.items + l.before;
}
