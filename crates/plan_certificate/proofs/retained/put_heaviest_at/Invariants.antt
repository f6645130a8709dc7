use Rattle.std.proofs.Common.{◌*◌, ◌≤◌, length, take}
use Rattle.std.specs.List.{flat_map}
use Rattle.plan_certificate.specs.States.{paths_of_app}
use Rattle.plan_certificate.specs.Moves.{AreHeaviest, moves_of}
use Rattle.plan_certificate.proofs.retained.put_heaviest_at.Given as goal

-- the heaviest of the Applications so far
abbrev pub invariant-loop-app : goal.invariant-loop-app
invariant-loop-app l = record {
  heaviest : AreHeaviest (moves_of l.advert l.weights l.kept (flat_map (λ app. paths_of_app l.host app.number) (take l.app-index l.app-items))) l.heaviest.items;
  few : length l.heaviest.items ≤ 8 * l.app-index;
}
